-- Tests of a state's cores decide the safety conditions.
use Rattle.std.proofs.Common.{◌≡◌, ◌≢◌, ◌<◌, ◌≤◌, ◌+◌, ◌↔◌, ◌∙◌, ℕ, Bool, IsTrue, List, length, map, Option, Some, None, slice_get, slice_index_or, refl, sym, ap, subst, arith}
use Rattle.std.proofs.lemmas.Option.{none-some, slice_get-map, slice_get_read}
use Rattle.std.specs.List.{Contains}
use Rattle.std.specs.Option.{is_some, option_map}
use Rattle.lrpar_grammar.specs.Grammar.{Grammar, GrammarSymbol, Nonterminal, Terminal, prods_len, prod_len, symbols_of}
use Rattle.lrpar_grammar.specs.Symbols.{symbol_of}
use Rattle.lrpar_grammar_places.specs.declared.span.PIdx.{PIdx}
use Rattle.lrpar_grammar_places.specs.declared.span.StIdx.{StIdx}
use Rattle.lrpar_grammar_places.specs.declared.span.Symbol.{Symbol}
use Rattle.lrpar_table_rows.specs.Graph.{Graph, HasCore}
use Rattle.lrpar_table_rows.specs.PlainItems.{core_of}
use Rattle.lrpar_table_rows.specs.PlainRows.{plain_goto}
use Rattle.lrpar_table_conditions.specs.Tested.{HasCoreIn, IsTestable}
use Rattle.lrpar_table_conditions.specs.declared.completeness_test.Completeness.{Completeness}
use Rattle.lrpar_table_rows.specs.Safe.{CoresFollow, GoesBy, HasShape, StepsFromCores}
use Rattle.lrpar_table_rows.specs.Table.{Table, ShiftTo, action_of, goto_of}
use Rattle.lrpar_table_rows.proofs.ItemLemmas.{Contains-image}
use Rattle.lrpar_table_rows.proofs.TestLemmas.{length_by_image}

-- a core that was read is one of the state
pub core_read : {S : Type 0} (index : S → ℕ) (graph : Graph) (s : ℕ) (cores : List (PIdx S × ℕ)) (i : ℕ) (core : PIdx S × ℕ)
    → ((p k : ℕ) → HasCore graph s p k ↔ Contains (map (core_of index) cores) (p, k)) → i < length cores → core ≡ slice_index_or cores i core
    → HasCore graph s (index core.0.0) core.1
core_read index graph s cores i core all below read =
    (all (index core.0.0) core.1).1 (Contains-image (core_of index) cores core (i, below, sym read))

pub begun_read : {S : Type 0} (index : S → ℕ) (graph : Graph) (s : ℕ) (cores : List (PIdx S × ℕ)) (i : ℕ) (core : PIdx S × ℕ)
    → ((p k : ℕ) → (HasCore graph s p k × (0 < k)) ↔ Contains (map (core_of index) cores) (p, k)) → i < length cores
    → core ≡ slice_index_or cores i core → HasCore graph s (index core.0.0) core.1
begun_read index graph s cores i core all below read =
    ((all (index core.0.0) core.1).1 (Contains-image (core_of index) cores core (i, below, sym read))).0

-- and it is of the grammar, if the table has the shape S1
pub core_in_shape : (g : Grammar) (graph : Graph) (table : Table) (s p k : ℕ) → HasShape g graph table → HasCore graph s p k
    → (p < prods_len g) × (k ≤ prod_len g p)
core_in_shape g graph table s p k shape has = let item = shape.items s p k has.0 has.1 in (item.prod, item.dot)

-- so is one that was read
pub core_known_read : {S : Type 0} (index : S → ℕ) (g : Grammar) (graph : Graph) (table : Table) (s : ℕ) (cores : List (PIdx S × ℕ)) (i : ℕ) (core : PIdx S × ℕ)
    → HasShape g graph table → ((p k : ℕ) → HasCore graph s p k ↔ Contains (map (core_of index) cores) (p, k)) → i < length cores
    → core ≡ slice_index_or cores i core → (index core.0.0 < prods_len g) × (core.1 ≤ prod_len g (index core.0.0))
core_known_read index g graph table s cores i core shape all below read =
    core_in_shape g graph table s (index core.0.0) core.1 shape (core_read index graph s cores i core all below read)

pub begun_known_read : {S : Type 0} (index : S → ℕ) (g : Grammar) (graph : Graph) (table : Table) (s : ℕ) (cores : List (PIdx S × ℕ)) (i : ℕ) (core : PIdx S × ℕ)
    → HasShape g graph table → ((p k : ℕ) → (HasCore graph s p k × (0 < k)) ↔ Contains (map (core_of index) cores) (p, k)) → i < length cores
    → core ≡ slice_index_or cores i core → (index core.0.0 < prods_len g) × (core.1 ≤ prod_len g (index core.0.0))
begun_known_read index g graph table s cores i core shape all below read =
    core_in_shape g graph table s (index core.0.0) core.1 shape (begun_read index graph s cores i core all below read)

-- so is a core of a state of the parts that are tested
pub core_known : {S : Type 0} (index : S → ℕ) (parts : Completeness S) (s : StIdx S) (prod : PIdx S) (dot : ℕ) → IsTestable parts → HasCoreIn index parts s prod dot
    → (index prod.0 < prods_len parts.grm.now) × (dot ≤ prod_len parts.grm.now (index prod.0))
core_known index parts s prod dot known core = core_in_shape parts.grm.now parts.sgraph.now parts.stable.now (index s.0) (index prod.0) dot known.shape core

-- a symbol that was read is the symbol of the right side
pub symbol_read : {S : Type 0} (index : S → ℕ) (xs : List (Symbol S)) (ys : List GrammarSymbol) (k : ℕ) (x : Symbol S)
    → map (symbol_of index) xs ≡ ys → k < length xs → x ≡ slice_index_or xs k x → slice_get ys k ≡ Some (symbol_of index x)
symbol_read index xs ys k x is below read =
    subst (λ (zs : List GrammarSymbol). slice_get zs k ≡ Some (symbol_of index x)) is
    (slice_get-map (symbol_of index) xs k ∙ ap (option_map (symbol_of index)) (slice_get_read xs (length xs) k x refl below read))

-- so is the symbol before a dot that is past 0
pub before_read : {S : Type 0} (index : S → ℕ) (xs : List (Symbol S)) (ys : List GrammarSymbol) (dot before : ℕ) (x : Symbol S)
    → map (symbol_of index) xs ≡ ys → dot ≡ before + 1 → dot ≤ length ys → x ≡ slice_index_or xs before x → slice_get ys before ≡ Some (symbol_of index x)
before_read index xs ys dot before x are is low read =
    let len = length_by_image (symbol_of index) xs ys are in
    symbol_read index xs ys before x are (omega (arith, is, len, low)) read

-- a goto is found exactly if there is one
pub goto_test : {S : Type 0} (index : S → ℕ) (found : Option (StIdx S)) (goto : Option ℕ) → plain_goto index found ≡ goto
    → IsTrue (is_some found) ↔ ((next : ℕ) × (goto ≡ Some next))
goto_test index (Some s) goto is = (λ _. (index s.0, sym is), λ _. refl)
goto_test index None goto is = (λ h. absurd (cc), λ h. absurd (none-some h.0 (is ∙ h.1)))

-- a test at the number before the dot is a test at each such number
pub before_test : (P : ℕ → Type 0) (dot before : ℕ) (b : Bool) → dot ≡ before + 1 → IsTrue b ↔ P before
    → IsTrue b ↔ ((k : ℕ) → dot ≡ k + 1 → P k)
before_test P dot before b is test = (
  λ h k e. let same : before ≡ k = omega arith in subst P same (test.0 h),
  λ all. test.1 (all before is),
)

-- a test with a known fact decides both
pub beside_test : {A B : Type 0} (b : Bool) → A → IsTrue b ↔ B → IsTrue b ↔ (A × B)
beside_test b known test = (λ h. (known, test.0 h), λ h. test.1 h.1)

-- cores follow if each with a dot past 0 comes from the core one symbol before
pub cores_follow_each : (g : Grammar) (graph : Graph) (s : ℕ) (x : GrammarSymbol) (next : ℕ)
    → ((p k : ℕ) → HasCore graph next p k → (before : ℕ) → k ≡ before + 1 → (slice_get (symbols_of g p) before ≡ Some x) × HasCore graph s p before)
    ↔ CoresFollow g graph s x next
cores_follow_each g graph s x next = (
  λ each p k h. each p (k + 1) h k refl,
  λ follow p k h before e. follow p before (subst (HasCore graph next p) e h),
)

-- transitions are shifts and gotos
pub steps_by_kind : (g : Grammar) (graph : Graph) (table : Table) (s : ℕ)
    → ((t next : ℕ) → action_of table s t ≡ ShiftTo next → CoresFollow g graph s (Terminal t) next)
    → ((r next : ℕ) → goto_of table s r ≡ Some next → CoresFollow g graph s (Nonterminal r) next) → StepsFromCores g graph table s
steps_by_kind g graph table s shifts gotos (Terminal t) next h = shifts t next h
steps_by_kind g graph table s shifts gotos (Nonterminal r) next h = gotos r next h

-- if neither a shift nor a goto leads to a state, no transition does
pub never_by_kind : (table : Table) (s next : ℕ) → ((t : ℕ) → action_of table s t ≢ ShiftTo next) → ((r : ℕ) → goto_of table s r ≢ Some next)
    → (x : GrammarSymbol) → ¬ (GoesBy table s x next)
never_by_kind table s next shifts gotos (Terminal t) h = shifts t h
never_by_kind table s next shifts gotos (Nonterminal r) h = gotos r h
