-- The rules that the items of a state wait for: those after their dots. Each is listed with an item that has it after its dot.
use Rattle.std.specs.Prelude.{◌≡◌, ◌<◌, ◌+◌, ◌⊎◌, ℕ, Bool, IsTrue, false, true, List, [], ◌∷◌, ◌++◌, Some, drop, length, map, slice_get, slice_set, take, Vec}
use Rattle.std.specs.List.{Contains}
use Rattle.lrpar_grammar.specs.Grammar.{Grammar, GrammarSymbol, Nonterminal, prods_len, rule_of, rules_len, start_prod, symbols_of}
use Rattle.lrpar_table_rows.specs.Graph.{Graph, HasCore}
use Rattle.lrpar_table_rows.specs.Table.{Table}
use Rattle.lrpar_grammar_places.specs.declared.span.StIdx.{StIdx}
use Rattle.lrpar_table_check.specs.Checked.{Checked}
use Rattle.lrpar_table_sentences.specs.Reachable.{is_marked, unmarked}
use Rattle.lrpar_parse_completion.specs.declared.waiting.Link.{Link}

-- a rule, and the core of an item that has it after its dot
pub record LinkOf : Type 0 where
  pub rule : ℕ
  pub prod : ℕ
  pub dot : ℕ

-- links as they are stored, with numbers for their rules and productions
abbrev pub link_of : {S : Type 0} → (S → ℕ) → Link S → LinkOf
link_of index link = record { rule = index link.rule.0; prod = index link.prod.0; dot = link.dot }

abbrev pub links_of : {S : Type 0} → (S → ℕ) → List (Link S) → List LinkOf
links_of index links = map (link_of index) links

-- the rules of a list
abbrev pub rules_in : List LinkOf → List ℕ
rules_in links = map (λ link. link.rule) links

-- the core of a kernel item of state s, or of the start item
abbrev pub IsOwnCore : Grammar → Graph → Table → ℕ → ℕ → ℕ → Type 0
IsOwnCore g graph table s p k = (HasCore graph s p k × (0 < k)) ⊎ ((s ≡ table.start) × (p ≡ start_prod g) × (k ≡ 0))

-- the item has its rule after the dot; and it is the state's own, or it begins a production of an earlier rule
pub record IsLink (g : Grammar) (own : ℕ → ℕ → Type 0) (earlier : List LinkOf) (link : LinkOf) : Type 0 where
  pub known : link.prod < prods_len g
  pub rest : List GrammarSymbol
  pub waits : drop link.dot (symbols_of g link.prod) ≡ Nonterminal link.rule ∷ rest
  pub from : own link.prod link.dot ⊎ ((link.dot ≡ 0) × Contains (rules_in earlier) (rule_of g link.prod))

-- each link of the list is an item with its rule after the dot, the state's own or one of an earlier rule
abbrev pub AreLinks : Grammar → (ℕ → ℕ → Type 0) → List LinkOf → Type 0
AreLinks g own links = (i : ℕ) (link : LinkOf) → slice_get links i ≡ Some link → IsLink g own (take i links) link

-- the rule after the dot of this core, if there is one, is in the list
abbrev pub HasRuleAfter : Grammar → List LinkOf → ℕ → ℕ → Type 0
HasRuleAfter g links p k = (r : ℕ) (w : List GrammarSymbol) → drop k (symbols_of g p) ≡ Nonterminal r ∷ w → Contains (rules_in links) r

-- the productions of this rule are closed: the rules that they begin with are in the list
abbrev pub IsClosedAt : Grammar → List LinkOf → ℕ → Type 0
IsClosedAt g links r = (q : ℕ) → q < prods_len g → rule_of g q ≡ r → HasRuleAfter g links q 0

-- the list has the rules after the dots of the state's own cores, and with a rule each one that its productions begin with
pub record AreWaiting (g : Grammar) (graph : Graph) (table : Table) (s : ℕ) (links : List LinkOf) : Type 0 where
  pub each : AreLinks g (IsOwnCore g graph table s) links
  pub own : (p k : ℕ) → IsOwnCore g graph table s p k → HasRuleAfter g links p k
  pub closed : (r : ℕ) → Contains (rules_in links) r → IsClosedAt g links r

-- the stored links have the rules after the dots of the state's own cores in a checked table, and with a rule each one that its
-- productions begin with
abbrev pub AreWaitingIn : {S A : Type 0} → (S → ℕ) → Checked → StIdx S → Vec (Link S) A → Type 0
AreWaitingIn index d state links = AreWaiting d.grammar d.graph d.table (index state.0) (links_of index links.items)

-- the list so far, and which of the grammar's rules are marked: those of the list, each once
pub record AreFound (g : Grammar) (own : ℕ → ℕ → Type 0) (links : List LinkOf) (marks : List Bool) : Type 0 where
  pub each : AreLinks g own links
  pub marked : (r : ℕ) → IsTrue (is_marked marks r) → Contains (rules_in links) r

-- the list has what it had, and more may come after that
pub record Grows (g : Grammar) (own : ℕ → ℕ → Type 0) (links : List LinkOf) (after : List LinkOf) (marks : List Bool) : Type 0 where
  pub found : AreFound g own after marks
  pub tail : List LinkOf
  pub more : after ≡ links ++ tail

-- the rule after the dot of this core, if there is one, was marked before; or it was put at the end of the list, and marked
abbrev pub IsAdded : Grammar → ℕ → ℕ → List LinkOf → List Bool → List LinkOf → List Bool → Type 0
IsAdded g p k links marks after marks_after =
    ((after ≡ links) × (marks_after ≡ marks)
    × ((r : ℕ) (w : List GrammarSymbol) → drop k (symbols_of g p) ≡ Nonterminal r ∷ w → IsTrue (is_marked marks r)))
    ⊎ ((r : ℕ) × (w : List GrammarSymbol) × (drop k (symbols_of g p) ≡ Nonterminal r ∷ w) × (r < length marks) × (is_marked marks r ≡ false)
    × (after ≡ links ++ record { rule = r; prod = p; dot = k } ∷ []) × (marks_after ≡ slice_set marks r true))

-- how many rules of the grammar can still be put into the list: the list is as long as there are marks
abbrev pub AreCounted : Grammar → List LinkOf → List Bool → Type 0
AreCounted g links marks = (length marks ≡ rules_len g) × (length links + unmarked marks ≡ length marks)
