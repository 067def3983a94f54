-- Runs over a complete table follow trees. Let a stack's top state have an item `A: v . X w  {t}`, let the leaves of a tree of X
-- be next among the lexemes, and let the token after them be one of FIRST(w, t). Then the run feeds these leaves and makes the
-- tree's productions, and comes to the stack with one state more, which has `A: v X . w  {t}`. The proof is by recursion on the
-- tree, and for the trees of a list of symbols at once. The statement goes backwards, since a reduction is made only under the
-- next token: for each far run from the stack with one state more and the place after the leaves, there is one from the stack and
-- the place before them, with the tree's productions first.
--
-- A leaf is shifted by C3. For a node of production q, C2 gives the top state the item `B: . u  {b}`, where b is the token after
-- the node's leaves. The trees of u are followed from there; the token after one of them begins what the later ones derive, or is
-- b. At the end the top state has the complete item, C5 makes it reduce at b, and C4 gives the goto. A reduction before a far run
-- is a far run.
--
-- So the run from the start over a sentence makes its tree's productions: the start state has `^: . S  {end}` by C1, and the
-- state after S accepts by C5. A run has one result, and a tree is determined by its leaves and productions: a sentence has one
-- tree.
use Rattle.std.proofs.Common.{◌≡◌, ◌≢◌, ◌<◌, ◌+◌, ◌-◌, ◌∙◌, inl, inr, refl, sym, ap, subst, arith, add-one, ℕ, suc, List, [], ◌∷◌, ◌++◌, length, drop, slice_get, Some, All, length-append}
use Rattle.std.proofs.Math.Seq.{take-append_seam}
use Rattle.std.proofs.lemmas.Bool.{cases_lt}
use Rattle.std.proofs.lemmas.List.{append-nil, append_assoc}
use Rattle.std.proofs.lemmas.List.Elements.{All-cons, All-drop, All-head, All-nil}
use Rattle.std.proofs.lemmas.Option.{slice_get_within}
use Rattle.lrpar_grammar.specs.Grammar.{Grammar, GrammarSymbol, IsDeclaredSymbol, IsWellFormed, Nonterminal, Terminal, end_token, prod_len, prods_len, rule_of, rules_len, start_prod, symbols_of}
use Rattle.lrpar_grammar.specs.Tree.{Tree, Forest, Leaf, Branch, Nil, Cons, leaves, forest_leaves, productions, forest_productions, Fits, ForestFits}
use Rattle.lrpar_table_first.specs.First.{IsFirst, Empty}
use Rattle.lrpar_table_rows.specs.Graph.{Graph, HasItem}
use Rattle.lrpar_table_rows.proofs.GraphLemmas.{state_in_range}
use Rattle.lrpar_table_rows.specs.Safe.{GoesBy, HasShape}
use Rattle.lrpar_table_rows.specs.Table.{Table, ShiftTo, ReduceBy, Accepts, IsClosed, action_of, goto_of, states_len}
use Rattle.lrpar_table_conditions.specs.Complete.{IsComplete, StepsOn}
use Rattle.lrpar_table_stacks.specs.Reduction.{Feeds, IsSettled, Reduces, left_by, top_action, top_goto}
use Rattle.lrpar_table_stacks.specs.Run.{Far, FarEnd, Accepted, goes_on, accepts, stops, token_at}
use Rattle.lrpar_table_stacks.specs.Stack.{top_of}
use Rattle.lrpar_table_conditions.specs.declared.completeness.CompletenessCondition.TheVariants.{C1, C2, C3, C4, C5}
use Rattle.lrpar_table_stacks.proofs.ChainLemmas.{top_over}
use Rattle.lrpar_table_conditions.proofs.FirstTokenLemmas.{AreBetween, at_drop, first_token, forest_begins, between_all, between_split, between_token, between_within}
use Rattle.lrpar_table_stacks.proofs.RunLemmas.{token_at_end}
use Rattle.lrpar_table_stacks.proofs.StepLemmas.{action_by_top, goto_by_top}

-- the symbols of each production are listed ones
listed_symbols : (g : Grammar) → IsWellFormed g → (p : ℕ) → p < prods_len g → All (IsDeclaredSymbol (rules_len g) (end_token g)) (symbols_of g p)
listed_symbols g formed p known =
    let P : GrammarSymbol → Type 0 = IsDeclaredSymbol (rules_len g) (end_token g) in
    elim (cases_lt p (start_prod g)) as (λ _. All (IsDeclaredSymbol (rules_len g) (end_token g)) (symbols_of g p)) [
      | inl listed ↦ formed.symbols p listed
      | inr last ↦
          let is : start_prod g ≡ p = omega (arith, known, last) in
          subst (λ (n : ℕ). All P (symbols_of g n)) is
          (subst (All P) (sym formed.last_symbols) (All-cons P (Nonterminal g.start) [] (formed.start_added, formed.start_within) (All-nil P)))
    ]

-- so a rule after a dot isn't the added one
rule_listed : (g : Grammar) → IsWellFormed g → (p k r : ℕ) (w : List GrammarSymbol) → p < prods_len g → drop k (symbols_of g p) ≡ Nonterminal r ∷ w → 0 < r
rule_listed g formed p k r w known further =
    let P : GrammarSymbol → Type 0 = IsDeclaredSymbol (rules_len g) (end_token g) in
    let all = subst (All P) further (All-drop P k (symbols_of g p) (listed_symbols g formed p known)) in
    (All-head P (Nonterminal r) w all).0

-- and its productions aren't the start production
not_start : (g : Grammar) → IsWellFormed g → (q r : ℕ) → rule_of g q ≡ r → 0 < r → q ≢ start_prod g
not_start g formed q r by listed is =
    let none : rule_of g q ≡ 0 = ap (rule_of g) is ∙ formed.last_rule in omega (arith, none, by, listed)

-- the top of a stack with one state more
pub top_more : (st : List ℕ) (next : ℕ) → top_of (st ++ next ∷ []) ≡ Some next
top_more st next = top_over st (next ∷ []) (omega arith)

-- what is left of a stack without its upper states
left_lower : (g : Grammar) (q : ℕ) (st ups : List ℕ) → length ups ≡ prod_len g q → left_by g q (st ++ ups) ≡ st
left_lower g q st ups many =
    let e : length (st ++ ups) - prod_len g q ≡ length st = omega (arith, many, length-append st ups) in
    rw e (take-append_seam st ups)

-- a reduction of the upper states, whose symbols are a production's
pub reduces_upper : (g : Grammar) (table : Table) (t q s top next : ℕ) (st ups : List ℕ) → q < prods_len g → length ups ≡ prod_len g q
    → top_of st ≡ Some s → top_of (st ++ ups) ≡ Some top → action_of table top t ≡ ReduceBy q → goto_of table s (rule_of g q) ≡ Some next
    → Reduces g table t (st ++ ups) q (st ++ next ∷ [])
reduces_upper g table t q s top next st ups known many is_top is_upper action goto =
    let left = left_lower g q st ups many in
    let some : 0 < length st = omega (arith, slice_get_within st (length st - 1) s is_top) in
    record {
      action = action_by_top table t (st ++ ups) top is_upper ∙ action;
      known = known;
      deep = omega (arith, many, some, length-append st ups);
      state = next;
      goto = ap (λ (l : List ℕ). top_goto table (rule_of g q) l) left ∙ goto_by_top table (rule_of g q) st s is_top ∙ goto;
      pushed = ap (λ (l : List ℕ). l ++ next ∷ []) (sym left);
    }

module _ {X : Type 0} (token : X → ℕ) (g : Grammar) (table : Table) (lexemes : List X) where
  -- a reduction before a far run is a far run
  pub reduction_first : (st : List ℕ) (i q : ℕ) (after qs : List ℕ) (end : FarEnd) → Reduces g table (token_at token g lexemes i) st q after
      → Far token g table lexemes after i qs end → Far token g table lexemes st i (q ∷ qs) end
  reduction_first st i q _ _ _ reduces (goes_on after _ ps qs next end within feeds rest) =
      goes_on st i (q ∷ ps) qs next end within (record {
        settled = feeds.settled;
        settles = (after, reduces, feeds.settles);
        next = feeds.next;
        shifts = feeds.shifts;
        pushed = feeds.pushed;
      }) rest
  reduction_first st i q _ _ _ reduces (accepts after _ ps settled at_end settles accepted) =
      let is = token_at_end token g lexemes i (omega (arith, at_end)) in
      accepts st i (q ∷ ps) settled at_end (after, subst (λ (t : ℕ). Reduces g table t st q after) is reduces, settles) accepted
  reduction_first st i q _ _ _ reduces (stops after _ ps settled fits settles stuck) =
      stops st i (q ∷ ps) settled fits (after, reduces, settles) stuck

module _ {X : Type 0} (token : X → ℕ) (g : Grammar) (graph : Graph) (table : Table) (formed : IsWellFormed g) (shape : HasShape g graph table)
    (complete : IsComplete g graph table) (lexemes : List X) where
  abbrev Runs : List ℕ → ℕ → List ℕ → FarEnd → Type 0
  Runs st i prods end = Far token g table lexemes st i prods end

  state_within : (s p k t : ℕ) → HasItem graph s p k t → s < states_len table
  state_within s p k t has = let low = state_in_range graph s p k t has in omega (arith, low, shape.states)

  -- C3 and C4: a state steps on by the symbol after the dot
  steps_on : (s p k t : ℕ) (x : GrammarSymbol) → HasItem graph s p k t → slice_get (symbols_of g p) k ≡ Some x → StepsOn graph table s x p k t
  steps_on s p k t (Terminal a) has further = complete.each C3 s (state_within s p k t has) p k t has a further
  steps_on s p k t (Nonterminal r) has further = complete.each C4 s (state_within s p k t has) p k t has r further

  -- a tree of x is followed from a stack at place i to place j, with its productions
  pub record TreeRuns (st : List ℕ) (s p k t : ℕ) (x : GrammarSymbol) (prods : List ℕ) (i j : ℕ) : Type 0 where
    pub next : ℕ
    pub goes : GoesBy table s x next
    pub item : HasItem graph next p (k + 1) t
    pub far : (qs : List ℕ) (end : FarEnd) → Runs (st ++ next ∷ []) j qs end → Runs st i (prods ++ qs) end

  -- and so are the trees of a list of symbols
  pub record ForestRuns (st : List ℕ) (q k b : ℕ) (ss : List GrammarSymbol) (prods : List ℕ) (i j : ℕ) : Type 0 where
    pub ups : List ℕ
    pub many : length ups ≡ length ss
    pub top : ℕ
    pub is_top : top_of (st ++ ups) ≡ Some top
    pub item : HasItem graph top q (k + length ss) b
    pub far : (qs : List ℕ) (end : FarEnd) → Runs (st ++ ups) j qs end → Runs st i (prods ++ qs) end

  -- a leaf is shifted
  leaf_runs : (x : X) (a : ℕ) (st : List ℕ) (s p k t i j : ℕ) → token x ≡ a → top_of st ≡ Some s → AreBetween lexemes (x ∷ []) i j
      → StepsOn graph table s (Terminal a) p k t → TreeRuns st s p k t (Terminal a) [] i j
  leaf_runs x a st s p k t i j fits top between step =
      let is : token_at token g lexemes i ≡ a = between_token token g lexemes (x ∷ []) i j between ∙ fits in
      let shifts : top_action table (token_at token g lexemes i) st ≡ ShiftTo step.0 =
      action_by_top table (token_at token g lexemes i) st s top ∙ ap (action_of table s) is ∙ step.1 in
      let settled : IsSettled table (token_at token g lexemes i) st =
      λ q reduces. let no : ShiftTo step.0 ≡ ReduceBy q = sym shifts ∙ reduces in cc in
      let feeds : Feeds g table (token_at token g lexemes i) st [] (st ++ step.0 ∷ []) =
      record { settled = st; settles = (refl, settled); next = step.0; shifts = shifts; pushed = refl } in
      let past : j ≡ i + 1 = between.past in
      record {
        next = step.0;
        goes = step.1;
        item = step.2;
        far = λ qs end rest.
            goes_on st i [] qs (st ++ step.0 ∷ []) end (between_within lexemes x [] i j between) feeds
            (subst (λ (m : ℕ). Runs (st ++ step.0 ∷ []) m qs end) past rest);
      }

  -- a node is reduced, once its children were followed
  node_runs : (q r : ℕ) (st : List ℕ) (s p k t : ℕ) (prods : List ℕ) (i j : ℕ) → q < prods_len g → rule_of g q ≡ r → q ≢ start_prod g
      → top_of st ≡ Some s → StepsOn graph table s (Nonterminal r) p k t
      → ForestRuns st q 0 (token_at token g lexemes j) (symbols_of g q) prods i j → TreeRuns st s p k t (Nonterminal r) (prods ++ q ∷ []) i j
  node_runs q r st s p k t prods i j known by other top step inner =
      let b = token_at token g lexemes j in
      let all : 0 + prod_len g q ≡ prod_len g q = omega arith in
      let whole : HasItem graph inner.top q (prod_len g q) b = subst (λ (n : ℕ). HasItem graph inner.top q n b) all inner.item in
      let ends = complete.each C5 inner.top (state_within inner.top q (prod_len g q) b whole) q (prod_len g q) b whole in
      let goto : goto_of table s (rule_of g q) ≡ Some step.0 = ap (goto_of table s) by ∙ step.1 in
      let reduces = reduces_upper g table b q s inner.top step.0 st inner.ups known inner.many top inner.is_top (ends.reduces refl other) goto in
      record {
        next = step.0;
        goes = step.1;
        item = step.2;
        far = λ qs end rest.
            subst (λ (ps : List ℕ). Runs st i ps end) (sym (append_assoc prods (q ∷ []) qs))
            (inner.far (q ∷ qs) end (reduction_first token g table lexemes (st ++ inner.ups) j q (st ++ step.0 ∷ []) qs end reduces rest));
      }

  -- no symbols are left
  none_runs : (st : List ℕ) (s q k b i j : ℕ) → top_of st ≡ Some s → HasItem graph s q k b → AreBetween lexemes [] i j → ForestRuns st q k b [] [] i j
  none_runs st s q k b i j top has between =
      let bare : st ++ [] ≡ st = append-nil st in
      let same : k ≡ k + 0 = omega arith in
      let place : j ≡ i = let past = between.past in omega (arith, past) in
      record {
        ups = [];
        many = refl;
        top = s;
        is_top = ap top_of bare ∙ top;
        item = subst (λ (n : ℕ). HasItem graph s q n b) same has;
        far = λ qs end rest.
            subst (λ (m : ℕ). Runs st m qs end) place (subst (λ (l : List ℕ). Runs l j qs end) bare rest);
      }

  -- one tree, and then the others
  more_run : (st : List ℕ) (s q k b : ℕ) (x : GrammarSymbol) (ss : List GrammarSymbol) (ps rs : List ℕ) (i m j : ℕ)
      → (one : TreeRuns st s q k b x ps i m) → ForestRuns (st ++ one.next ∷ []) q (k + 1) b ss rs m j
      → ForestRuns st q k b (x ∷ ss) (ps ++ rs) i j
  more_run st s q k b x ss ps rs i m j one others =
      let seam : (st ++ one.next ∷ []) ++ others.ups ≡ st ++ one.next ∷ others.ups = append_assoc st (one.next ∷ []) others.ups in
      let dot : k + 1 + length ss ≡ k + length (x ∷ ss) = omega arith in
      record {
        ups = one.next ∷ others.ups;
        many = ap suc others.many;
        top = others.top;
        is_top = ap top_of (sym seam) ∙ others.is_top;
        item = subst (λ (n : ℕ). HasItem graph others.top q n b) dot others.item;
        far = λ qs end rest.
            subst (λ (v : List ℕ). Runs st i v end) (sym (append_assoc ps rs qs))
            (one.far (rs ++ qs) end (others.far qs end (subst (λ (l : List ℕ). Runs l j qs end) (sym seam) rest)));
      }

  mutual
    pub tree_runs : (tree : Tree X) (x : GrammarSymbol) (st : List ℕ) (s p k t : ℕ) (w : List GrammarSymbol) (i j : ℕ) → Fits token g tree x
        → top_of st ≡ Some s → HasItem graph s p k t → drop k (symbols_of g p) ≡ x ∷ w → AreBetween lexemes (leaves tree) i j
        → IsFirst g t w (token_at token g lexemes j) → TreeRuns st s p k t x (productions tree) i j
    tree_runs (Leaf l) (Terminal a) st s p k t w i j fits top has further between first =
        leaf_runs l a st s p k t i j fits top between (steps_on s p k t (Terminal a) has (at_drop (symbols_of g p) k (Terminal a) w further).0)
    tree_runs (Leaf l) (Nonterminal r) st s p k t w i j fits top has further between first = absurd fits
    tree_runs (Branch q children) (Terminal a) st s p k t w i j fits top has further between first = absurd fits
    tree_runs (Branch q children) (Nonterminal r) st s p k t w i j fits top has further between first =
        let b = token_at token g lexemes j in
        let begun = complete.each C2 s (state_within s p k t has) p k t has r w further q b fits.0 fits.1 first in
        let inner = forest_runs children (symbols_of g q) st s q 0 b i j fits.2 top begun refl between refl in
        let known = (shape.items s p k t has).prod in
        let other = not_start g formed q r fits.1 (rule_listed g formed p k r w known further) in
        node_runs q r st s p k t (forest_productions children) i j fits.0 fits.1 other top
        (steps_on s p k t (Nonterminal r) has (at_drop (symbols_of g p) k (Nonterminal r) w further).0) inner

    pub forest_runs : (ts : Forest X) (ss : List GrammarSymbol) (st : List ℕ) (s q k b i j : ℕ) → ForestFits token g ts ss
        → top_of st ≡ Some s → HasItem graph s q k b → drop k (symbols_of g q) ≡ ss → AreBetween lexemes (forest_leaves ts) i j
        → token_at token g lexemes j ≡ b → ForestRuns st q k b ss (forest_productions ts) i j
    forest_runs Nil [] st s q k b i j fits top has further between last = none_runs st s q k b i j top has between
    forest_runs Nil (x ∷ ss) st s q k b i j fits top has further between last = absurd fits
    forest_runs (Cons t ts) [] st s q k b i j fits top has further between last = absurd fits
    forest_runs (Cons t ts) (x ∷ ss) st s q k b i j fits top has further between last =
        let m = i + length (leaves t) in
        let parts = between_split lexemes (leaves t) (forest_leaves ts) i j between in
        let first : IsFirst g b ss (token_at token g lexemes m) =
        subst (λ (n : ℕ). IsFirst g b ss n)
        (sym (between_token token g lexemes (forest_leaves ts) m j parts.1 ∙ ap (first_token token (forest_leaves ts)) last))
        (forest_begins token g b ts ss fits.1) in
        let one = tree_runs t x st s q k b ss i m fits.0 top has further parts.0 first in
        let next : drop (k + 1) (symbols_of g q) ≡ ss = rw add-one (at_drop (symbols_of g q) k x ss further).1 in
        more_run st s q k b x ss (productions t) (forest_productions ts) i m j one
        (forest_runs ts ss (st ++ one.next ∷ []) one.next q (k + 1) b m j fits.1 (top_more st one.next) one.item next parts.1 last)

  -- the run from the start over a sentence makes its tree's productions and comes to accept
  pub sentence_runs : (tree : Tree X) → IsClosed table → Fits token g tree (Nonterminal g.start) → leaves tree ≡ lexemes
      → Runs (table.start ∷ []) 0 (productions tree) Accepted
  sentence_runs tree closed fits are =
      let n = length lexemes in
      let end : token_at token g lexemes n ≡ end_token g = token_at_end token g lexemes n (omega arith) in
      let item = complete.each C1 table.start closed.start_within refl in
      let between : AreBetween lexemes (leaves tree) 0 n = subst (λ (xs : List X). AreBetween lexemes xs 0 n) (sym are) (between_all lexemes) in
      let first : IsFirst g (end_token g) [] (token_at token g lexemes n) = subst (λ (t : ℕ). IsFirst g (end_token g) [] t) (sym end) Empty in
      let run = tree_runs tree (Nonterminal g.start) (table.start ∷ []) table.start (start_prod g) 0 (end_token g) [] 0 n fits refl item
      formed.last_symbols between first in
      let one : 0 + 1 ≡ prod_len g (start_prod g) = sym (ap (λ (ss : List GrammarSymbol). length ss) formed.last_symbols) in
      let whole = subst (λ (k : ℕ). HasItem graph run.next (start_prod g) k (end_token g)) one run.item in
      let ends = complete.each C5 run.next (state_within run.next (start_prod g) (prod_len g (start_prod g)) (end_token g) whole)
      (start_prod g) (prod_len g (start_prod g)) (end_token g) whole in
      let st = table.start ∷ run.next ∷ [] in
      let accepted : top_action table (end_token g) st ≡ Accepts =
      action_by_top table (end_token g) st run.next refl ∙ ends.accepts refl refl in
      let settled : IsSettled table (end_token g) st = λ q reduces. let no : Accepts ≡ ReduceBy q = sym accepted ∙ reduces in cc in
      subst (λ (ps : List ℕ). Runs (table.start ∷ []) 0 ps Accepted) (append-nil (productions tree))
      (run.far [] Accepted (accepts st n [] st refl (refl, settled) accepted))
