-- A completion leads to a stack that accepts. Let the first k symbols of production p be the top ones of a stack, and let a tail of p be
-- next among the tokens. The claim, by recursion on the tail: the top state has the item of p with dot k whose lookahead is the first
-- token of the tail, or the end token if the tail is empty; and if the rest of p is put on the stack, so that its top has the complete
-- item with this lookahead, the run over the tail accepts.
--
-- At the start the item is there by C1, and the complete one accepts by C5. For `A: . v`, for which `B: u . A w` waits, C2 gives the item
-- by that of B; the complete item reduces by C5, C4 gives the goto, and the trees of w are followed from there, as in CompleteLemmas.
-- One symbol more on the stack: C3 and C4 carry the item to the state above.
use Rattle.std.proofs.Common.{◌≡◌, ◌≢◌, ◌<◌, ◌+◌, ◌∙◌, refl, sym, ap, subst, arith, add-one, ℕ, List, [], ◌∷◌, ◌++◌, length, drop, slice_get, Option, Some}
use Rattle.std.proofs.lemmas.List.{append_assoc, length-drop}
use Rattle.lrpar_grammar.specs.Grammar.{Grammar, GrammarSymbol, IsWellFormed, Nonterminal, Terminal, end_token, prod_len, prods_len, rule_of, start_prod, symbols_of}
use Rattle.lrpar_grammar.specs.Tree.{Forest, forest_leaves, forest_productions}
use Rattle.lrpar_table_first.specs.First.{IsFirst}
use Rattle.lrpar_table_rows.specs.Graph.{Graph, HasItem}
use Rattle.lrpar_table_rows.specs.Safe.{GoesBy, HasShape}
use Rattle.lrpar_table_rows.specs.Table.{Table, ShiftTo, ReduceBy, Accepts, IsClosed, states_len}
use Rattle.lrpar_table_rows.proofs.GraphLemmas.{state_in_range}
use Rattle.lrpar_table_conditions.specs.Complete.{IsComplete, StepsOn}
use Rattle.lrpar_table_conditions.specs.declared.completeness.CompletenessCondition.TheVariants.{C1, C2, C3, C4, C5}
use Rattle.lrpar_table_conditions.proofs.FirstTokenLemmas.{AreBetween, at_drop, between_all, between_split, between_token, forest_begins}
use Rattle.lrpar_table_sentences.specs.Texts.{AreTreesOf}
use Rattle.lrpar_table_stacks.specs.Reduction.{IsSettled, top_action}
use Rattle.lrpar_table_stacks.specs.Run.{Accepted, Far, accepts, token_at}
use Rattle.lrpar_table_stacks.specs.Stack.{top_of}
use Rattle.lrpar_table_stacks.proofs.RunLemmas.{token_at_end}
use Rattle.lrpar_table_stacks.proofs.StepLemmas.{action_by_top}
use Rattle.lrpar_table_build.proofs.ReachedLemmas.{no_added_rule}
use Rattle.lrpar_table_check.proofs.CompleteLemmas.{forest_runs, reduces_upper, reduction_first, top_more}
use Rattle.lrpar_parse_completion.specs.Completing.{Completes, IsCompletion, IsTail, AtStart, Opened, Moved}

-- a state goes to one state by a symbol
goes_one_way : (table : Table) (s : ℕ) (x : GrammarSymbol) (next other : ℕ) → GoesBy table s x next → GoesBy table s x other → next ≡ other
goes_one_way table s (Terminal t) next other goes leads = let same : ShiftTo next ≡ ShiftTo other = sym goes ∙ leads in cc
goes_one_way table s (Nonterminal r) next other goes leads =
    let same : ◌≡◌ {A = Option ℕ} (Some next) (Some other) = sym goes ∙ leads in cc

-- how long a list is, before one of its elements
pub length_at : {A : Type 0} (xs : List A) (k : ℕ) (x : A) (w : List A) → drop k xs ≡ x ∷ w → length xs ≡ k + 1 + length w
length_at {A} xs k x w is = omega (arith, length-drop k xs, ap (λ (l : List A). length l) is)

module _ (g : Grammar) (graph : Graph) (table : Table) (formed : IsWellFormed g) (closed : IsClosed table) (shape : HasShape g graph table)
    (complete : IsComplete g graph table) (tokens : List ℕ) where
  abbrev At : ℕ → ℕ
  At i = token_at (λ (t : ℕ). t) g tokens i

  abbrev Runs : List ℕ → ℕ → List ℕ → Type 0
  Runs st i ps = Far (λ (t : ℕ). t) g table tokens st i ps Accepted

  -- from the stack at place i the run accepts
  abbrev AcceptsFrom : List ℕ → ℕ → Type 0
  AcceptsFrom st i = (ps : List ℕ) × Runs st i ps

  within : (s p k t : ℕ) → HasItem graph s p k t → s < states_len table
  within s p k t has = let low = state_in_range graph s p k t has in omega (arith, low, shape.states)

  -- the claim at place i
  record Follows (st : List ℕ) (p k i : ℕ) : Type 0 where
    s : ℕ
    top : top_of st ≡ Some s
    item : HasItem graph s p k (At i)
    ends : (ups : List ℕ) (last : ℕ) → k + length ups ≡ prod_len g p → top_of (st ++ ups) ≡ Some last
        → HasItem graph last p (prod_len g p) (At i) → AcceptsFrom (st ++ ups) i

  -- at the start
  start_follows : (i : ℕ) → AreBetween tokens [] i (length tokens) → Follows (table.start ∷ []) (start_prod g) 0 i
  start_follows i between =
      let past = between.past in
      let all : i ≡ length tokens = omega (arith, past) in
      let end : At i ≡ end_token g = token_at_end (λ (t : ℕ). t) g tokens i (omega (arith, all)) in
      record {
        s = table.start;
        top = refl;
        item = subst (λ (t : ℕ). HasItem graph table.start (start_prod g) 0 t) (sym end) (complete.each C1 table.start closed.start_within refl);
        ends = λ ups last many is item.
            let st = table.start ∷ ups in
            let whole = subst (λ (t : ℕ). HasItem graph last (start_prod g) (prod_len g (start_prod g)) t) end item in
            let does = complete.each C5 last (within last (start_prod g) (prod_len g (start_prod g)) (end_token g) whole)
            (start_prod g) (prod_len g (start_prod g)) (end_token g) whole in
            let accepted : top_action table (end_token g) st ≡ Accepts =
            action_by_top table (end_token g) st last is ∙ does.accepts refl refl in
            let settled : IsSettled table (end_token g) st = λ q reduces. let no : Accepts ≡ ReduceBy q = sym accepted ∙ reduces in cc in
            ([], accepts st i [] st all (refl, settled) accepted);
      }

  -- an item waits for the production's rule
  opened_follows : (st : List ℕ) (p q j : ℕ) (w : List GrammarSymbol) (trees : Forest ℕ) (i m : ℕ) → p < prods_len g
      → drop j (symbols_of g q) ≡ Nonterminal (rule_of g p) ∷ w → AreTreesOf g w trees → AreBetween tokens (forest_leaves trees) i m
      → Follows st q j m → Follows st p 0 i
  opened_follows st p q j w trees i m known waits fits between below =
      let r = rule_of g p in
      let at = at_drop (symbols_of g q) j (Nonterminal r) w waits in
      let low = within below.s q j (At m) below.item in
      let first : IsFirst g (At m) w (At i) =
      subst (λ (t : ℕ). IsFirst g (At m) w t) (sym (between_token (λ (t : ℕ). t) g tokens (forest_leaves trees) i m between))
      (forest_begins (λ (t : ℕ). t) g (At m) trees w fits) in
      let step : StepsOn graph table below.s (Nonterminal r) q j (At m) = complete.each C4 below.s low q j (At m) below.item r at.0 in
      let long : prod_len g q ≡ j + 1 + length w = length_at (symbols_of g q) j (Nonterminal r) w waits in
      record {
        s = below.s;
        top = below.top;
        item = complete.each C2 below.s low q j (At m) below.item r w waits p (At i) known refl first;
        ends = λ ups last many is item.
            let other : p ≢ start_prod g = λ same. no_added_rule g formed q j r (ap (rule_of g) same ∙ formed.last_rule) at.0 in
            let does = complete.each C5 last (within last p (prod_len g p) (At i) item) p (prod_len g p) (At i) item in
            let base = st ++ step.0 ∷ [] in
            let reduces = reduces_upper g table (At i) p below.s last step.0 st ups known (omega (arith, many)) below.top is (does.reduces refl other) step.1 in
            let next : drop (j + 1) (symbols_of g q) ≡ w = rw add-one at.1 in
            let inner = forest_runs (λ (t : ℕ). t) g graph table formed shape complete tokens trees w base step.0 q (j + 1) (At m) i m fits
            (top_more st step.0) step.2 next between refl in
            let seam : base ++ inner.ups ≡ st ++ step.0 ∷ inner.ups = append_assoc st (step.0 ∷ []) inner.ups in
            let whole : HasItem graph inner.top q (prod_len g q) (At m) = subst (λ (n : ℕ). HasItem graph inner.top q n (At m)) (sym long) inner.item in
            let on = below.ends (step.0 ∷ inner.ups) inner.top (let up = inner.many in omega (arith, long, up)) (ap top_of (sym seam) ∙ inner.is_top) whole in
            let run = inner.far on.0 Accepted (subst (λ (l : List ℕ). Runs l m on.0) (sym seam) on.1) in (
              p ∷ (forest_productions trees ++ on.0),
              reduction_first (λ (t : ℕ). t) g table tokens (st ++ ups) i p base (forest_productions trees ++ on.0) Accepted reduces run,
            );
      }

  -- one symbol more is on the stack
  moved_follows : (st : List ℕ) (s next p k : ℕ) (x : GrammarSymbol) (i : ℕ) → top_of st ≡ Some s → slice_get (symbols_of g p) k ≡ Some x
      → GoesBy table s x next → Follows st p k i → Follows (st ++ next ∷ []) p (k + 1) i
  moved_follows st s next p k x i top at goes below =
      let same : below.s ≡ s = let both : ◌≡◌ {A = Option ℕ} (Some below.s) (Some s) = sym below.top ∙ top in cc in
      let has : HasItem graph s p k (At i) = subst (λ (n : ℕ). HasItem graph n p k (At i)) same below.item in
      let step = steps_on s p k (At i) x has at in
      let to : step.0 ≡ next = goes_one_way table s x step.0 next step.1 goes in
      record {
        s = next;
        top = top_more st next;
        item = subst (λ (n : ℕ). HasItem graph n p (k + 1) (At i)) to step.2;
        ends = λ ups last many is item.
            let seam : (st ++ next ∷ []) ++ ups ≡ st ++ next ∷ ups = append_assoc st (next ∷ []) ups in
            subst (λ (l : List ℕ). AcceptsFrom l i) (sym seam)
            (below.ends (next ∷ ups) last (omega (arith, many)) (ap top_of (sym seam) ∙ is) item);
      }
    where
      steps_on : (s p k t : ℕ) (x : GrammarSymbol) → HasItem graph s p k t → slice_get (symbols_of g p) k ≡ Some x → StepsOn graph table s x p k t
      steps_on s p k t (Terminal a) has here = complete.each C3 s (within s p k t has) p k t has a here
      steps_on s p k t (Nonterminal r) has here = complete.each C4 s (within s p k t has) p k t has r here

  tail_follows : (st : List ℕ) (p k : ℕ) (tail : List ℕ) → IsTail g table st p k tail → (i : ℕ) → AreBetween tokens tail i (length tokens)
      → Follows st p k i
  tail_follows _ _ _ _ AtStart i between = start_follows i between
  tail_follows _ _ _ _ (Opened st p q j w trees tail known waits shortest after) i between =
      let parts = between_split tokens (forest_leaves trees) tail i (length tokens) between in
      opened_follows st p q j w trees i (i + length (forest_leaves trees)) known waits shortest.fit parts.0
      (tail_follows st q j tail after (i + length (forest_leaves trees)) parts.1)
  tail_follows _ _ _ _ (Moved st s next p k x tail top at goes after) i between =
      moved_follows st s next p k x i top at goes (tail_follows st p k tail after i between)

  -- the whole
  pub completion_accepts : (st : List ℕ) → IsCompletion g table st tokens → AcceptsFrom st 0
  completion_accepts st is =
      let ts = is.trees in
      let m = 0 + length (forest_leaves ts) in
      let rest = drop is.dot (symbols_of g is.prod) in
      let whole : AreBetween tokens (forest_leaves ts ++ is.tail) 0 (length tokens) =
      subst (λ (xs : List ℕ). AreBetween tokens xs 0 (length tokens)) is.all (between_all tokens) in
      let parts = between_split tokens (forest_leaves ts) is.tail 0 (length tokens) whole in
      let below = tail_follows st is.prod is.dot is.tail is.after m parts.1 in
      let known = (shape.items below.s is.prod is.dot (At m) below.item).dot in
      let inner = forest_runs (λ (t : ℕ). t) g graph table formed shape complete tokens ts rest st below.s is.prod is.dot (At m) 0 m is.rest.fit
      below.top below.item refl parts.0 refl in
      let long : is.dot + length rest ≡ prod_len g is.prod = omega (arith, known, length-drop is.dot (symbols_of g is.prod)) in
      let item = subst (λ (n : ℕ). HasItem graph inner.top is.prod n (At m)) long inner.item in
      let on = below.ends inner.ups inner.top (let up = inner.many in omega (arith, long, up)) inner.is_top item in
      (forest_productions ts ++ on.0, inner.far on.0 Accepted on.1)

pub completion_completes : (g : Grammar) (graph : Graph) (table : Table) → IsWellFormed g → IsClosed table → HasShape g graph table
    → IsComplete g graph table → (st tokens : List ℕ) → IsCompletion g table st tokens → Completes g table st tokens
completion_completes g graph table formed closed shape complete st tokens is = completion_accepts g graph table formed closed shape complete tokens st is
