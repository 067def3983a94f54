-- Why exits that are closed are all there are: by recursion on how a run leaves a state. Each control that it passes has its place in the
-- state, since the table is safe.
use Rattle.std.proofs.Common.{◌≡◌, ◌≢◌, ◌<◌, ◌∙◌, inl, inr, refl, sym, ap, subst, arith, add-one, ℕ, zero, suc, Bool, List, Option, Some, None}
use Rattle.std.proofs.lemmas.Bool.{cases_lt}
use Rattle.lrpar_grammar.specs.Grammar.{Grammar, GrammarSymbol, Nonterminal, Terminal, end_token, prod_len, prods_len, rule_of, tokens_len}
use Rattle.lrpar_table_rows.specs.Graph.{Graph, HasCore}
use Rattle.lrpar_table_rows.specs.Safe.{GoesBy, IsSafe}
use Rattle.lrpar_table_rows.specs.Table.{Table, TableAction, ShiftTo, ReduceBy, Accepts, Fails, FailsPastTokens, IsClosed, action_of, states_len}
use Rattle.lrpar_table_rows.specs.declared.condition.SafetyCondition.TheVariants.{S4, S5}
use Rattle.lrpar_table_pops.specs.Closed.{AreAllPopsOf, AreClosed, ClosedExitsAreAll, FollowsIn, IsClosedWith, IsKeptBy, IsLeft, IsBackIn, IsIncluded, StartsIn}
use Rattle.lrpar_table_pops.specs.Growth.{IsStored}
use Rattle.lrpar_table_pops.specs.Found.{IsOneOf}
use Rattle.lrpar_table_pops.specs.Pops.{Control, Done, Dropping, Pops, Reading, accepts, drops, ends, goes, reduces, shifts}
use Rattle.lrpar_table_pops.specs.StoredPops.{any_of, at_of}
use Rattle.lrpar_table_pops.specs.declared.exits.Exit.{Exit}
use Rattle.lrpar_table_pops.specs.declared.pops.StateExits.{StateExits}

-- a run begins at a state by reading a token, or is back in it
abbrev IsBegun : Grammar → Graph → ℕ → Control → Type 0
IsBegun g graph s (Reading t) = Unit {0}
IsBegun g graph s (Dropping p left t) = IsBackIn g graph s (Dropping p left t)
IsBegun g graph s Done = Unit {0}

begun : (g : Grammar) (graph : Graph) (s : ℕ) (q : Control) → IsBackIn g graph s q → IsBegun g graph s q
begun g graph s (Reading t) placed = tt
begun g graph s (Dropping p left t) placed = placed
begun g graph s Done placed = tt

-- it begins with one of the lookaheads, or its control is among those that are found
abbrev IsBegunBy : Grammar → Option ℕ → List Exit → List (List Bool) → Control → Type 0
IsBegunBy g at exits reduced (Reading t) = IsOneOf at t
IsBegunBy g at exits reduced (Dropping p left t) = IsIncluded g exits reduced (Dropping p left t)
IsBegunBy g at exits reduced Done = IsIncluded g exits reduced Done

begun_by : (g : Grammar) (at : Option ℕ) (exits : List Exit) (reduced : List (List Bool)) (q : Control) → IsIncluded g exits reduced q
    → IsBegunBy g at exits reduced q
begun_by g at exits reduced (Reading t) taken = absurd taken
begun_by g at exits reduced (Dropping p left t) taken = taken
begun_by g at exits reduced Done taken = taken

-- a reduction that begins with all its symbols
complete_placed : (g : Grammar) (graph : Graph) (s p t len : ℕ) → HasCore graph s p len → p < prods_len g → t < tokens_len g
    → IsBackIn g graph s (Dropping p len t)
complete_placed g graph s p t zero core prod token = (prod, token)
complete_placed g graph s p t (suc len) core prod token = (core, token)

-- a state is dropped in one way alone
dropped_to : (g : Grammar) (table : Table) (q : Control) (s : ℕ) (r : Control) → Pops g table q s r → (p left t : ℕ) → q ≡ Dropping p (suc left) t
    → r ≡ Dropping p left t
dropped_to g table _ _ _ (drops s p' left' t') p left t is = let same : Dropping p' left' t' ≡ Dropping p left t = cc in same
dropped_to g table _ _ _ (reduces s t' p' r action pops) p left t is = absurd (let none : ⊥ = cc in none)
dropped_to g table _ _ _ (goes s p' t' next q r goto upper pops) p left t is = absurd (let none : ⊥ = cc in none)
dropped_to g table _ _ _ (shifts s t' next u q r action upper pops) p left t is = absurd (let none : ⊥ = cc in none)
dropped_to g table _ _ _ (accepts s action) p left t is = absurd (let none : ⊥ = cc in none)
dropped_to g table _ _ _ (ends s) p left t is = absurd (let none : ⊥ = cc in none)

module _ (g : Grammar) (graph : Graph) (table : Table) (safe : IsSafe g graph table) (closed : IsClosed table) (past : FailsPastTokens table) where
  -- a state that acts at a token
  pub token_within : (s t : ℕ) (action : TableAction) → action_of table s t ≡ action → action ≢ Fails → t < tokens_len g
  token_within s t action is some =
      elim (cases_lt t table.tokens) as (λ _. t < tokens_len g) [
        | inl low ↦ let same = safe.shape.tokens in omega (arith, same, low)
        | inr high ↦ absurd (some (sym is ∙ past s t high))
      ]

  -- a reduction that begins is placed
  pub reduction_placed : (s t p : ℕ) → s < states_len table → action_of table s t ≡ ReduceBy p → IsBackIn g graph s (Dropping p (prod_len g p) t)
  reduction_placed s t p low action =
      complete_placed g graph s p t (prod_len g p) (safe.each S5 s low t p action).1 (safe.shape.reduces s t p action)
      (token_within s t (ReduceBy p) action (λ no. cc))

  -- what leaves a state is placed in the one below
  pub below_placed : (s next : ℕ) (x : GrammarSymbol) (r : Control) → s < states_len table → GoesBy table s x next → IsLeft g graph next r → IsBackIn g graph s r
  below_placed s next x (Reading t) low by left = left
  below_placed s next x (Dropping p zero t) low by left =
      let core = (safe.each S4 s low x next by p 0 (subst (HasCore graph next p) (sym (add-one 0)) left.0)).1 in
      let item = safe.shape.items s p 0 core.0 core.1 in (item.prod, left.1)
  below_placed s next x (Dropping p (suc k) t) low by left =
      let core = (safe.each S4 s low x next by p (suc k) (subst (HasCore graph next p) (sym (add-one (suc k))) left.0)).1 in (core, left.1)
  below_placed s next x Done low by left = tt

  -- how a run leaves a state
  pub run_leaves : (q : Control) (s : ℕ) (r : Control) → Pops g table q s r → s < states_len table → IsBegun g graph s q → IsLeft g graph s r
  run_leaves _ _ _ (drops s p left t) low placed = placed
  run_leaves _ _ _ (reduces s t p r action pops) low placed = run_leaves (Dropping p (prod_len g p) t) s r pops low (reduction_placed s t p low action)
  run_leaves _ _ _ (goes s p t next q r goto upper pops) low placed =
      let above = run_leaves (Reading t) next q upper (closed.gotos_within s (rule_of g p) next goto) tt in
      run_leaves q s r pops low (begun g graph s q (below_placed s next (Nonterminal (rule_of g p)) q low goto above))
  run_leaves _ _ _ (shifts s t next u q r action upper pops) low placed =
      let above = run_leaves (Reading u) next q upper (closed.shifts_within s t next action) tt in
      run_leaves q s r pops low (begun g graph s q (below_placed s next (Terminal t) q low action above))
  run_leaves _ _ _ (accepts s action) low placed = tt
  run_leaves _ _ _ (ends s) low placed = tt

  -- a run that reads a token leaves a state in a control that follows, by the exits that are kept there
  pub reading_follows : (states : List StateExits) (c : Control) (s : ℕ) (r : Control) → Pops g table c s r → (t : ℕ) → c ≡ Reading t
      → (IsKeptBy g (action_of table s t) → IsStored g (at_of states s t) r) → FollowsIn g states s t (action_of table s t) r
  reading_follows states _ _ _ (drops s p left t') t is kept = absurd (let none : ⊥ = cc in none)
  reading_follows states _ _ _ (reduces s t' p r action pops) t is kept =
      let same : t' ≡ t = cc in
      let here : action_of table s t ≡ ReduceBy p = ap (action_of table s) (sym same) ∙ action in
      subst (λ (a : TableAction). FollowsIn g states s t a r) (sym here) (by_len (prod_len g p) refl here)
    where
      by_len : (len : ℕ) → prod_len g p ≡ len → action_of table s t ≡ ReduceBy p → FollowsIn g states s t (ReduceBy p) r
      by_len zero none here = inl (none, kept (subst (IsKeptBy g) (sym here) none))
      by_len (suc left) some here =
          let dropped : Dropping p (prod_len g p) t' ≡ Dropping p (suc left) t =
          let same : t' ≡ t = cc in ap (λ (n : ℕ). Dropping p n t') some ∙ ap (λ (n : ℕ). Dropping p (suc left) n) same in
          inr (left, some, dropped_to g table (Dropping p (prod_len g p) t') s r pops p left t dropped)
  reading_follows states _ _ _ (goes s p t' next q r goto upper pops) t is kept = absurd (let none : ⊥ = cc in none)
  reading_follows states _ _ _ (shifts s t' next u q r action upper pops) t is kept =
      let same : t' ≡ t = cc in
      let here : action_of table s t ≡ ShiftTo next = ap (action_of table s) (sym same) ∙ action in
      subst (λ (a : TableAction). FollowsIn g states s t a r) (sym here) (kept (subst (IsKeptBy g) (sym here) tt))
  reading_follows states _ _ _ (accepts s action) t is kept =
      let same : end_token g ≡ t = cc in
      let here : action_of table s t ≡ Accepts = ap (action_of table s) (sym same) ∙ action in
      subst (λ (a : TableAction). FollowsIn g states s t a Done) (sym here) refl
  reading_follows states _ _ _ (ends s) t is kept = absurd (let none : ⊥ = cc in none)

  module _ (states : List StateExits) (all : AreClosed g graph table states) where
    -- each control in which a run leaves a state is an exit
    exit_of : (c : Control) (s : ℕ) (r : Control) → Pops g table c s r → s < states_len table → (at : Option ℕ) (exits : List Exit) (reduced : List (List Bool))
        → IsClosedWith g graph table states s at exits reduced → IsBegunBy g at exits reduced c → IsStored g exits r
    exit_of _ _ _ (drops s p left t) low at exits reduced found begun = begun
    exit_of _ _ _ (reduces s t p r action pops) low at exits reduced found begun =
        let c = Dropping p (prod_len g p) t in
        let taken = found.started t c begun (subst (λ (a : TableAction). StartsIn g states t a c) (sym action) refl) (reduction_placed s t p low action) in
        exit_of c s r pops low at exits reduced found taken
    exit_of _ _ _ (goes s p t next q r goto upper pops) low at exits reduced found begun =
        let within = closed.gotos_within s (rule_of g p) next goto in
        let kept = λ (is : IsKeptBy g (action_of table next t)). let c = all.at next t within (s, rule_of g p, goto) is in
        let has_it : IsStored g (at_of states next t) q = exit_of (Reading t) next q upper within (Some t) (at_of states next t) c.0 c.1 refl in has_it in
        let follows = reading_follows states (Reading t) next q upper t refl kept in
        let left = run_leaves (Reading t) next q upper within tt in
        let taken = found.followed (rule_of g p) t next q begun goto follows (below_placed s next (Nonterminal (rule_of g p)) q low goto left) in
        exit_of q s r pops low at exits reduced found (begun_by g at exits reduced q taken)
    exit_of _ _ _ (shifts s t next u q r action upper pops) low at exits reduced found begun =
        let within = closed.shifts_within s t next action in
        let c = all.any next within in
        let has_it : IsStored g (any_of states next) q = exit_of (Reading u) next q upper within None (any_of states next) c.0 c.1 tt in
        let left = run_leaves (Reading u) next q upper within tt in
        let taken = found.started t q begun (subst (λ (a : TableAction). StartsIn g states t a q) (sym action) has_it)
        (below_placed s next (Terminal t) q low action left) in
        exit_of q s r pops low at exits reduced found (begun_by g at exits reduced q taken)
    exit_of _ _ _ (accepts s action) low at exits reduced found begun =
        found.started (end_token g) Done begun (subst (λ (a : TableAction). StartsIn g states (end_token g) a Done) (sym action) refl) tt
    exit_of _ _ _ (ends s) low at exits reduced found begun = begun

    closed_all : AreAllPopsOf g table states
    closed_all = record {
      by_any = λ s t r low pops. let c = all.any s low in exit_of (Reading t) s r pops low None (any_of states s) c.0 c.1 tt;
      by_token = λ s t r low goto pops. reading_follows states (Reading t) s r pops t refl (λ kept.
          let c = all.at s t low goto kept in exit_of (Reading t) s r pops low (Some t) (at_of states s t) c.0 c.1 refl);
    }

pub closed_exits_are_all : ClosedExitsAreAll
closed_exits_are_all g graph table states safe closed past all = closed_all g graph table safe closed past states all
