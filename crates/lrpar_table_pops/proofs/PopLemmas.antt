-- What runs take off, and runs that accept. If a run in one control takes a state off, and a run in the control that it is then in accepts
-- from the states below, then a run in the first control accepts from the whole stack: by recursion on how the state is taken off. And a run
-- that accepts takes all states off: by recursion on its steps, from the last one back.
use Rattle.std.proofs.Common.{◌≡◌, ◌<◌, ◌↔◌, ◌∙◌, refl, sym, ap, subst, arith, ℕ, zero, suc, List, [], ◌∷◌, drop, length, reverse, Some}
use Rattle.std.proofs.lemmas.List.{reverse-reverse}
use Rattle.lrpar_grammar.specs.Grammar.{Grammar, prod_len, rule_of}
use Rattle.lrpar_table_rows.specs.Table.{Table, ReduceBy, action_of, goto_of}
use Rattle.lrpar_table_stacks.specs.ReductionStep.{FitsGrammar}
use Rattle.lrpar_table_stacks.specs.Run.{Accepted, Far}
use Rattle.lrpar_table_pops.specs.Completable.{IsCompletable, PopsAreCompletions}
use Rattle.lrpar_table_pops.specs.Pops.{Control, Reading, Dropping, Done, Pops, PopsAll, drops, reduces, goes, shifts, accepts, ends}
use Rattle.lrpar_table_pops.proofs.FinishLemmas.{Finishes, accepted, far_finishes, finishes_far, lookahead, reduced, shifted}

module _ (g : Grammar) (table : Table) where
  -- in this control, with these tokens left, a run accepts from the stack, top first
  abbrev FinishesBy : Control → List ℕ → List ℕ → Type 0
  FinishesBy (Reading t) st us = (lookahead g us ≡ t) × Finishes g table st us
  FinishesBy (Dropping p left t) st us =
      (lookahead g us ≡ t)
      × ((b next : ℕ) × (rest : List ℕ) × (drop left st ≡ b ∷ rest) × (goto_of table b (rule_of g p) ≡ Some next) × Finishes g table (next ∷ b ∷ rest) us)
  FinishesBy Done st us = us ≡ []

  -- what is taken off is finished, if the rest is
  pop_finishes : (q : Control) (s : ℕ) (r : Control) → Pops g table q s r → (below us : List ℕ) → FinishesBy r below us
      → (more : List ℕ) × FinishesBy q (s ∷ below) more
  pop_finishes _ _ _ (drops s p left t) below us rest = (us, rest)
  pop_finishes _ _ _ (reduces s t p r action pops) below us rest =
      let on = pop_finishes (Dropping p (prod_len g p) t) s r pops below us rest in
      let by = on.1.1 in
      let here : action_of table s (lookahead g on.0) ≡ ReduceBy p = ap (action_of table s) on.1.0 ∙ action in
      (on.0, (on.1.0, reduced s p by.0 by.1 below by.2 on.0 here by.3 by.4 by.5))
  pop_finishes _ _ _ (goes s p t next q r goto upper pops) below us rest =
      let lower = pop_finishes q s r pops below us rest in
      let on = pop_finishes (Reading t) next q upper (s ∷ below) lower.0 lower.1 in
      (on.0, (on.1.0, (s, next, below, refl, goto, on.1.1)))
  pop_finishes _ _ _ (shifts s t next u q r action upper pops) below us rest =
      let lower = pop_finishes q s r pops below us rest in
      let on = pop_finishes (Reading u) next q upper (s ∷ below) lower.0 lower.1 in
      (t ∷ on.0, (refl, shifted s t next below on.0 action on.1.1))
  pop_finishes _ _ _ (accepts s action) below us rest = ([], (refl, accepted s below action))
  pop_finishes _ _ _ (ends s) below us rest = (us, rest)

  pops_finish : (q : Control) (st : List ℕ) → PopsAll g table q st → (us : List ℕ) × FinishesBy q st us
  pops_finish q [] all = ([], subst (λ (c : Control). FinishesBy c [] []) (sym all) refl)
  pops_finish q (s ∷ below) all =
      let rest = pops_finish all.0 below all.2 in
      pop_finishes q s all.0 all.1 below rest.0 rest.1

  -- after accepting, all states can be taken off
  done_pops : (st : List ℕ) → PopsAll g table Done st
  done_pops [] = refl
  done_pops (s ∷ below) = (Done, ends s, done_pops below)

  -- so can the states that a reduction drops
  dropped_pops : (p t left : ℕ) (st : List ℕ) → PopsAll g table (Dropping p 0 t) (drop left st) → PopsAll g table (Dropping p left t) st
  dropped_pops p t zero st all = all
  dropped_pops p t (suc left) [] all = absurd (let no : ⊥ = cc in no)
  dropped_pops p t (suc left) (s ∷ below) all = (Dropping p left t, drops s p left t, dropped_pops p t left below all)

  -- a run that accepts takes all states off
  finishes_pop : (st us : List ℕ) → Finishes g table st us → PopsAll g table (Reading (lookahead g us)) st
  finishes_pop _ _ (reduced s p b next below rest us action dropped goto more) =
      let t = lookahead g us in
      let on = finishes_pop (next ∷ b ∷ rest) us more in
      let node : PopsAll g table (Dropping p 0 t) (b ∷ rest) = (on.2.0, goes b p t next on.0 on.2.0 goto on.1 on.2.1, on.2.2) in
      let whole = dropped_pops p t (prod_len g p) (s ∷ below) (subst (PopsAll g table (Dropping p 0 t)) (sym dropped) node) in
      (whole.0, reduces s t p whole.0 action whole.1, whole.2)
  finishes_pop _ _ (shifted s t next below us action more) =
      let on = finishes_pop (next ∷ s ∷ below) us more in
      (on.2.0, shifts s t next (lookahead g us) on.0 on.2.0 action on.1 on.2.1, on.2.2)
  finishes_pop _ _ (accepted s below action) = (Done, accepts s action, done_pops below)

  -- so a stack can be completed if and only if all its states can be taken off
  completable_pops : FitsGrammar g table → (st : List ℕ) → 0 < length st
      → IsCompletable g table st ↔ ((t : ℕ) × PopsAll g table (Reading t) (reverse st))
  completable_pops fits st some = (
    λ is. let run = far_finishes g table is.0 st 0 is.1.0 Accepted is.1.1 refl in
        (lookahead g is.0, finishes_pop (reverse st) is.0 run),
    λ pops.
        let on = pops_finish (Reading pops.0) (reverse st) pops.1 in
        let run = finishes_far g table fits on.0 (reverse st) on.0 on.1.1 0 (omega arith) refl in
        (on.0, subst (λ (l : List ℕ). (prods : List ℕ) × Far (λ (t : ℕ). t) g table on.0 l 0 prods Accepted) (reverse-reverse st) run),
  )

pub pops_are_completions : PopsAreCompletions
pops_are_completions g table st fits some = completable_pops g table fits st some
