use Rattle.std.proofs.Common.{◌≡◌, ◌∙◌, false, List, subst, sym, true}
use Rattle.std.proofs.lemmas.Bool.{OnFalse_from}
use Rattle.lrpar_table_pops.specs.Growth.{HasLookahead}
use Rattle.lrpar_table_pops.specs.declared.exits.Exit.{Exit}
use Rattle.lrpar_table_pops.proofs.GrowthLemmas.{some_has}
use Rattle.lrpar_table_pops.proofs.searched.can_complete.Goals as goal

pub returns-in-Some-clause-none : goal.returns-in-Some-clause-none
returns-in-Some-clause-none g c =
    OnFalse_from c.meet.result _ (λ off way t h k.
    let here = subst (λ (l : List Exit). HasLookahead l way t) (sym c.in-Some.ensures.exits) h in
    let no : true ≡ false = sym (c.meet.ensures.all way t (some_has c.in-Some.any.now way t here) k) ∙ off in
    absurd (let none : ⊥ = cc in none))
