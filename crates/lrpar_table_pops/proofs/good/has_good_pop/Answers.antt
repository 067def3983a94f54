use Rattle.std.proofs.Common.{List, subst}
use Rattle.std.proofs.lemmas.Bool.{OnTrue_from, OnTrue_at}
use Rattle.lrpar_table_pops.specs.Exits.{HasExit}
use Rattle.lrpar_table_pops.specs.declared.exits.Exit.{Exit}
use Rattle.std.proofs.Common.{sym}
use Rattle.lrpar_table_pops.specs.Growth.{HasLookahead}
use Rattle.lrpar_table_pops.proofs.GrowthLemmas.{some_has}
use Rattle.lrpar_table_pops.proofs.good.has_good_pop.Goals as goal

pub returns-in-Some-clause-good : goal.returns-in-Some-clause-good
returns-in-Some-clause-good g c =
    OnTrue_from c.has_good.result _ (λ is.
    let some = OnTrue_at is c.has_good.ensures.good in (some.0, subst (λ (l : List Exit). HasExit l some.0) c.in-Some.ensures.exits some.1, some.2))

pub returns-in-Some-clause-all : goal.returns-in-Some-clause-all
returns-in-Some-clause-all g c = λ way t h taken.
    c.has_good.ensures.all way t
    (some_has c.in-Some.above.now way t (subst (λ (l : List Exit). HasLookahead l way t) (sym c.in-Some.ensures.exits) h)) taken
