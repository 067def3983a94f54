use Rattle.std.proofs.lemmas.Bool.{OnTrue_from}
use Rattle.lrpar_table_pops.proofs.GoodLemmas.{common_good}
use Rattle.lrpar_table_pops.proofs.good.is_good.Goals as goal

pub returns-in-Some-clause-good : goal.returns-in-Some-clause-good
returns-in-Some-clause-good g c =
    OnTrue_from c.has_common.result _ (λ is.
    common_good c.args.grm.now c.args.good.now c.args.reduced.now c.args.exit.now.way c.in-Some.tokens.now c.args.exit.now.tokens c.in-Some.ensures.good
    (c.has_common.ensures.0 is))

pub returns-in-Some-clause-all : goal.returns-in-Some-clause-all
returns-in-Some-clause-all g c = λ t is taken. c.has_common.ensures.1 (t, c.in-Some.ensures.all t taken, is)
