use Rattle.std.proofs.lemmas.Bool.{OnTrue_from}
use Rattle.lrpar_table_pops.proofs.ExitLemmas.{met_in}
use Rattle.lrpar_table_pops.proofs.exits.Exits.meets.Goals as goal

pub returns-in-Some-clause-common : goal.returns-in-Some-clause-common
returns-in-Some-clause-common c =
    OnTrue_from c.has_common.result _ (λ is.
    met_in c.args.self.now c.args.other.now.way c.in-Some.tokens.now c.args.other.now.tokens c.in-Some.ensures.tokens (c.has_common.ensures.0 is))

pub returns-in-Some-clause-all : goal.returns-in-Some-clause-all
returns-in-Some-clause-all c = λ t h is. c.has_common.ensures.1 (t, c.in-Some.ensures.all t h, is)
