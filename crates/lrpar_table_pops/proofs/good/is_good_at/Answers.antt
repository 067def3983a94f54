use Rattle.std.proofs.Common.{sym, ◌∙◌}
use Rattle.std.proofs.lemmas.Bool.{OnTrue_from}
use Rattle.lrpar_table_pops.proofs.good.is_good_at.Goals as goal

pub returns-in-Some-clause-good : goal.returns-in-Some-clause-good
returns-in-Some-clause-good g c = OnTrue_from c.contains.result _ (λ is. c.in-Some.ensures.good c.args.token (sym c.contains.ensures ∙ is))

pub returns-in-Some-clause-all : goal.returns-in-Some-clause-all
returns-in-Some-clause-all g c = λ taken. c.contains.ensures ∙ c.in-Some.ensures.all c.args.token taken
