use Rattle.std.proofs.lemmas.Bool.{OnFalse_at}
use Rattle.lrpar_table_merge.proofs.merge.Merging.merge_until_stable.Goals as goal

pub returns-clause-stable : goal.returns-clause-stable
returns-clause-stable g c = OnFalse_at c.if-branch.false c.in_ok-work_on_all.ensures.waited.1
