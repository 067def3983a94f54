use Rattle.std.proofs.Common.{sym}
use Rattle.lrpar_table_items.proofs.RestLemmas.{marked, marks_same}
use Rattle.lrpar_table_items.proofs.reach.mark.Goals as goal

pub returns-then-grown : goal.returns-then-grown
returns-then-grown c = marked c.args.waits.now.items c.args.rule c.args.grown c.if-grown.true

pub returns-else-grown : goal.returns-else-grown
returns-else-grown c = sym (marks_same c.args.waits.now.items c.args.rule c.args.grown c.if-grown.false)
