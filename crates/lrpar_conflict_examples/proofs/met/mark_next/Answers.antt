use Rattle.lrpar_conflict_examples.proofs.MetLemmas.{next_marks}
use Rattle.lrpar_conflict_examples.proofs.met.mark_next.Goals as goal

pub returns-clause-marks : goal.returns-clause-marks
returns-clause-marks c = next_marks c.args.marks.now c.args.from c.args.next c.requires.1 c.if-not-marks-from.false
