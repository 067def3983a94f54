use Rattle.std.proofs.Common.{◌<◌, length, arith}
use Rattle.lrpar_diagnostics.proofs.ConflictLemmas.{some_label}
use Rattle.lrpar_diagnostics.proofs.conflicts.group_label.Goals as goal

pub returns-else-is_empty : goal.returns-else-is_empty
returns-else-is_empty c = λ src.
    let some : 0 < length c.args.others.now = grind arith in
    some_label src c.args.others.now some
