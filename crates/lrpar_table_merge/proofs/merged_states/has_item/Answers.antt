use Rattle.std.proofs.Common.{◌<◌, arith, length}
use Rattle.std.proofs.lemmas.Bool.Decides.{nat_tests}
use Rattle.lrpar_table_merge.proofs.GivenListLemmas.{first_item}
use Rattle.lrpar_table_merge.proofs.merged_states.has_item.Goals as goal

pub returns-then-not-is_empty : goal.returns-then-not-is_empty
returns-then-not-is_empty g c = λ tested.
    let kernel = c.args.kernel.now in
    let some : 0 < length kernel = grind (arith, nat_tests, c.is_empty.ensures, c.if-not-is_empty.true) in
    first_item g.StorageT.StorageIndex.index kernel c.index-kernel-0.result some (c.has_any.ensures.0 tested)
