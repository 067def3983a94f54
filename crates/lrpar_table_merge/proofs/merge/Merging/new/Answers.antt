use Rattle.std.proofs.Common.{arith}
use Rattle.lrpar_table_merge.proofs.MergingLemmas.{merging_none}
use Rattle.lrpar_table_merge.proofs.merge.Merging.new.Goals as goal

pub returns : goal.returns
returns g c = λ most limit.
    merging_none g.StorageT.StorageIndex.index c.args.grm.now most limit _ c.new-states.ensures.items
    (omega (arith, c.in_ok-by_prod.ensures, c.prods_len.ensures))
