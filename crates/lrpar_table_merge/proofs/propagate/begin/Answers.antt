use Rattle.std.proofs.Common.{◌<◌, sym, subst, arith, true, false, length, map, slice_set}
use Rattle.std.proofs.lemmas.List.{get_or-set_same}
use Rattle.lrpar_table_items.specs.Canonical.{AreSame}
use Rattle.lrpar_table_items.specs.CoreOrder.{IsKernel}
use Rattle.lrpar_table_items.specs.Cores.{IsAmong, core_set}
use Rattle.lrpar_table_items.specs.ItemSets.{IsStartItem}
use Rattle.lrpar_table_items.specs.Next.{kernel_rows}
use Rattle.lrpar_table_merge.proofs.ClearLemmas.{empty_beginnings}
use Rattle.lrpar_table_merge.proofs.PassLemmas.{rows_len}
use Rattle.lrpar_table_merge.proofs.RoundLemmas.{begun_by}
use Rattle.lrpar_table_merge.proofs.propagate.begin.Goals as goal

pub pass_to-requires : goal.pass_to-requires
pass_to-requires g c =
    let index = g.StorageT.StorageIndex.index in
    let grm = c.args.grm.now in
    let kernel = subst (λ items. IsKernel grm (map (core_set index) items)) (sym c.deref.ensures.value) c.in_ok-start.ensures.kernel in
    record { known = (grm, empty_beginnings grm (kernel_rows index c.args.kernels.now) c.requires.cores c.requires.none, kernel) }

pub returns-clause-alike : goal.returns-clause-alike
returns-clause-alike g c = let passed = c.in_ok-_grown.ensures.passed in record { len = passed.len; cores = passed.cores }

pub returns-clause-begun : goal.returns-clause-begun
returns-clause-begun g c =
    let index = g.StorageT.StorageIndex.index in
    let grm = c.args.grm.now in
    let before = kernel_rows index c.args.kernels.now in
    let waits = c.in_ok-waits.waits.items in
    let value = c.deref.ensures.value in
    let kernel = subst (λ items. IsKernel grm (map (core_set index) items)) (sym value) c.in_ok-start.ensures.kernel in
    let start = subst (λ items. AreSame (IsAmong (map (core_set index) items)) (IsStartItem grm)) (sym value) c.in_ok-start.ensures.start in
    let passed = c.in_ok-_grown.ensures.passed in
    let below = passed.low in
    let count = rows_len index c.args.kernels.now in
    let low : 0 < length waits = omega (arith, below, count, c.pass_to.auto.kernels, c.in_ok-waits.ensures.len, c.in_ok-waits.waits.ok.0) in
    begun_by grm before (kernel_rows index c.pass_to.new.kernels) (map (core_set index) c.deref.result.now) (slice_set waits 0 true) c.requires.none passed
    start (c.in_ok-_grown.ensures.kernels grm (empty_beginnings grm before c.requires.cores c.requires.none) kernel)
    (get_or-set_same waits 0 true false low)
