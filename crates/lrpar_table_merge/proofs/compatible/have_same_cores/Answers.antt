use Rattle.std.proofs.Common.{◌<◌, ◌≤◌, sym, arith, length}
use Rattle.std.proofs.lemmas.Bool.{false≢true}
use Rattle.lrpar_table_merge.proofs.SameCoreLemmas.{differ_at, same_len, same_through, same_to}
use Rattle.lrpar_table_merge.proofs.compatible.have_same_cores.Goals as goal

pub returns-then-kernel-other : goal.returns-then-kernel-other
returns-then-kernel-other g c = (
  λ h. absurd (false≢true h),
  λ same. absurd (c.if-kernel-other.true (sym (same_len g.StorageT.StorageIndex.index c.args.kernel.now c.args.other.now same))),
)

pub returns-then-not-has_same_core : goal.returns-then-not-has_same_core
returns-then-not-has_same_core g c =
    let below : c.loop-place.place < length c.args.other.now = omega (arith, c.loop-place-test.true, c.if-kernel-other.false) in
    differ_at g.StorageT.StorageIndex.index c.args.kernel.now c.args.other.now c.loop-place.place c.index-kernel-place.result c.index-other-place.result
    c.has_same_core.result c.loop-place-test.true below c.index-kernel-place.is c.index-other-place.is c.has_same_core.ensures c.if-not-has_same_core.true

pub loop-place-preserved : goal.loop-place-preserved
loop-place-preserved g c =
    let below : c.loop-place.place < length c.args.other.now = omega (arith, c.loop-place-test.true, c.if-kernel-other.false) in
    same_to g.StorageT.StorageIndex.index c.args.kernel.now c.args.other.now c.loop-place.place c.index-kernel-place.result c.index-other-place.result
    c.has_same_core.result c.loop-place-test.true below c.index-kernel-place.is c.index-other-place.is c.has_same_core.ensures
    c.if-not-has_same_core.false c.loop-place.invariant

pub returns : goal.returns
returns g c =
    let past : length c.args.other.now ≤ c.loop-place.place = omega (arith, c.loop-place-test.false, c.if-kernel-other.false) in
    same_through g.StorageT.StorageIndex.index c.args.kernel.now c.args.other.now c.loop-place.place c.loop-place-test.false past c.loop-place.invariant
