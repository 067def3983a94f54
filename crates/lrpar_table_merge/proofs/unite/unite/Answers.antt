use Rattle.std.proofs.Common.{◌≡◌, ◌<◌, ◌∙◌, refl, sym, ap, subst, arith, length, map, set}
use Rattle.std.proofs.lemmas.Bool.{OnFalse_at, OnFalse_from, OnTrue_at, OnTrue_from, true≢false}
use Rattle.std.proofs.lemmas.List.{length-map}
use Rattle.lrpar_table_first.specs.FirstRows.{total_missing}
use Rattle.lrpar_table_items.specs.Cores.{core_set}
use Rattle.lrpar_table_merge.specs.Compatible.{lookahead_rows}
use Rattle.lrpar_table_merge.proofs.KernelLemmas.{kernel_united}
use Rattle.lrpar_table_merge.proofs.SameCoreLemmas.{same_len}
use Rattle.lrpar_table_merge.proofs.UniteLemmas.{fewer_value, map_set_same, row_value, room_at, step_grown, united_all, united_none, united_value}
use Rattle.lrpar_table_merge.proofs.unite.unite.Goals as goal
use Rattle.lrpar_table_merge.proofs.unite.unite.Goals.{then-unite_core, else-unite_core}

pub loop-place-init : goal.loop-place-init
loop-place-init g c =
    let index = g.StorageT.StorageIndex.index in
    (united_none (map (core_set index) c.args.kernel.now) (map (core_set index) c.args.other.now), tt, refl)

pub unite_core-requires : goal.unite_core-requires
unite_core-requires g c =
    let index = g.StorageT.StorageIndex.index in
    let kernel = c.loop-place.kernel in
    let other = c.args.other.now in
    let place = c.loop-place.place in
    let len = same_len index c.args.kernel.now other c.requires.same in
    let low : place < length kernel = omega (arith, c.loop-place-test.true, c.loop-place.auto.kernel) in
    let below : place < length other = omega (arith, c.loop-place-test.true, len) in
    let room =
    room_at index kernel other place c.index-kernel-place.result c.index-other-place.result low below c.index-kernel-place.is
    c.index-other-place.is (c.loop-place.invariant.0.room ∙ c.requires.room) in record {
      room = sym (ap (λ (x : _). length x.tokens) (sym c.index-kernel-place.is) ∙ room);
    }

pub loop-place-preserved : goal.loop-place-preserved
loop-place-preserved g c =
    let index = g.StorageT.StorageIndex.index in
    let kernel = c.loop-place.kernel in
    let other = c.args.other.now in
    let place = c.loop-place.place in
    let core = c.unite_core.new.core in
    let one = c.unite_core.ensures in
    let so_far = c.loop-place.invariant in
    let first = map (core_set index) c.args.kernel.now in
    let before = map (core_set index) kernel in
    let after = map (core_set index) (set kernel place core) in
    let len = same_len index c.args.kernel.now other c.requires.same in
    let low : place < length kernel = omega (arith, c.loop-place-test.true, c.loop-place.auto.kernel) in
    let below : place < length other = omega (arith, c.loop-place-test.true, len) in
    let row = row_value index other place c.index-other-place.result below c.index-other-place.is in
    let unchanged = OnFalse_from c.loop-place.grown (lookahead_rows before ≡ lookahead_rows first) (λ fell. ap lookahead_rows (OnFalse_at fell so_far.2)) in (
      united_value index kernel place core c.index-kernel-place.result low first (map (core_set index) other)
          c.index-other-place.result.tokens row one.core one.room one.tokens so_far.0,
      OnTrue_from c.if-unite_core.grown (total_missing (lookahead_rows after) < total_missing (lookahead_rows first)) (λ held.
          elim c.if-unite_core.branch [
            | then-unite_core w ↦
                let fewer = fewer_value index kernel place core c.index-kernel-place.result low (OnTrue_at w.if-unite_core.true one.grown) in
                step_grown (lookahead_rows first) (lookahead_rows before) (lookahead_rows after) c.loop-place.grown so_far.1 unchanged fewer
            | else-unite_core w ↦
                let same = map_set_same (core_set index) kernel place core c.index-kernel-place.result low (OnFalse_at w.if-unite_core.false one.same) in
                subst (λ cores. total_missing (lookahead_rows cores) < total_missing (lookahead_rows first)) (sym same)
                (OnTrue_at (sym w.grown-is ∙ held) so_far.1)
          ]),
      OnFalse_from c.if-unite_core.grown _ (λ fell.
          elim c.if-unite_core.branch [
            | then-unite_core w ↦ absurd (true≢false (sym w.grown-is ∙ fell))
            | else-unite_core w ↦
                let same = map_set_same (core_set index) kernel place core c.index-kernel-place.result low (OnFalse_at w.if-unite_core.false one.same) in
                same ∙ OnFalse_at (sym w.grown-is ∙ fell) so_far.2
          ]),
    )

pub returns-clause-united : goal.returns-clause-united
returns-clause-united g c =
    let index = g.StorageT.StorageIndex.index in
    let len = same_len index c.args.kernel.now c.args.other.now c.requires.same in
    let count = length-map c.args.other.now (core_set index) in
    united_all (map (core_set index) c.args.kernel.now) (map (core_set index) c.args.other.now) (map (core_set index) c.loop-place.kernel) c.loop-place.place
    (omega (arith, len, count, c.loop-place-test.false)) c.loop-place.invariant.0

pub returns-clause-kernel : goal.returns-clause-kernel
returns-clause-kernel g c =
    let index = g.StorageT.StorageIndex.index in
    let united = returns-clause-united g c in
    λ grm. kernel_united grm (map (core_set index) c.args.kernel.now) (map (core_set index) c.args.other.now) (map (core_set index) c.loop-place.kernel) united
