use Rattle.std.proofs.Common.{arith}
use Rattle.std.proofs.lemmas.Bool.{iff_false}
use Rattle.lrpar_table_check.proofs.ChainEntryLemmas.{row_ended, row_entry}
use Rattle.lrpar_table_check.proofs.chains.Chains.find_long_until.Goals as goal
use Rattle.lrpar_table_check.proofs.chains.Chains.find_long_until.Goals.{else-is_reduction-via-then-is_reduction+in_ok-is_long_from+else-branch, else-is_reduction-via-else-is_reduction}

pub returns-then-t-end : goal.returns-then-t-end
returns-then-t-end g c =
    let at = c.actions_of.ensures in
    let entry =
    row_entry g.StorageT.StorageIndex.index _ _ _ c.args.s _ _ c.unwrap_or-top.ensures _ _ at.entries at.actions at.exact _ c.loop-place.invariant at.ascending
    at.within _ _ c.loop-place-test.true c.index-tokens-place.is c.index-actions-place.is in
    record {
      within = omega arith;
      long = λ below. absurd (omega (arith, below));
      short = λ t before. entry.before t (omega (arith, before, c.if-t-end.true, c.from-t.ensures));
    }

pub is_long_from-requires-clause-token : goal.is_long_from-requires-clause-token
is_long_from-requires-clause-token g c =
    let at = c.actions_of.ensures in
    let entry =
    row_entry g.StorageT.StorageIndex.index c.args.self.now.grm.now c.args.self.now.stable.now c.args.self.now.cap c.args.s c.unwrap_or-top.result
    c.args.above c.unwrap_or-top.ensures _ _ at.entries at.actions at.exact _ c.loop-place.invariant at.ascending
    at.within _ _ c.loop-place-test.true c.index-tokens-place.is c.index-actions-place.is in
    entry.within

pub returns-then-branch : goal.returns-then-branch
returns-then-branch g c =
    let at = c.actions_of.ensures in
    let entry =
    row_entry g.StorageT.StorageIndex.index _ _ _ c.args.s _ _ c.unwrap_or-top.ensures _ _ at.entries at.actions at.exact _ c.loop-place.invariant at.ascending
    at.within _ _ c.loop-place-test.true c.index-tokens-place.is c.index-actions-place.is in
    record {
      within = omega (arith, c.if-t-end.false);
      long = λ below. rw c.from-t.ensures (c.in_ok-is_long_from.ensures.0 c.if-branch.true);
      short = λ t before. entry.before t (omega (arith, before, c.from-t.ensures));
    }

pub loop-place-preserved : goal.loop-place-preserved
loop-place-preserved g c =
    let at = c.actions_of.ensures in
    let entry =
    row_entry g.StorageT.StorageIndex.index _ _ _ c.args.s _ _ c.unwrap_or-top.ensures _ _ at.entries at.actions at.exact _ c.loop-place.invariant at.ascending
    at.within _ _ c.loop-place-test.true c.index-tokens-place.is c.index-actions-place.is in
    entry.more_fail
    (elim c.else-is_reduction.branch [
      | else-is_reduction-via-then-is_reduction+in_ok-is_long_from+else-branch w ↦ iff_false w.in_ok-is_long_from.ensures w.if-branch.false
      | else-is_reduction-via-else-is_reduction w ↦ λ long. iff_false c.is_reduction.ensures w.if-is_reduction.false (entry.reduces long)
    ])

pub returns : goal.returns
returns g c =
    let d = c.args.self.now in
    let at = c.actions_of.ensures in
    let ended =
    row_ended g.StorageT.StorageIndex.index d.grm.now d.stable.now d.cap c.args.s c.unwrap_or-top.result c.args.above c.unwrap_or-top.ensures
    c.actions_of.result.0.now c.actions_of.result.1.now at.entries at.actions at.exact c.loop-place.place c.loop-place.invariant c.loop-place-test.false in
    record { within = omega arith; long = λ below. absurd (omega (arith, below)); short = λ t before. ended t }
