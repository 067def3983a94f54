use Rattle.std.proofs.Common.{refl}
use Rattle.std.proofs.lemmas.Bool.{iff_false}
use Rattle.lrpar_table_stacks.specs.Stack.{IsJoined}
use Rattle.lrpar_table_stacks.proofs.StackLemmas.{joined_end, joined_more, joined_within}
use Rattle.lrpar_table_stacks.proofs.stack_check.are_joined.Goals as goal

pub loop-next-init : goal.loop-next-init
loop-next-init g c = (c.requires.state, (λ h. h, λ h. h))

pub is_joined-requires : goal.is_joined-requires
is_joined-requires g c = c.loop-next.invariant.0

pub returns-then-not-is_joined : goal.returns-then-not-is_joined
returns-then-not-is_joined g c =
    let index = g.StorageT.StorageIndex.index in
    let step =
    joined_more c.args.table.now (λ x. index x.0) (index c.loop-next.below.0) c.args.above.now c.loop-next.next-index c.next-item.result
    c.loop-next-test.true c.next-item.is in
    (λ h. absurd (cc), λ all. absurd (iff_false {P = IsJoined c.args.table.now (index c.loop-next.below.0) (index c.next-item.result.0)} c.is_joined.ensures c.if-not-is_joined.true (step.0 (c.loop-next.invariant.1.1 all)).0))

pub loop-next-preserved : goal.loop-next-preserved
loop-next-preserved g c =
    let index = g.StorageT.StorageIndex.index in
    let table = c.args.table.now in
    let step =
    joined_more table (λ x. index x.0) (index c.loop-next.below.0) c.args.above.now c.loop-next.next-index c.next-item.result
    c.loop-next-test.true c.next-item.is in
    let here = c.is_joined.ensures.0 c.if-not-is_joined.false in (
      joined_within table c.requires.closed (index c.loop-next.below.0) (index c.next-item.result.0) here,
      (λ rest. c.loop-next.invariant.1.0 (step.1 (here, rest)), λ all. (step.0 (c.loop-next.invariant.1.1 all)).1),
    )

pub returns : goal.returns
returns g c =
    let index = g.StorageT.StorageIndex.index in
    let end =
    joined_end c.args.table.now (λ x. index x.0) (index c.loop-next.below.0) c.args.above.now c.loop-next.next-index c.loop-next-test.false in
    (λ _. c.loop-next.invariant.1.0 end, λ _. refl)
