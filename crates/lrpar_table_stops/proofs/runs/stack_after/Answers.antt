use Rattle.std.proofs.Common.{subst}
use Rattle.lrpar_table_stacks.specs.Expected.{tokens_of}
use Rattle.lrpar_table_stacks.specs.Stack.{states_of}
use Rattle.lrpar_table_stops.specs.Runs.{MayFeed}
use Rattle.lrpar_table_stops.proofs.RunLemmas.{runs_more, runs_to_start}
use Rattle.lrpar_table_stops.proofs.runs.stack_after.Goals as goal

pub feeding-init : goal.feeding-init
feeding-init g c =
    let index = g.StorageT.StorageIndex.index in
    (runs_to_start c.args.data.now (tokens_of index c.args.tokens.now) (states_of index c.in_ok-stack.stack.items) c.in_ok-stack.ensures.start, c.in_ok-stack.ensures.stack)

pub feeding-preserved : goal.feeding-preserved
feeding-preserved g c =
    let index = g.StorageT.StorageIndex.index in
    let d = c.args.data.now in
    let token = c.index-tokens-count.result in
    let old = c.feeding.stack in
    let fed = subst (λ b. MayFeed index d token old c.feed.new.stack b) c.if-not-branch.false c.in_ok-feed.ensures.fed in (
      runs_more index d c.args.tokens.now c.feeding.count token c.feeding-test.true c.index-tokens-count.is fed.0 (states_of index old.items)
          (states_of index c.feed.new.stack.items) c.feeding.invariant.0 fed.1,
      c.in_ok-feed.ensures.stack,
    )
