use Rattle.std.proofs.Common.{Bool, ap, subst}
use Rattle.lrpar_table_stacks.specs.Overlay.{IsFedOver, Overlaid}
use Rattle.lrpar_table_stacks.specs.Stack.{states_of}
use Rattle.lrpar_parse.proofs.ExpectedLemmas.{fed_above, not_fed}
use Rattle.lrpar_parse.proofs.expected.feed_above.Goals as goal

pub returns-then-not-branch : goal.returns-then-not-branch
returns-then-not-branch g c =
    let index = g.StorageT.StorageIndex.index in
    let d = c.args.checked.now in
    let t = index c.args.token.0 in
    let fed =
    subst (λ (b : Bool). IsFedOver d.grammar d.table d.cap t c.new-overlay.result b c.feed_over.new.stack) c.if-not-branch.true c.in_ok-feed_over.ensures.fed in
    not_fed d.grammar d.table d.cap t c.new-overlay.result c.feed_over.new.stack (states_of index c.args.stack.now) (states_of index c.args.above.now.items)
    c.new-overlay.ensures.states fed

pub returns : goal.returns
returns g c =
    let index = g.StorageT.StorageIndex.index in
    let d = c.args.checked.now in
    let t = index c.args.token.0 in
    let fed =
    subst (λ (b : Bool). IsFedOver d.grammar d.table d.cap t c.new-overlay.result b c.feed_over.new.stack) c.if-not-branch.false c.in_ok-feed_over.ensures.fed in
    fed_above d.grammar d.table t c.new-overlay.result c.feed_over.new.stack (states_of index c.args.stack.now) (states_of index c.copy_above.new.above.items)
    c.kept.result (ap (λ (o : Overlaid). o.base) c.new-overlay.ensures.made) c.new-overlay.ensures.states c.feed_over.ensures.stack fed
    c.in_ok-copy_above.ensures c.kept.ensures.kept
