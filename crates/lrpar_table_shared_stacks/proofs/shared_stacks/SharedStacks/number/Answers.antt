use Rattle.std.proofs.Common.{◌≡◌, ◌<◌, ◌∙◌, ap, arith, length}
use Rattle.std.proofs.lemmas.List.{length-map}
use Rattle.lrpar_table_shared_stacks.specs.SharedStacks.{stack_at}
use Rattle.lrpar_table_stacks.specs.Stack.{states_of}
use Rattle.lrpar_table_shared_stacks.proofs.CurrentLemmas.{numbered_more}
use Rattle.lrpar_table_shared_stacks.proofs.SharedStacksLemmas.{extends_then}
use Rattle.lrpar_table_shared_stacks.proofs.shared_stacks.SharedStacks.number.Goals as goal

pub loop-at-preserved : goal.loop-at-preserved
loop-at-preserved g c =
    let index = g.StorageT.StorageIndex.index in
    let l = c.loop-at in
    let was = c.args.self.now in
    let items = c.self-in-loop-at.inside.above.items in
    let same : states_of index items ≡ was.above = ap (λ s. s.above) c.self-in-loop-at.view_is ∙ l.invariant.above in
    let first : states_of index c.self.inside.above.items ≡ was.above = ap (λ s. s.above) c.self.view_is in
    let many = ap length same in
    let all = ap length first in
    let within : l.at < length items =
    omega (arith, c.loop-at-test.true, c.len-at-end.ensures, l.auto.at-end, many, all, length-map items (λ x. index x.0), length-map c.self.inside.above.items (λ x. index x.0)) in
    let pushed = c.in_ok-number.ensures.pushed in
    record {
      extends = extends_then was l.self c.push_onto.new.self l.invariant.extends c.push_onto.ensures.extends;
      below = c.push_onto.ensures.below ∙ l.invariant.below;
      above = c.push_onto.ensures.above ∙ l.invariant.above;
      number = record {
        within = pushed.within;
        means = pushed.means
            ∙ numbered_more (λ x. index x.0) (stack_at was.stacks was.below) was.above (stack_at l.self.stacks l.number) items l.at c.index-state.result.now same within
            c.index-state.ensures l.invariant.number.means;
      };
    }
