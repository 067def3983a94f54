use Rattle.std.proofs.Common.{arith}
use Rattle.lrpar_grammar.proofs.FitLemmas.{order_fails}
use Rattle.lrpar_grammar.proofs.grammar.fit.are_in_order.Goals as goal

pub returns-then-start-end : goal.returns-then-start-end
returns-then-start-end c = (
  λ h. absurd (cc),
  λ order. absurd (order_fails c.args.spans.now c.loop-span.span-index c.loop-span.end c.span-item.result
      c.loop-span.invariant.first c.loop-span.invariant.last (omega arith) c.span-item.is (omega arith) order),
)
