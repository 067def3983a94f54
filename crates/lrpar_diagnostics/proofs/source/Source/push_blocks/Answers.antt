use Rattle.std.proofs.Common.{◌+◌, ◌-◌, ◌++◌, ◌∙◌, length, sym, ap, arith}
use Rattle.std.specs.String.{string_bytes}
use Rattle.lrpar_diagnostics.specs.Blocks.{blocks_after}
use Rattle.lrpar_diagnostics.proofs.BlockLemmas.{next_block}
use Rattle.lrpar_diagnostics.proofs.source.Source.push_blocks.Goals as goal

pub loop-span-preserved : goal.loop-span-preserved
loop-span-preserved c =
    let spans = c.args.spans.now in
    let rest = c.loop-span.rest.now in
    let others = c.in-Some.others.now in
    let parted = c.in-Some.ensures.cases in
    let fit = rw parted.0 at c.loop-span.invariant.fit in
    record {
      left = omega (arith, parted.1, c.loop-span.invariant.left);
      fit = fit.1;
      whole = next_block c.args.self.now.lines c.args.kind (length spans - length rest + 2) (length spans - length others + 1) (length spans - length others + 2)
          c.in-Some.span.now others (string_bytes c.loop-span.out) (string_bytes c.push_labelled.new.out) _
          (omega (arith, parted.1, c.loop-span.invariant.left)) (omega (arith, parted.1, c.loop-span.invariant.left)) c.in_ok-push_labelled.ensures
          (sym (ap (λ left. string_bytes c.loop-span.out ++ blocks_after c.args.self.now.lines c.args.kind (length spans - length rest + 2) left) parted.0) ∙ c.loop-span.invariant.whole);
    }
