use Rattle.std.specs.String.{string_bytes}
use Rattle.lrpar_conflict_examples.proofs.BeforeLemmas.{next_example, no_example}
use Rattle.lrpar_conflict_examples.proofs.text.format_examples.Goals as goal

pub loop-example-preserved : goal.loop-example-preserved
loop-example-preserved g c =
    let grm = c.args.grm.now in
    let parted = c.in-Some.ensures.cases.0 in
    let fit = rw parted at c.loop-example.invariant.0 in
    let own = c.in_ok-push_example.ensures in (
      fit.1,
      next_example grm c.args.examples.now c.loop-example.rest.now c.in-Some.others.now c.in-Some.example.now (string_bytes c.loop-example.out) (string_bytes c.push_example.new.out)
          own.0 parted own.1 own.2 c.loop-example.invariant.1,
    )

pub returns : goal.returns
returns g c =
    no_example c.args.grm.now c.args.examples.now c.loop-example.rest.now (string_bytes c.loop-example.out) c.in_default.ensures.cases c.loop-example.invariant.1
