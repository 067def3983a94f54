use Rattle.std.proofs.Common.{◌≡◌}
use Rattle.std.specs.Vec.Iter.{into_iter_items}
use Rattle.lrpar_parse.specs.ValueArguments.{first_failure}
use Rattle.lrpar_parse.proofs.failures.first_failure.Given as goal

-- the first error of all arguments is the first one of those that are left
abbrev pub invariant-loop-arg : goal.invariant-loop-arg
invariant-loop-arg g l =
    (goal.iterator-loop-arg g).can_next l.arg-iterator × (goal.iterator-loop-arg g).is_finite l.arg-iterator
    × (first_failure (into_iter_items l.arg-iterator) ≡ first_failure l.fn.args.items)
