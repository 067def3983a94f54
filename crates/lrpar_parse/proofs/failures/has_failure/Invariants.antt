use Rattle.std.proofs.Common.{◌≡◌, drop}
use Rattle.lrpar_parse.specs.ValueArguments.{first_failure}
use Rattle.lrpar_parse.proofs.failures.has_failure.Given as goal

-- an error, if there is one, is among the arguments that are left
abbrev pub invariant-loop-arg : goal.invariant-loop-arg
invariant-loop-arg g l = first_failure l.args ≡ first_failure (drop l.arg-index l.args)
