use Rattle.std.proofs.lemmas.Bool.{both_ways}
use Rattle.lrpar_parse_completion.proofs.completer.Completer.completion.Goals as goal

pub returns-then-branch : goal.returns-then-branch
returns-then-branch g c = λ can is. (c.in_ok-push_completion.ensures can is).1

pub returns-else-branch : goal.returns-else-branch
returns-else-branch g c = λ can is. absurd (both_ways _ c.if-branch.false (c.in_ok-push_completion.ensures can is).0)
