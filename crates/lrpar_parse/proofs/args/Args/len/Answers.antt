use Rattle.std.proofs.Common.{ap, arith, length}
use Rattle.lrpar_parse.proofs.GivenLemmas.{given_as_many}
use Rattle.lrpar_parse.proofs.args.Args.len.Goals as goal

pub returns : goal.returns
returns g c = omega (arith, given_as_many c.self.inside.left.items c.self.invariant, ap (λ v. length v.left) c.self.view_is)
