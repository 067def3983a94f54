use Rattle.std.proofs.Common.{rules}
use Rattle.lrpar_parse.proofs.GivenLemmas.{none_by_length}
use Rattle.lrpar_parse.proofs.args.Args.is_empty.Goals as goal

pub returns : goal.returns
returns g c = let by_length = none_by_length c.args.self.now.left in search (rules, by_length)
