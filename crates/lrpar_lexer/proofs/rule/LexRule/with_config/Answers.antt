use Rattle.std.proofs.Common.{ap}
use Rattle.lrpar_lexer.specs.Anchored.{without_start}
use Rattle.lrpar_lexer.proofs.AnchoredLemmas.{finds_after}
use Rattle.lrpar_lexer.proofs.rule.LexRule.with_config.Goals as goal

pub invariant_of-result : goal.invariant_of-result
invariant_of-result g c = record { finds = finds_after c.args.config.now c.args.pattern.now c.in_ok-anchored.anchored c.in_ok-anchored.ensures.read }

pub returns-clause-pattern : goal.returns-clause-pattern
returns-clause-pattern g c =
    let it = c.in_ok-anchored.ensures.read in
    record { tree = it.tree; names = it.names; read = it.read; is = ap without_start it.after }
