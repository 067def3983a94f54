use Rattle.std.proofs.Common.{ap, sym}
use Rattle.lrpar_grammar_typed.specs.Expansion.{start_after}
use Rattle.lrpar_grammar_typed.proofs.expand.Expander.declare_one.Goals as goal

pub returns-in_ok-push-in-Use-clause-start : goal.returns-in_ok-push-in-Use-clause-start
returns-in_ok-push-in-Use-clause-start c = sym (ap (start_after c.args.start) c.in-Use.is)

pub returns-in-Start-2-clause-start : goal.returns-in-Start-2-clause-start
returns-in-Start-2-clause-start c = sym (ap (start_after c.args.start) c.in-Start-2.is)

pub returns-in_ok-number_tokens-in-Tokens-clause-start : goal.returns-in_ok-number_tokens-in-Tokens-clause-start
returns-in_ok-number_tokens-in-Tokens-clause-start c = sym (ap (start_after c.args.start) c.in-Tokens.is)

pub returns-in-Type-clause-start : goal.returns-in-Type-clause-start
returns-in-Type-clause-start c = sym (ap (start_after c.args.start) c.in-Type.is)
