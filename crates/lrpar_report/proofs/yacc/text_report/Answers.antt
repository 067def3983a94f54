use Rattle.lrpar_grammar_yacc.specs.Erasure.{erasure}
use Rattle.lrpar_report.proofs.yacc.text_report.Goals as goal

pub returns-in-None-clause-spans : goal.returns-in-None-clause-spans
returns-in-None-clause-spans c = c.unread-in-None.ensures.spans (erasure c.args.kind c.args.text.now)
