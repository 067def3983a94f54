use Rattle.lrpar_grammar_places.proofs.FaultLemmas.{no_value}
use Rattle.lrpar_lexer.specs.Searches.{program_of}
use Rattle.lrpar_lexer.proofs.WinnerLemmas.{programs_all, programs_more}
use Rattle.lrpar_lexer.proofs.matching.matchers_of.Goals as goal

pub returns-in_err-matchers : goal.returns-in_err-matchers
returns-in_err-matchers g c = no_value c.from_residual.result _ _ c.from_residual.ensures.1

pub returns-in_err-new : goal.returns-in_err-new
returns-in_err-new g c = no_value c.from_residual-in_err-new.result _ _ c.from_residual-in_err-new.ensures.1

pub returns-in_err-push : goal.returns-in_err-push
returns-in_err-push g c = no_value c.from_residual-in_err-push.result _ _ c.from_residual-in_err-push.ensures.1

pub rules-preserved : goal.rules-preserved
rules-preserved g c =
    programs_more program_of c.rules.matchers.items c.push.new.self.items c.in_ok-new.field-0 c.args.rules.now c.rules.rule-index c.rule-item.result
    c.rules-test.true c.rule-item.is c.in_ok-push.ensures.items c.in_ok-new.ensures c.rules.invariant

pub returns : goal.returns
returns g c =
    programs_all program_of c.rules.matchers.items c.args.rules.now c.rules.rule-index c.rules-test.false c.rules.invariant
