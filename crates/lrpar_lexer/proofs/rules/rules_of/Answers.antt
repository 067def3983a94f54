use Rattle.std.proofs.Common.{◌≡◌, ◌+◌, ◌<◌, length, take, get_or, sym, subst, ◌∙◌, ap, lit<, arith}
use Rattle.std.proofs.lemmas.Bool.Decides.{nat_tests}
use Rattle.std.proofs.lemmas.Iterator.Consumers.{YieldsList-end, YieldsList-turn}
use Rattle.std.proofs.lemmas.Iterator.Splits.{YieldsList-from_str_split}
use Rattle.std.proofs.lemmas.List.{length_push, take_all}
use Rattle.lrpar_lexer.specs.RuleLines.{text_lines}
use Rattle.lrpar_lexer.specs.RuleTexts.{AreRulesOf, IsFirstFault, IsRuleOf, SaysNoRule}
use Rattle.lrpar_lexer.proofs.RuleFaultLemmas.{names_returned}
use Rattle.lrpar_lexer.proofs.RuleTextLemmas.{fault_here, rule_more, rules_stay}
use Rattle.lrpar_lexer.proofs.rules.rules_of.Goals as goal

pub returns-in_err-rule_of-clause-fault : goal.returns-in_err-rule_of-clause-fault
returns-in_err-rule_of-clause-fault g c =
    let index = g.StorageT.StorageIndex.index in
    let grammar = c.args.grm.now in
    let lines = text_lines c.args.text.now in
    let number = c.lines.number in
    let line = c.in-Some.line.now in
    let core = c.core_of-core.result.now in
    let at : (number < length lines) × (line ≡ get_or lines number line) =
    subst (λ n. (n < length lines) × (line ≡ get_or lines n line)) (sym c.lines.invariant.number)
    (YieldsList-turn (YieldsList-from_str_split 10 c.args.text.now (lit< tt) (cc) (cc) (cc)) c.lines.yielded _ c.lines.yielded_by _ _ c.in-Some.line c.in-Some.is c.next.ensures.steps) in
    let some : 0 < length core = grind (arith, nat_tests, c.is_empty.ensures, c.if-not-is_empty.true) in
    names_returned (λ n why. (n ≡ number + 1) × SaysNoRule grammar core why) (IsFirstFault index grammar lines)
    (λ n why said. subst (λ m. IsFirstFault index grammar lines m why) (sym said.0)
    (fault_here index grammar lines number line at.0 at.1 c.lines.rules.items why (subst (λ l. 0 < length l) c.core_of-core.ensures some)
    c.lines.invariant.rules (subst (λ l. SaysNoRule grammar l why) c.core_of-core.ensures said.1)))
    c.in_err-rule_of.field-0.0 c.from_residual.result c.from_residual.ensures.1 c.in_err-rule_of.ensures.fault

pub lines-preserved-in_ok-push : goal.lines-preserved-in_ok-push
lines-preserved-in_ok-push g c =
    let index = g.StorageT.StorageIndex.index in
    let grammar = c.args.grm.now in
    let lines = text_lines c.args.text.now in
    let number = c.lines.number in
    let line = c.in-Some.line.now in
    let core = c.core_of-core.result.now in
    let rule = c.in_ok-rule_of.field-0 in
    let at : (number < length lines) × (line ≡ get_or lines number line) =
    subst (λ n. (n < length lines) × (line ≡ get_or lines n line)) (sym c.lines.invariant.number)
    (YieldsList-turn (YieldsList-from_str_split 10 c.args.text.now (lit< tt) (cc) (cc) (cc)) c.lines.yielded _ c.lines.yielded_by _ _ c.in-Some.line c.in-Some.is c.next.ensures.steps) in
    let some : 0 < length core = grind (arith, nat_tests, c.is_empty.ensures, c.if-not-is_empty.true) in
    record {
      number = ap (λ n. n + 1) c.lines.invariant.number ∙ sym (length_push c.lines.yielded c.in-Some.line);
      rules = subst (AreRulesOf index grammar (take (number + 1) lines)) (sym c.in_ok-push.ensures.items)
          (rule_more index grammar lines number line at.0 at.1 c.lines.rules.items rule (subst (λ l. 0 < length l) c.core_of-core.ensures some)
          c.lines.invariant.rules (subst (λ l. IsRuleOf index grammar l rule) c.core_of-core.ensures c.in_ok-rule_of.ensures.rule));
    }

pub lines-preserved : goal.lines-preserved
lines-preserved g c =
    let lines = text_lines c.args.text.now in
    let number = c.lines.number in
    let line = c.in-Some.line.now in
    let core = c.core_of-core.result.now in
    let at : (number < length lines) × (line ≡ get_or lines number line) =
    subst (λ n. (n < length lines) × (line ≡ get_or lines n line)) (sym c.lines.invariant.number)
    (YieldsList-turn (YieldsList-from_str_split 10 c.args.text.now (lit< tt) (cc) (cc) (cc)) c.lines.yielded _ c.lines.yielded_by _ _ c.in-Some.line c.in-Some.is c.next.ensures.steps) in
    let none : length core ≡ 0 = grind (arith, nat_tests, c.is_empty.ensures, c.if-not-is_empty.false) in
    record {
      number = ap (λ n. n + 1) c.lines.invariant.number ∙ sym (length_push c.lines.yielded c.in-Some.line);
      rules = rules_stay g.StorageT.StorageIndex.index c.args.grm.now lines number line at.0 at.1 c.lines.rules.items (ap length (sym c.core_of-core.ensures) ∙ none)
          c.lines.invariant.rules;
    }

pub returns-clause-rules : goal.returns-clause-rules
returns-clause-rules g c =
    let lines = text_lines c.args.text.now in
    let ended = YieldsList-end (YieldsList-from_str_split 10 c.args.text.now (lit< tt) (cc) (cc) (cc)) c.lines.yielded _ c.lines.yielded_by _ _ c.in-None.is c.next.ensures.steps in
    let all : c.lines.number ≡ length lines = c.lines.invariant.number ∙ ended.1 in
    subst (λ ls. AreRulesOf g.StorageT.StorageIndex.index c.args.grm.now ls c.lines.rules.items) (take_all c.lines.number lines (omega arith)) c.lines.invariant.rules
