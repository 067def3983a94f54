use Rattle.std.proofs.Common.{◌≡◌, ◌∙◌, inl, inr, [], Some, length, refl, ap, sym, subst, arith}
use Rattle.std.specs.List.{slice_get}
use Rattle.std.proofs.lemmas.Bool.{cases_lt}
use Rattle.std.proofs.lemmas.Option.{same_Some, slice_get_read, slice_get_within}
use Rattle.lrpar_grammar_typed.specs.Expansion.{AreDefined, IsDefined, IsFirst, NoDefinition}
use Rattle.lrpar_grammar_typed.proofs.expand.Expander.declare_rules.Goals as goal

pub loop-rule-init : goal.loop-rule-init
loop-rule-init c = record { declared = c.requires.declared; text = refl; defined = λ k d below there. absurd (omega arith); none = λ start. c.requires.none; first = λ d below there. absurd (omega arith) }

pub loop-rule-preserved : goal.loop-rule-preserved
loop-rule-preserved c =
    let e = c.loop-rule.self in
    let after = c.declare_rule.new.self in
    let text = c.args.self.now.text.now in
    let rules = c.args.rules.now in
    let i = c.loop-rule.rule-index in
    let rule = c.rule-item.result in
    let kept = c.loop-rule.invariant in
    let step = c.in_ok-declare_rule.ensures in
    record {
      declared = step.declared;
      text = step.text ∙ kept.text;
      defined = λ k d below there.
          elim (cases_lt k i) [
            | inl before ↦ let is = kept.defined k d before there in (is.0, is.1, step.rules is.0 is.1 is.2, is.3, is.4)
            | inr from ↦
                let at : k ≡ i = omega arith in
                let item : slice_get rules i ≡ Some rule = slice_get_read rules (length rules) i rule refl c.loop-rule-test.true c.rule-item.is in
                let same : d ≡ rule = same_Some d rule (sym there ∙ ap (slice_get rules) at ∙ item) in
                let is : IsDefined text after.grammar rule.name = subst (λ t. IsDefined t after.grammar rule.name) kept.text step.defined in
                subst (λ x. IsDefined text after.grammar x.name) (sym same) is
          ];
      none = λ start. absurd (omega arith);
      first = λ d below there.
          elim (cases_lt 0 i) [
            | inl before ↦ let is = kept.first d before there in (is.0, step.rules 0 is.0 is.1, is.2)
            | inr from ↦
                let start : i ≡ 0 = omega arith in
                let item : slice_get rules i ≡ Some rule = slice_get_read rules (length rules) i rule refl c.loop-rule-test.true c.rule-item.is in
                let same : d ≡ rule = same_Some d rule (sym there ∙ ap (slice_get rules) (sym start) ∙ item) in
                let is : IsDefined text after.grammar rule.name = subst (λ t. IsDefined t after.grammar rule.name) kept.text step.defined in
                let empty : length e.grammar.rules.items ≡ 0 = ap length (kept.none start) in
                let within = slice_get_within after.grammar.rules.items is.0 is.1 is.2 in
                let place : is.0 ≡ 0 = omega (arith, empty, within, step.one_more, e.grammar.rules.ok.0, after.grammar.rules.ok.0) in
                let first : IsFirst text after.grammar rule.name = (is.1, subst (λ k. slice_get after.grammar.rules.items k ≡ Some is.1) place is.2, is.4) in
                subst (λ x. IsFirst text after.grammar x.name) (sym same) first
          ];
    }

pub returns : goal.returns
returns c =
    let e = c.loop-rule.self in
    let text = c.args.self.now.text.now in
    let kept = c.loop-rule.invariant in
    record {
      same_text = kept.text;
      sound = kept.declared.sound;
      defined = λ k d there. kept.defined k d (let within = slice_get_within c.args.rules.now k d there in omega arith) there;
      first_rule = λ d there. kept.first d (let within = slice_get_within c.args.rules.now 0 d there in omega arith) there;
      written = λ place rule there written. subst (AreDefined text e.grammar _ []) (sym (kept.declared.empty place rule there).1) NoDefinition;
    }
