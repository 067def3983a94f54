use Rattle.std.proofs.Common.{◌≡◌, ◌≢◌, ℕ, Option, Some, None, Bor, option_map, subst, sym, List}
use Rattle.regex.specs.declared.error.Error.TheVariants.{OutOfMemory}
use Rattle.lrpar_lexer.specs.RuleLines.{ReadsAs}
use Rattle.lrpar_lexer.specs.RuleTexts.{SaysNoRule, first_named}
use Rattle.lrpar_lexer.specs.declared.rules.LineFault.TheVariants.{Pattern, Unnamed}
use Rattle.lrpar_lexer.proofs.RuleFaultLemmas.{names_returned, names_weaker}
use Rattle.lrpar_lexer.proofs.rules.rule_of.Goals as goal

pub returns-in_err-token_named-in-Some-name-clause-fault : goal.returns-in_err-token_named-in-Some-name-clause-fault
returns-in_err-token_named-in-Some-name-clause-fault g c =
    let grammar = c.args.grm.now in
    let line = c.args.line.now in
    let pattern = c.in-Some.pattern.now in
    let name = c.in-Some-name.name.now in
    let reads : ReadsAs line pattern (Some name) =
    subst (λ (n : Option (Bor (List ℕ))). ReadsAs line pattern (option_map (λ n. n.now) n)) c.in-Some-name.is c.in-Some.ensures in
    names_returned (λ n why. (n ≡ c.args.number) × (why ≡ Unnamed) × (first_named grammar name ≡ None))
    (λ n why. (n ≡ c.args.number) × SaysNoRule grammar line why)
    (λ n why said. (said.0, subst (SaysNoRule grammar line) (sym said.1) (pattern, name, reads, said.2))) c.in_err-token_named-in-Some-name.field-0.0 c.from_residual.result
    c.from_residual.ensures.1 c.in_err-token_named-in-Some-name.ensures.fault

pub returns-in-Err : goal.returns-in-Err
returns-in-Err g c =
    let grammar = c.args.grm.now in
    let line = c.args.line.now in
    let pattern = c.in-Some.pattern.now in
    let name : Option (List ℕ) = option_map (λ n. n.now) c.in-Some.name in
    record {
      rule = tt;
      fault = names_weaker (λ n why. (n ≡ c.args.number) × (why ≡ Pattern c.in-Err.error) × (c.in-Err.error ≢ OutOfMemory))
          (λ n why. (n ≡ c.args.number) × SaysNoRule grammar line why)
          (λ n why said. (
            said.0,
            subst (SaysNoRule grammar line) (sym said.1)
                (pattern, name, c.in-Some.ensures, (said.2, c.in-Err.ensures.no_internal, c.in-Err.ensures.refused, c.in-Err.ensures.kind)),
          )) c.refusal.result c.refusal.ensures;
    }
