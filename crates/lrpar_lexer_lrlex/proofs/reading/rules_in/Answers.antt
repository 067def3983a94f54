use Rattle.std.proofs.Common.{◌≡◌, ◌+◌, None, length, option_map, rules, sym, ◌∙◌, ap}
use Rattle.std.proofs.lemmas.List.{length_push}
use Rattle.lrpar_lexer_lrlex.specs.Parts.{pieces_left, placed}
use Rattle.lrpar_lexer_lrlex.specs.Reading.{IsFirstFault, rule_lines}
use Rattle.lrpar_lexer_lrlex.specs.States.{plain_names}
use Rattle.lrpar_lexer_lrlex.proofs.FaultLemmas.{if_fault}
use Rattle.lrpar_lexer_lrlex.proofs.PieceLemmas.{smaller}
use Rattle.lrpar_lexer_lrlex.proofs.ReadingLemmas.{fault_here, faults_on, faults_stay, leads_on, leads_stay, leads_to_end, next_counts, next_is_nothing}
use Rattle.lrpar_lexer_lrlex.proofs.reading.rules_in.Goals as goal

pub returns-in_err-rule-clause-fault : goal.returns-in_err-rule-clause-fault
returns-in_err-rule-clause-fault g c =
    let index = g.StorageT.StorageIndex.index in
    let flags = c.args.flags.now in
    let states = plain_names c.args.states.now in
    let all = rule_lines flags (pieces_left 10 (option_map (λ p. placed p) c.args.lines)) in
    let next = next_counts flags c.lines.left c.cut.result.1 c.in-Some.part c.cut.result.0 c.trimmed-core.result c.in-Some.is c.cut.ensures.before
    c.cut.ensures.after c.trimmed-core.ensures (sym c.counts.ensures ∙ c.if-counts.true) in
    if_fault (IsFirstFault index c.args.grm.now flags states all) c.in_err-rule.field-0.0 c.from_residual.result c.from_residual.ensures.1
    (λ other. fault_here index c.args.grm.now flags states all _ _ (placed c.trimmed-core.result) next c.in_err-rule.field-0.0
    (c.in_err-rule.ensures.fault other) c.lines.invariant.faults)

pub lines-smaller-in-Continue-branch-3 : goal.lines-smaller-in-Continue-branch-3
lines-smaller-in-Continue-branch-3 g c = smaller 10 c.lines.left c.cut.result.1 c.in-Some.part c.in-Some.is c.cut.ensures.after

pub lines-smaller : goal.lines-smaller
lines-smaller g c = smaller 10 c.lines.left c.cut.result.1 c.in-Some.part c.in-Some.is c.cut.ensures.after

pub lines-preserved-in-Continue-branch-3 : goal.lines-preserved-in-Continue-branch-3
lines-preserved-in-Continue-branch-3 g c =
    let index = g.StorageT.StorageIndex.index in
    let flags = c.args.flags.now in
    let states = plain_names c.args.states.now in
    let all = rule_lines flags (pieces_left 10 (option_map (λ p. placed p) c.args.lines)) in
    let next = next_counts flags c.lines.left c.cut.result.1 c.in-Some.part c.cut.result.0 c.trimmed-core.result c.in-Some.is c.cut.ensures.before
    c.cut.ensures.after c.trimmed-core.ensures (sym c.counts.ensures ∙ c.if-counts.true) in
    record {
      paired = ap length c.in_ok-push-2.ensures.items ∙ length_push _ _ ∙ ap (λ n. n + 1) c.lines.invariant.paired ∙ sym (length_push _ _)
          ∙ sym (ap length c.in_ok-push.ensures.items);
      leads = leads_on index c.args.grm.now flags states all _ _ (placed c.trimmed-core.result) next c.lines.rules.items c.push.new.self.items
          c.lines.starts.items c.push-then-counts.new.self.items c.in_ok-rule.rule c.in_ok-rule.start c.in_ok-push.ensures.items
          c.in_ok-push-2.ensures.items c.in_ok-rule.ensures.rule c.lines.invariant.leads;
      faults = faults_on index c.args.grm.now flags states all _ _ (placed c.trimmed-core.result) next c.in_ok-rule.rule c.in_ok-rule.start
          c.in_ok-rule.ensures.rule c.lines.invariant.faults;
    }

pub lines-preserved : goal.lines-preserved
lines-preserved g c =
    let index = g.StorageT.StorageIndex.index in
    let flags = c.args.flags.now in
    let states = plain_names c.args.states.now in
    let all = rule_lines flags (pieces_left 10 (option_map (λ p. placed p) c.args.lines)) in
    let next = next_is_nothing flags c.lines.left c.cut.result.1 c.in-Some.part c.cut.result.0 c.trimmed-core.result c.in-Some.is c.cut.ensures.before
    c.cut.ensures.after c.trimmed-core.ensures (sym c.counts.ensures ∙ c.if-counts.false) in
    record {
      paired = c.lines.invariant.paired;
      leads = leads_stay index c.args.grm.now flags states all _ _ c.lines.rules.items c.lines.starts.items next c.lines.invariant.leads;
      faults = faults_stay index c.args.grm.now flags states all _ _ next c.lines.invariant.faults;
    }

pub returns-clause-rules : goal.returns-clause-rules
returns-clause-rules g c =
    let flags = c.args.flags.now in
    let none : c.lines.left ≡ None = search rules in
    leads_to_end g.StorageT.StorageIndex.index c.args.grm.now flags (plain_names c.args.states.now)
    (rule_lines flags (pieces_left 10 (option_map (λ p. placed p) c.args.lines))) _ c.lines.rules.items c.lines.starts.items
    (ap (λ o. rule_lines flags (pieces_left 10 (option_map (λ p. placed p) o))) none) c.lines.invariant.leads
