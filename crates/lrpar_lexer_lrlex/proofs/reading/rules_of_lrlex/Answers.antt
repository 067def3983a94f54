use Rattle.std.proofs.Common.{option_map, map, sym, subst, ◌∙◌, ap}
use Rattle.lrpar_lexer_lrlex.specs.Flags.{header}
use Rattle.lrpar_lexer_lrlex.specs.Parts.{pieces_left, placed}
use Rattle.lrpar_lexer_lrlex.specs.Reading.{AreRulesOf, HasFirstFault, IsFirstFault, in_rules, in_states, rule_lines}
use Rattle.lrpar_lexer_lrlex.specs.States.{StateName, plain_names}
use Rattle.lrpar_lexer_lrlex.proofs.FaultLemmas.{if_fault}
use Rattle.lrpar_lexer_lrlex.proofs.reading.rules_of_lrlex.Goals as goal

pub returns-in-Err-declarations-clause-fault : goal.returns-in-Err-declarations-clause-fault
returns-in-Err-declarations-clause-fault g c other =
    in_states c.in-Ok.header.0 (placed c.in-Ok.header.1) (ap header (sym c.whole.ensures) ∙ c.in-Ok.ensures) (c.in-Err-declarations.ensures other)

pub returns-in_err-rules-clause-fault : goal.returns-in_err-rules-clause-fault
returns-in_err-rules-clause-fault g c =
    let index = g.StorageT.StorageIndex.index in
    let grammar = c.args.grm.now in
    let flags = c.in-Ok.header.0 in
    let states = plain_names c.in-Ok-declarations.declared.0.items in
    let lines = pieces_left 10 (option_map (λ p. placed p) c.in-Ok-declarations.declared.1) in
    if_fault (HasFirstFault index grammar c.args.text.now) c.in_err-rules.field-0.0 c.from_residual-in_err-rules.result
    c.from_residual-in_err-rules.ensures.1
    (λ other. in_rules flags (placed c.in-Ok.header.1) states lines (ap header (sym c.whole.ensures) ∙ c.in-Ok.ensures) c.in-Ok-declarations.ensures
    (subst (λ s. IsFirstFault index grammar flags s (rule_lines flags lines) c.in_err-rules.field-0.0) (ap plain_names c.deref-2.ensures.value)
    (c.in_err-rules.ensures.fault other)))

pub returns-clause-rules : goal.returns-clause-rules
returns-clause-rules g c =
    let index = g.StorageT.StorageIndex.index in
    let grammar = c.args.grm.now in
    let flags = c.in-Ok.header.0 in
    let states = plain_names c.in-Ok-declarations.declared.0.items in
    let lines = pieces_left 10 (option_map (λ p. placed p) c.in-Ok-declarations.declared.1) in
    record {
      flags = flags;
      rest = placed c.in-Ok.header.1;
      has_header = ap header (sym c.whole.ensures) ∙ c.in-Ok.ensures;
      states = states;
      lines = lines;
      declares = c.in-Ok-declarations.ensures;
      has_states = c.in_ok-exclusive.ensures ∙ ap (λ s. map (λ (s : StateName). s.exclusive) (plain_names s)) c.deref.ensures.value;
      has_rules = subst (λ s. AreRulesOf index grammar flags s (rule_lines flags lines) c.in_ok-rules.rules.items c.in_ok-rules.starts.items)
          (ap plain_names c.deref-2.ensures.value) c.in_ok-rules.ensures.rules;
    }
