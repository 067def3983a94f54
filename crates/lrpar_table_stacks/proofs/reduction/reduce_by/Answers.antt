use Rattle.std.proofs.Common.{◌<◌, length, refl, subst, sym, ℕ}
use Rattle.lrpar_grammar.specs.Grammar.{prod_len, rule_of, symbols_of}
use Rattle.lrpar_grammar.specs.Symbols.{symbol_of}
use Rattle.lrpar_table_rows.specs.Table.{states_len}
use Rattle.lrpar_table_rows.proofs.TestLemmas.{length_by_image}
use Rattle.lrpar_table_stacks.proofs.SettleLemmas.{on_err_always}
use Rattle.lrpar_grammar_places.proofs.FaultLemmas.{no_value}
use Rattle.lrpar_table_stacks.proofs.StepLemmas.{left_goto, one_left, place_left, too_few, within_at}
use Rattle.lrpar_table_stacks.proofs.reduction.reduce_by.Goals as goal

pub returns-in-None-clause-made : goal.returns-in-None-clause-made
returns-in-None-clause-made g c =
    let goto =
    left_goto g.StorageT.StorageIndex.index c.args.grm.now _ _ _ _ _ _ _ _ _ c.prod-symbols.ensures c.height-height.ensures c.if-height-symbols.false
    c.state_at.ensures c.prod_to_rule-rule.ensures.rule c.goto.ensures.goto c.in-None.is in
    record { of_states = (goto.0, goto.1, refl); of_rest = refl }

pub returns-in_err-reduce-in-Some-clause-fails : goal.returns-in_err-reduce-in-Some-clause-fails
returns-in_err-reduce-in-Some-clause-fails g c =
    let index = g.StorageT.StorageIndex.index in
    let grm = c.args.grm.now in
    let len = length_by_image (symbol_of index) c.prod-symbols.result.now (symbols_of grm (index c.args.prod.0)) c.prod-symbols.ensures in
    let goto =
    left_goto index grm _ _ _ _ _ _ _ _ _ c.prod-symbols.ensures c.height-height.ensures c.if-height-symbols.false c.state_at.ensures
    c.prod_to_rule-rule.ensures.rule c.goto.ensures.goto c.in-Some.is in
    on_err_always c.from_residual.result _ (record {
      due = (goto.0, (index c.in-Some.next.0, goto.1));
      stays = c.in_err-reduce-in-Some.ensures.unchanged;
      of_rest = subst (λ (n : ℕ). g.S.StateStack.fails c.args.states.now n c.reduce.new.self) len c.in_err-reduce-in-Some.ensures.fails;
    })

pub returns-in_err-reduce-in-Some-clause-made : goal.returns-in_err-reduce-in-Some-clause-made
returns-in_err-reduce-in-Some-clause-made g c = no_value c.from_residual.result _ _ c.from_residual.ensures.1

pub returns-in_ok-reduce-in-Some-clause-made : goal.returns-in_ok-reduce-in-Some-clause-made
returns-in_ok-reduce-in-Some-clause-made g c =
    let index = g.StorageT.StorageIndex.index in
    let kind = g.S.StateStack in
    let grm = c.args.grm.now in
    let p = index c.args.prod.0 in
    let len = length_by_image (symbol_of index) c.prod-symbols.result.now (symbols_of grm p) c.prod-symbols.ensures in
    let goto =
    left_goto index grm _ _ _ _ _ _ _ _ _ c.prod-symbols.ensures c.height-height.ensures c.if-height-symbols.false c.state_at.ensures
    c.prod_to_rule-rule.ensures.rule c.goto.ensures.goto c.in-Some.is in
    let rest = subst (λ (r : ℕ). kind.reduces c.args.states.now p r (length c.prod-symbols.result.now) c.reduce.new.self) c.prod_to_rule-rule.ensures.rule
    c.in_ok-reduce-in-Some.ensures.reduces in
    record {
      of_states = (goto.0, (index c.in-Some.next.0, goto.1, rw len at c.in_ok-reduce-in-Some.ensures.states));
      of_rest = subst (λ (n : ℕ). kind.reduces c.args.states.now p (rule_of grm p) n c.reduce.new.self) len rest;
    }

pub reduce-requires-clause-can : goal.reduce-requires-clause-can
reduce-requires-clause-can g c =
    let index = g.StorageT.StorageIndex.index in
    let Can : ℕ → ℕ → Type 0 = g.S.StateStack.can_reduce c.args.states.now (index c.args.prod.0) in
    let goto =
    left_goto index c.args.grm.now _ _ _ _ _ _ _ _ _ c.prod-symbols.ensures c.height-height.ensures c.if-height-symbols.false c.state_at.ensures
    c.prod_to_rule-rule.ensures.rule c.goto.ensures.goto c.in-Some.is in
    let len = length_by_image (symbol_of index) c.prod-symbols.result.now (symbols_of c.args.grm.now (index c.args.prod.0)) c.prod-symbols.ensures in
    subst (λ (n : ℕ). Can (index c.prod_to_rule-rule.result.0) n) (sym len)
    (subst (λ (r : ℕ). Can r (prod_len c.args.grm.now (index c.args.prod.0))) (sym c.prod_to_rule-rule.ensures.rule)
    (c.requires.can (goto.0, (index c.in-Some.next.0, goto.1))))

pub returns-then-height-symbols-clause-made : goal.returns-then-height-symbols-clause-made
returns-then-height-symbols-clause-made g c =
    let index = g.StorageT.StorageIndex.index in
    let len = length_by_image (symbol_of index) c.prod-symbols.result.now (symbols_of c.args.grm.now (index c.args.prod.0)) c.prod-symbols.ensures in
    record { of_states = (too_few _ _ _ _ c.height-height.ensures len c.if-height-symbols.true, refl); of_rest = refl }

pub overflow_sub-height-2 : goal.overflow_sub-height-2
overflow_sub-height-2 g c = one_left _ _ c.if-height-symbols.false

pub state_at-requires : goal.state_at-requires
state_at-requires g c = place_left _ _ _ c.height-height.ensures c.if-height-symbols.false

pub goto-requires-clause-state : goal.goto-requires-clause-state
goto-requires-clause-state g c = within_at (states_len c.args.table.now) _ _ _ c.requires.within c.state_at.ensures

pub goto-requires-clause-rule : goal.goto-requires-clause-rule
goto-requires-clause-rule g c = rw c.requires.rules c.prod_to_rule-rule.ensures.within

pub reduce-requires-clause-deep : goal.reduce-requires-clause-deep
reduce-requires-clause-deep g c =
    subst (λ (height : ℕ). length c.prod-symbols.result.now < height) c.height-height.ensures c.if-height-symbols.false
