use Rattle.std.proofs.Common.{◌↔◌, ◌++◌, ◌∙◌, ap, subst, sym}
use Rattle.std.specs.List.{Contains}
use Rattle.lrpar_table_rows.specs.PlainRows.{plain_action}
use Rattle.lrpar_table_rows.specs.Table.{action_of, actions_at, goto_of, gotos_at}
use Rattle.lrpar_table_sentences.proofs.EdgeLemmas.{entry_all, entry_more}
use Rattle.lrpar_conflict_examples.specs.Pairs.{IsPairStep, goto_pair, goto_pairs, shift_pair, shift_pairs}
use Rattle.lrpar_conflict_examples.proofs.PairLemmas.{next_exact}
use Rattle.lrpar_conflict_examples.proofs.paired.next_pairs.Goals as goal

pub shifts-preserved : goal.shifts-preserved
shifts-preserved g c =
    let index = g.StorageT.StorageIndex.index in
    let other = c.args.other.now in
    let q = index c.state_of-there.result.0 in
    entry_more (λ t. index t.0) (plain_action index) c.actions_of.result.0.now c.actions_of.result.1.now (actions_at c.args.one.now (index c.state_of-here.result.0))
    c.actions_of.ensures.actions c.actions_of.ensures.entries (λ entry. shift_pair entry.1 (action_of other q entry.0)) c.new-pairs.result.items c.shifts.place
    c.index-tokens-place.result c.index-actions-place.result c.shifts.pairs.items c.push_shift.new.pairs.items c.shifts-test.true c.index-tokens-place.is
    c.index-actions-place.is c.shifts.invariant c.in_ok-push_shift.ensures

pub gotos-preserved : goal.gotos-preserved
gotos-preserved g c =
    let index = g.StorageT.StorageIndex.index in
    let one = c.args.one.now in
    let other = c.args.other.now in
    let q = index c.state_of-there.result.0 in
    entry_more (λ r. index r.0) (λ next. index next.0) c.gotos_of.result.0.now c.gotos_of.result.1.now (gotos_at one c.args.state) c.gotos_of.ensures.states
    (c.gotos_of.ensures.entries ∙ ap (gotos_at one) c.state_of-here.ensures) (λ entry. goto_pair entry.1 (goto_of other q entry.0)) c.shifts.pairs.items
    c.gotos.place c.index-rules-place.result c.index-states-place.result c.gotos.pairs.items c.push_goto.new.pairs.items c.gotos-test.true
    c.index-rules-place.is c.index-states-place.is c.gotos.invariant c.in_ok-push_goto.ensures

pub returns : goal.returns
returns g c = λ next beside.
    let index = g.StorageT.StorageIndex.index in
    let one = c.args.one.now in
    let other = c.args.other.now in
    let s = index c.state_of-here.result.0 in
    let q = index c.state_of-there.result.0 in
    let all = c.gotos.pairs.items in
    let shifts =
    entry_all (λ t. index t.0) (plain_action index) c.actions_of.result.0.now c.actions_of.result.1.now (actions_at one s) c.actions_of.ensures.actions
    c.actions_of.ensures.entries (λ entry. shift_pair entry.1 (action_of other q entry.0)) c.new-pairs.result.items c.shifts.place c.shifts.pairs.items
    c.shifts-test.false c.shifts.invariant in
    let gotos =
    entry_all (λ r. index r.0) (λ n. index n.0) c.gotos_of.result.0.now c.gotos_of.result.1.now (gotos_at one c.args.state) c.gotos_of.ensures.states
    (c.gotos_of.ensures.entries ∙ ap (gotos_at one) c.state_of-here.ensures) (λ entry. goto_pair entry.1 (goto_of other q entry.0)) c.shifts.pairs.items
    c.gotos.place all c.gotos-test.false c.gotos.invariant in
    let are =
    gotos ∙ ap (λ l. l ++ goto_pairs other q (gotos_at one c.args.state)) (shifts ∙ ap (λ l. l ++ shift_pairs other q (actions_at one s)) c.new-pairs.ensures.items)
    ∙ ap (λ n. shift_pairs other q (actions_at one s) ++ goto_pairs other q (gotos_at one n)) (sym c.state_of-here.ensures) in
    subst (λ n. Contains all (next, beside) ↔ IsPairStep one other n c.args.paired next beside) c.state_of-here.ensures
    (subst (λ n. Contains all (next, beside) ↔ IsPairStep one other s n next beside) c.state_of-there.ensures
    (next_exact one other s q (record { actions = c.actions_of.ensures.exact; gotos = c.gotos_of.ensures.exact }) next beside all are))
