use Rattle.std.proofs.Common.{◌∷◌, ◌++◌, ◌∙◌, [], ap}
use Rattle.std.proofs.lemmas.List.{append_assoc}
use Rattle.lrpar_table_rows.specs.PlainRows.{plain_action}
use Rattle.lrpar_table_rows.specs.Table.{actions_at, gotos_at}
use Rattle.lrpar_table_sentences.proofs.EdgeLemmas.{entry_all, entry_more}
use Rattle.lrpar_conflict_examples.specs.Met.{goto_steps, shift_step, shift_steps}
use Rattle.lrpar_conflict_examples.proofs.met.push_steps.Goals as goal

pub shifts-preserved : goal.shifts-preserved
shifts-preserved g c =
    let index = g.StorageT.StorageIndex.index in
    let s = index c.args.s.0 in
    let edges = c.shifts.edges.items in
    let taken = c.args.taken.now in
    let action = plain_action index c.index-actions-place.result in
    entry_more (λ t. index t.0) (plain_action index) c.actions_of.result.0.now c.actions_of.result.1.now (actions_at c.args.stable.now s)
    c.actions_of.ensures.actions c.actions_of.ensures.entries (λ entry. shift_step taken s entry.0 entry.1) c.args.edges.now.items c.shifts.place
    c.index-tokens-place.result c.index-actions-place.result edges c.push_shift.new.edges.items c.shifts-test.true c.index-tokens-place.is
    c.index-actions-place.is c.shifts.invariant
    (c.in_ok-push_shift.ensures ∙ ap (λ a. edges ++ shift_step taken a c.from-in-shifts.result action) c.from.ensures
    ∙ ap (λ b. edges ++ shift_step taken s b action) c.from-in-shifts.ensures)

pub gotos-preserved : goal.gotos-preserved
gotos-preserved g c =
    let index = g.StorageT.StorageIndex.index in
    let s = index c.args.s.0 in
    let edges = c.gotos.edges.items in
    entry_more (λ r. index r.0) (λ next. index next.0) c.gotos_of.result.0.now c.gotos_of.result.1.now (gotos_at c.args.stable.now s)
    c.gotos_of.ensures.states c.gotos_of.ensures.entries (λ entry. (s, entry.1) ∷ []) c.shifts.edges.items c.gotos.place c.index-rules-place.result
    c.index-states-place.result edges c.push.new.self.items c.gotos-test.true c.index-rules-place.is c.index-states-place.is c.gotos.invariant
    (c.in_ok-push.ensures.items ∙ ap (λ a. edges ++ (a, c.from-in-gotos-2.result) ∷ []) c.from-in-gotos.ensures
    ∙ ap (λ b. edges ++ (s, b) ∷ []) c.from-in-gotos-2.ensures)

pub returns-clause-edges : goal.returns-clause-edges
returns-clause-edges g c =
    let index = g.StorageT.StorageIndex.index in
    let s = index c.args.s.0 in
    let taken = c.args.taken.now in
    let es = actions_at c.args.stable.now s in
    let more = gotos_at c.args.stable.now s in
    let old = c.args.edges.now.items in
    let shifts =
    entry_all (λ t. index t.0) (plain_action index) c.actions_of.result.0.now c.actions_of.result.1.now es c.actions_of.ensures.actions c.actions_of.ensures.entries
    (λ entry. shift_step taken s entry.0 entry.1) old c.shifts.place c.shifts.edges.items c.shifts-test.false c.shifts.invariant in
    let gotos =
    entry_all (λ r. index r.0) (λ next. index next.0) c.gotos_of.result.0.now c.gotos_of.result.1.now more c.gotos_of.ensures.states c.gotos_of.ensures.entries
    (λ entry. (s, entry.1) ∷ []) c.shifts.edges.items c.gotos.place c.gotos.edges.items c.gotos-test.false c.gotos.invariant in
    gotos ∙ ap (λ first. first ++ goto_steps s more) shifts ∙ append_assoc old (shift_steps taken s es) (goto_steps s more)

pub returns-clause-stored : goal.returns-clause-stored
returns-clause-stored g c = record { actions = c.actions_of.ensures.exact; gotos = c.gotos_of.ensures.exact }
