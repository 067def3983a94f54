use Rattle.std.proofs.Common.{◌≤◌, ◌-◌, ◌∙◌, [], ◌∷◌, ◌++◌, List, ℕ, ap, length, subst, sym, take, vec_capacity}
use Rattle.std.proofs.lemmas.List.{length-map}
use Rattle.lrpar_table_stacks.specs.Overlay.{Overlaid, overlaid}
use Rattle.lrpar_table_stacks.specs.Stack.{states_of}
use Rattle.lrpar_table_stacks.proofs.OverlayLemmas.{fails_over, full_over, over_put, reduces_over, stays_over}
use Rattle.lrpar_table_stacks.proofs.SettleLemmas.{on_err_always}
use Rattle.lrpar_grammar_places.proofs.FaultLemmas.{nothing_done}
use Rattle.lrpar_table_stacks.proofs.overlay.OverlayStateStack.reduce.Goals as goal

pub returns-clause-states : goal.returns-clause-states
returns-clause-states g c =
    let index = g.StorageT.StorageIndex.index in
    let inside = c.self.inside in
    let base = states_of index inside.base.now in
    let left = c.len.result - c.args.by.symbols in
    let within : inside.kept ≤ length base = rw length-map c.self.invariant.1 in
    let put =
    over_put (λ x. index x.0) base inside.kept inside.tail.items left c.saturating_sub.result c.min-self-inside.result c.args.by.next
    c.put_at.new.states.items within c.saturating_sub.ensures c.min-self-inside.ensures c.in_ok-put_at.ensures.put in
    put ∙ ap (λ (st : List ℕ). take left st ++ index c.args.by.next.0 ∷ []) (ap overlaid c.self.view_is)
    ∙ ap (λ (n : ℕ). take (n - c.args.by.symbols) (overlaid c.args.self.now) ++ index c.args.by.next.0 ∷ []) c.len.ensures

pub returns-in_err-put_at-clause-states : goal.returns-in_err-put_at-clause-states
returns-in_err-put_at-clause-states g c = nothing_done c.from_residual.result _ _ c.from_residual.ensures.1

pub returns-in_err-put_at-clause-reduces : goal.returns-in_err-put_at-clause-reduces
returns-in_err-put_at-clause-reduces g c = nothing_done c.from_residual.result _ _ c.from_residual.ensures.1

pub returns-in_err-put_at-clause-unchanged : goal.returns-in_err-put_at-clause-unchanged
returns-in_err-put_at-clause-unchanged g c =
    let index = g.StorageT.StorageIndex.index in
    let inside = c.self.inside in
    let view : Overlaid = record { base = states_of index inside.base.now; kept = inside.kept; tail = states_of index inside.tail.items; room = vec_capacity inside.tail } in
    on_err_always c.from_residual.result _
    (stays_over view c.args.self.now (states_of index c.put_at.new.states.items) (vec_capacity c.put_at.new.states) c.self.view_is
    (ap (states_of index) c.in_err-put_at.ensures.unchanged))

pub returns-in_err-put_at-clause-fails : goal.returns-in_err-put_at-clause-fails
returns-in_err-put_at-clause-fails g c =
    let index = g.StorageT.StorageIndex.index in
    let inside = c.self.inside in
    let view : Overlaid = record { base = states_of index inside.base.now; kept = inside.kept; tail = states_of index inside.tail.items; room = vec_capacity inside.tail } in
    on_err_always c.from_residual.result _
    (fails_over view c.args.self.now (states_of index c.put_at.new.states.items) (vec_capacity c.put_at.new.states) c.len.result c.args.by.symbols
    c.saturating_sub.result c.self.view_is (rw length-map c.self.invariant.1) c.len.ensures c.saturating_sub.ensures
    (c.in_err-put_at.ensures.full.0 ∙ sym (length-map inside.tail.items (λ x. index x.0))) (ap (states_of index) c.in_err-put_at.ensures.unchanged)
    c.in_err-put_at.ensures.room (subst (λ (n : ℕ). vec_capacity c.put_at.new.states ≤ n) (sym (length-map c.put_at.new.states.items (λ x. index x.0))) c.in_err-put_at.ensures.full.1))

pub returns-clause-reduces : goal.returns-clause-reduces
returns-clause-reduces g c =
    let index = g.StorageT.StorageIndex.index in
    let inside = c.self.inside in
    let view : Overlaid = record { base = states_of index inside.base.now; kept = inside.kept; tail = states_of index inside.tail.items; room = vec_capacity inside.tail } in
    reduces_over view c.args.self.now (states_of index c.put_at.new.states.items) (vec_capacity c.put_at.new.states) c.min-self-inside.result c.len.result
    c.args.by.symbols c.self.view_is c.len.ensures c.min-self-inside.ensures c.in_ok-put_at.ensures.room

pub returns-then-left-clause-fails : goal.returns-then-left-clause-fails
returns-then-left-clause-fails g c = full_over c.args.self.now c.args.by.symbols c.len.result c.len.ensures c.len.type_inv c.if-left.true
