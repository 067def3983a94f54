use Rattle.std.proofs.Common.{◌∙◌, ℕ, sym, subst, arith, length}
use Rattle.std.proofs.lemmas.List.{length-map}
use Rattle.lrpar_grammar.specs.Grammar.{start_prod}
use Rattle.lrpar_table_sentences.specs.Moves.{moves_in}
use Rattle.lrpar_table_sentences.specs.AccessStrings.{step_of, steps_of}
use Rattle.lrpar_conflict_derivations.specs.Completion.{HasItemFor, up_of}
use Rattle.lrpar_conflict_derivations.proofs.AccessLemmas.{back_from_kernel, back_from_last, finished, finishing_first, finishing_more, nearer}
use Rattle.lrpar_conflict_derivations.proofs.completion.complete_derivation.Goals as goal

pub overflow_sub-place : goal.overflow_sub-place
overflow_sub-place g c =
    let index = g.StorageT.StorageIndex.index in
    let back =
    back_from_last c.args.grm.now c.start_prod.ensures.well_formed c.args.graph.now (steps_of index c.args.steps.now) (index c.args.last.0) c.requires.access_path
    (index c.args.token.0) (index c.args.item.0.0) c.args.item.1 c.args.asked c.requires.item in
    let low = back.within in
    let long = length-map c.args.steps.now (step_of index) in omega (arith, low, long)

pub up-init : goal.up-init
up-init g c =
    let index = g.StorageT.StorageIndex.index in
    finishing_first c.args.grm.now c.start_prod.ensures.well_formed c.args.graph.now (steps_of index c.args.steps.now) (index c.args.last.0) c.requires.access_path
    (index c.args.token.0) (index c.args.item.0.0) c.args.item.1 c.args.asked (moves_in index c.args.out.now.items) (length c.args.steps.now)
    (length-map c.args.steps.now (step_of index)) c.requires.item

pub complete_in_state-requires-clause-item : goal.complete_in_state-requires-clause-item
complete_in_state-requires-clause-item g c =
    let index = g.StorageT.StorageIndex.index in
    subst (λ (s : ℕ). HasItemFor c.args.graph.now s (index c.args.token.0) (index c.up.node.0) 0 c.up.asked) (sym c.state_at-state.ensures) c.up.invariant.1

pub overflow_sub-place-in-up : goal.overflow_sub-place-in-up
overflow_sub-place-in-up g c =
    let index = g.StorageT.StorageIndex.index in
    let back =
    back_from_kernel c.args.grm.now c.start_prod.ensures.well_formed c.args.graph.now (steps_of index c.args.steps.now) (index c.args.last.0) c.requires.access_path
    (index c.args.token.0) c.up.place (index c.state_at-state.result.0) (up_of index c.in_ok-up.up) c.up.invariant.0 c.state_at-state.ensures c.in_ok-up.ensures.begun in
    let low = back.within in omega (arith, low)

pub up-smaller : goal.up-smaller
up-smaller g c =
    let index = g.StorageT.StorageIndex.index in
    let back =
    back_from_kernel c.args.grm.now c.start_prod.ensures.well_formed c.args.graph.now (steps_of index c.args.steps.now) (index c.args.last.0) c.requires.access_path
    (index c.args.token.0) c.up.place (index c.state_at-state.result.0) (up_of index c.in_ok-up.up) c.up.invariant.0 c.state_at-state.ensures c.in_ok-up.ensures.begun in
    nearer c.up.place c.in_ok-up.up.dot (index c.up.node.0) (index c.in_ok-up.up.prod.0) (start_prod c.args.grm.now) back.within
    (λ is. c.up-test.true (c.from.ensures ∙ is ∙ sym c.start_prod.ensures.number ∙ sym c.from-start.ensures)) c.in_ok-up.ensures.begun.begun

pub up-preserved : goal.up-preserved
up-preserved g c =
    let index = g.StorageT.StorageIndex.index in
    let back =
    back_from_kernel c.args.grm.now c.start_prod.ensures.well_formed c.args.graph.now (steps_of index c.args.steps.now) (index c.args.last.0) c.requires.access_path
    (index c.args.token.0) c.up.place (index c.state_at-state.result.0) (up_of index c.in_ok-up.up) c.up.invariant.0 c.state_at-state.ensures c.in_ok-up.ensures.begun in
    let inside = c.up.invariant.0 in (
      omega (arith, inside),
      back.item,
      finishing_more c.args.grm.now c.start_prod.ensures.well_formed c.args.graph.now (steps_of index c.args.steps.now) (index c.args.last.0) c.requires.access_path
          (index c.args.token.0) (index c.args.item.0.0) c.args.item.1 c.args.asked (moves_in index c.args.out.now.items) (moves_in index c.up.out.items)
          (moves_in index c.complete_in_state.new.out.items) c.up.place (index c.up.node.0) c.up.asked (up_of index c.in_ok-up.up) c.up.invariant.2
          c.in_ok-up.ensures.to_kernel back,
    )

pub returns : goal.returns
returns g c =
    let index = g.StorageT.StorageIndex.index in
    let is = sym c.from.ensures ∙ c.up-test.false ∙ c.from-start.ensures ∙ c.start_prod.ensures.number in
    finished c.args.grm.now c.start_prod.ensures.well_formed c.args.graph.now (steps_of index c.args.steps.now) (index c.args.last.0) c.requires.access_path
    (index c.args.token.0) (index c.args.item.0.0) c.args.item.1 c.args.asked (moves_in index c.args.out.now.items) (moves_in index c.up.out.items) c.up.place
    (index c.up.node.0) c.up.asked c.up.invariant.0 is c.up.invariant.1 c.up.invariant.2
