use Rattle.lrpar_table_stacks.proofs.SettleLemmas.{on_err_always}
use Rattle.lrpar_grammar_places.proofs.FaultLemmas.{no_value}
use Rattle.lrpar_table_stacks.proofs.StepLemmas.{fails_step, reduces_where_can, takes_step, top_reduction}
use Rattle.lrpar_table_stacks.proofs.reduction.take_step.Goals as goal

pub top-requires : goal.top-requires
top-requires g c = c.requires.states.some

pub reduce_by-requires-clause-can : goal.reduce_by-requires-clause-can
reduce_by-requires-clause-can g c = λ can.
    let top = top_reduction c.requires.fits c.top.ensures c.in-Reduce.ensures.action in
    g.met.S.StateStack.due_can c.args.grm.now c.args.table.now _ c.args.states.now _ _ c.requires.suits (reduces_where_can top can)

pub returns-in_err-step-in-Reduce-clause-short_of_memory : goal.returns-in_err-step-in-Reduce-clause-short_of_memory
returns-in_err-step-in-Reduce-clause-short_of_memory g c =
    let kind = g.S.StateStack in
    let top = top_reduction c.requires.fits c.top.ensures c.in-Reduce.ensures.action in
    on_err_always c.from_residual.result _
    (fails_step g.StorageT.StorageIndex.index kind c.args.grm.now c.args.table.now c.args.states.now c.args.t
    c.in-Reduce.prod c.reduce_by.new.states top c.in_err-step-in-Reduce.ensures.fails)

pub returns-in_err-step-in-Reduce-clause-taken : goal.returns-in_err-step-in-Reduce-clause-taken
returns-in_err-step-in-Reduce-clause-taken g c = no_value c.from_residual.result _ _ c.from_residual.ensures.1

pub returns-in_ok-step-in-Reduce-clause-taken : goal.returns-in_ok-step-in-Reduce-clause-taken
returns-in_ok-step-in-Reduce-clause-taken g c =
    let kind = g.S.StateStack in
    let top = top_reduction c.requires.fits c.top.ensures c.in-Reduce.ensures.action in
    takes_step g.StorageT.StorageIndex.index kind c.args.grm.now c.args.table.now c.args.states.now c.args.t
    c.in-Reduce.prod c.reduce_by.new.states c.in_ok-step-in-Reduce.step top c.in_ok-step-in-Reduce.ensures.made
