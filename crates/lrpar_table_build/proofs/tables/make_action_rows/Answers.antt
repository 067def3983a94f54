use Rattle.std.proofs.Common.{sym, subst, arith, length, map}
use Rattle.lrpar_table_items.specs.StateRows.{IsRefusedState}
use Rattle.lrpar_table_items.specs.States.{StateOf, state_of}
use Rattle.lrpar_table_items.specs.Resolution.{HasAcceptReduce}
use Rattle.lrpar_table_items.proofs.StateRowLemmas.{error_same}
use Rattle.lrpar_table_build.proofs.TablesLemmas.{refusal_of, rows_all, rows_begun, rows_more, state_known, state_read}
use Rattle.lrpar_table_build.proofs.tables.make_action_rows.Goals as goal

pub make_state_row-requires : goal.make_state_row-requires
make_state_row-requires g c =
    let index = g.StorageT.StorageIndex.index in
    let state = c.index-states-number.result in
    let is = state_read (state_of index) c.args.states.now c.loop-number.number state c.loop-number-test.true c.index-states-number.is in
    rw (c.deref.ensures.value, c.deref-in-loop-number.ensures.value)
    (state_known index c.args.grm.now c.args.states.now c.loop-number.number state c.requires.rows c.loop-number-test.true is)

pub loop-number-init : goal.loop-number-init
loop-number-init g c =
    rows_begun g.StorageT.StorageIndex.index c.args.precedences.now c.args.grm.now c.args.states.now c.args.found.now c.in_ok-rows.rows
    c.in_ok-rows.ensures.items

pub returns-in_err-row-clause-refused : goal.returns-in_err-row-clause-refused
returns-in_err-row-clause-refused g c =
    let index = g.StorageT.StorageIndex.index in
    let grm = c.args.grm.now in
    let s = c.loop-number.number in
    let states = map (state_of index) c.args.states.now in
    let state = state_of index c.index-states-number.result in
    let is = state_read (state_of index) c.args.states.now s c.index-states-number.result c.loop-number-test.true c.index-states-number.is in
    error_same c.from_residual-in_err-row.result _ c.in_err-row.field-0.0 c.from_residual-in_err-row.ensures.1
    (refusal_of (length c.args.states.now) s (index c.unwrap.result) (HasAcceptReduce grm state.cores state.shifts) (IsRefusedState grm states)
    c.in_err-row.field-0.0 c.loop-number-test.true (rw c.unwrap.ensures at c.from_index.ensures.back)
    (λ h. subst (λ (st : StateOf). HasAcceptReduce grm st.cores st.shifts) (sym is) h)
    (rw (c.deref.ensures.value, c.deref-in-loop-number.ensures.value) at c.in_err-row.ensures.refused))

pub loop-number-preserved : goal.loop-number-preserved
loop-number-preserved g c =
    let index = g.StorageT.StorageIndex.index in
    rows_more index c.args.precedences.now c.args.grm.now c.args.states.now c.args.found.now c.loop-number.found c.make_state_row.new.found
    c.loop-number.rows c.push.new.self c.in_ok-row.row c.loop-number.number (index c.unwrap.result) c.index-states-number.result c.loop-number-test.true
    c.index-states-number.is (rw c.unwrap.ensures at c.from_index.ensures.back) c.loop-number.invariant
    (rw (c.deref.ensures.value, c.deref-in-loop-number.ensures.value) at c.in_ok-row.ensures.row) c.in_ok-push.ensures.items

pub returns-clause-rows : goal.returns-clause-rows
returns-clause-rows g c =
    rows_all g.StorageT.StorageIndex.index c.args.precedences.now c.args.grm.now c.args.states.now c.args.found.now c.loop-number.found c.loop-number.rows
    c.loop-number.number (omega (arith, c.loop-number-test.false, c.loop-number.auto.number-end)) c.loop-number.invariant
