use Rattle.std.proofs.Common.{◌≡◌, ◌<◌, ◌∙◌, refl, arith, map}
use Rattle.lrpar_grammar.specs.Grammar.{tokens_len}
use Rattle.lrpar_table_rows.specs.PlainRows.{plain_goto}
use Rattle.lrpar_table_items.specs.Cores.{core_set}
use Rattle.lrpar_table_items.specs.Resolution.{shift_entry}
use Rattle.lrpar_table_items.proofs.StateRowLemmas.{error_same, met_at, refusal_met, row_all, row_begun, row_more}
use Rattle.lrpar_table_items.proofs.state_row.make_state_row.Goals as goal

pub complete_cores-requires : goal.complete_cores-requires
complete_cores-requires g c = c.requires.prods

pub returns-in_err-push_token-clause-refused : goal.returns-in_err-push_token-clause-refused
returns-in_err-push_token-clause-refused g c =
    let index = g.StorageT.StorageIndex.index in
    let token = c.loop-token.token in
    let fault = c.in_err-push_token.field-0.0 in
    let within : token < tokens_len c.args.grm.now = omega (arith, c.loop-token-test.true, c.tokens_len-token-end.ensures.len) in
    error_same c.from_residual-in_err-push_token.result _ fault c.from_residual-in_err-push_token.ensures.1
    (refusal_met index c.args.grm.now c.args.cores.now c.args.shifts.now c.requires c.in_ok-complete.complete.items c.from-start.result
    c.in_ok-complete.ensures.all c.in_ok-complete.ensures.sorted (c.from-start.ensures ∙ c.start_prod.ensures.number) (index c.args.state.now.0) token
    (plain_goto index c.split_shift-shift.result.0) (c.split_shift-shift.ensures.shift ∙ c.loop-token.invariant.later token (omega arith)) fault within
    (rw c.deref.ensures.value at c.in_err-push_token.ensures.refused))

pub loop-token-init : goal.loop-token-init
loop-token-init g c =
    let index = g.StorageT.StorageIndex.index in record {
      row = row_begun index c.args.precedences.now c.args.grm.now (index c.args.state.now.0) (map (core_set index) c.args.cores.now)
          (map (shift_entry index) c.args.shifts.now) c.args.found.now c.new-row.result c.new-row.ensures.items;
      ascend = c.requires.ascend;
      later = λ t from. refl;
    }

pub loop-token-preserved : goal.loop-token-preserved
loop-token-preserved g c =
    let index = g.StorageT.StorageIndex.index in
    let grm = c.args.grm.now in
    let lists = c.args.precedences.now in
    let s = index c.args.state.now.0 in
    let token = c.loop-token.token in
    let shift = c.split_shift-shift.ensures.shift ∙ c.loop-token.invariant.later token (omega arith) in
    let done = rw c.deref.ensures.value at c.in_ok-push_token.ensures.done in
    let met = met_at index grm c.args.cores.now c.args.shifts.now c.requires c.in_ok-complete.complete.items c.from-start.result
    c.in_ok-complete.ensures.all c.in_ok-complete.ensures.sorted (c.from-start.ensures ∙ c.start_prod.ensures.number) s token
    (plain_goto index c.split_shift-shift.result.0) shift lists c.loop-token.row c.push_token.new.row c.loop-token.found c.push_token.new.found done in record {
      row = row_more index lists grm s (map (core_set index) c.args.cores.now) (map (shift_entry index) c.args.shifts.now) c.args.found.now
          c.loop-token.found c.push_token.new.found c.loop-token.row c.push_token.new.row token c.loop-token.invariant.row met;
      ascend = c.split_shift-shift.ensures.rest;
      later = λ t later. c.split_shift-shift.ensures.later t (omega (arith, later)) ∙ c.loop-token.invariant.later t (omega (arith, later));
    }

pub returns-clause-row : goal.returns-clause-row
returns-clause-row g c =
    let index = g.StorageT.StorageIndex.index in
    let full : c.loop-token.token ≡ tokens_len c.args.grm.now =
    omega (arith, c.loop-token-test.false, c.loop-token.auto.token-end, c.tokens_len-token-end.ensures.len) in
    row_all index c.args.precedences.now c.args.grm.now (index c.args.state.now.0) (map (core_set index) c.args.cores.now)
    (map (shift_entry index) c.args.shifts.now) c.args.found.now c.loop-token.found c.loop-token.row c.loop-token.token full c.loop-token.invariant.row
