use Rattle.std.proofs.Common.{◌+◌, ◌≡◌, ◌<◌, sym, subst, arith, length, map, All}
use Rattle.lrpar_table_items.specs.Cores.{IsAmong, core_set}
use Rattle.lrpar_table_items.specs.CoreOrder.{IsAhead}
use Rattle.lrpar_table_first.specs.FirstRows.{dummy_lookahead, row_at, rows_of}
use Rattle.lrpar_table_items.proofs.PutLemmas.{all_of_rows, begun_ahead, none_of_added}
use Rattle.lrpar_table_items.proofs.AmongLemmas.{rows_more}
use Rattle.lrpar_table_first.proofs.GrowthLemmas.{sets_len}
use Rattle.lrpar_table_first.proofs.RowLemmas.{row_is, wide_at}
use Rattle.lrpar_grammar_places.proofs.FaultLemmas.{nothing_done}
use Rattle.lrpar_table_items.proofs.closure.push_brought.Goals as goal

pub loop-rule-init : goal.loop-rule-init
loop-rule-init g c =
    let index = g.StorageT.StorageIndex.index in
    let grm = c.args.grm.now in
    let cores = map (core_set index) c.args.closure.now.items in
    record {
      items = λ x. none_of_added grm (rows_of c.args.brought.now) cores x c.requires.added;
      are = c.requires.kernel.cores;
      ahead = begun_ahead grm c.requires.well_formed cores c.requires.kernel.begun;
    }

pub push_rule-requires-clause-wide : goal.push_rule-requires-clause-wide
push_rule-requires-clause-wide g c =
    let grm = c.args.grm.now in
    let brought = c.args.brought.now in
    let count = sets_len grm brought c.requires.room in
    let within : c.loop-rule.rule < length brought = omega (arith, count, c.loop-rule-test.true, c.rules_len-rule-end.ensures.len) in
    wide_at brought c.loop-rule.rule (dummy_lookahead grm + 1) c.index-brought-rule.result c.requires.room.wide within c.index-brought-rule.is

pub loop-rule-preserved : goal.loop-rule-preserved
loop-rule-preserved g c =
    let index = g.StorageT.StorageIndex.index in
    let grm = c.args.grm.now in
    let brought = c.args.brought.now in
    let rows = rows_of brought in
    let n = c.loop-rule.rule in
    let number : index c.unwrap.result ≡ n = rw c.unwrap.ensures at c.from_index.ensures.back in
    let count = sets_len grm brought c.requires.room in
    let within : n < length brought = omega (arith, count, c.loop-rule-test.true, c.rules_len-rule-end.ensures.len) in
    let tokens : c.index-brought-rule.result ≡ row_at rows n = sym (row_is brought n c.index-brought-rule.result within c.index-brought-rule.is) in
    let before = map (core_set index) c.loop-rule.closure.items in
    let after = map (core_set index) c.push_rule.new.closure.items in
    record {
      items = λ x.
          rows_more grm rows (IsAmong (map (core_set index) c.args.closure.now.items)) (IsAmong before) (IsAmong after) n c.index-brought-rule.result x
          tokens (c.loop-rule.invariant.items x) (rw number at c.in_ok-push_rule.ensures.items x);
      are = c.in_ok-push_rule.ensures.cores;
      ahead = subst (λ m. All (IsAhead grm (m + 1)) after) number c.in_ok-push_rule.ensures.ahead;
    }

pub returns : goal.returns
returns g c =
    let index = g.StorageT.StorageIndex.index in
    let grm = c.args.grm.now in
    let count = c.rules_len-rule-end.ensures.len in
    record {
      items = λ x.
          all_of_rows grm c.requires.well_formed (rows_of c.args.brought.now) (IsAmong (map (core_set index) c.args.closure.now.items))
          (IsAmong (map (core_set index) c.loop-rule.closure.items)) c.loop-rule.rule x (omega (arith, count, c.loop-rule-test.false, c.loop-rule.auto.rule-end))
          (c.loop-rule.invariant.items x);
      cores = c.loop-rule.invariant.are;
    }

pub returns-in_err-push_rule-clause-items : goal.returns-in_err-push_rule-clause-items
returns-in_err-push_rule-clause-items g c = nothing_done c.from_residual.result _ _ c.from_residual.ensures.1

pub returns-in_err-push_rule-clause-cores : goal.returns-in_err-push_rule-clause-cores
returns-in_err-push_rule-clause-cores g c = nothing_done c.from_residual.result _ _ c.from_residual.ensures.1
