use Rattle.std.proofs.Common.{◌≡◌, ◌∙◌, ap, map, subst, sym, take}
use Rattle.std.proofs.lemmas.List.{take_all}
use Rattle.std.proofs.lemmas.Slice.Zip.{all_zipped_more}
use Rattle.std.specs.List.{AllZip}
use Rattle.lrpar_grammar.specs.Grammar.{tokens_len}
use Rattle.lrpar_table_rows.specs.Ascending.{HaveSame}
use Rattle.lrpar_table_items.specs.Cores.{core_set}
use Rattle.lrpar_table_items.specs.CompleteItems.{items_of_cores}
use Rattle.lrpar_table_items.specs.StateRows.{item_rows}
use Rattle.lrpar_table_items.specs.States.{state_of}
use Rattle.lrpar_table_items.proofs.CompleteItemLemmas.{states_more}
use Rattle.lrpar_table_items.proofs.item_rows.item_sets.Goals as goal

pub loop-state-preserved : goal.loop-state-preserved
loop-state-preserved g c =
    let index = g.StorageT.StorageIndex.index in
    let grm = c.args.grm.now in
    let states = c.args.states.now in
    let i = c.loop-state.state-index in
    let state = c.state-item.result in
    let own = items_of_cores (tokens_len grm) (map (core_set index) state.items.items) in
    let rows : _ ≡ own = c.in_ok-rows.ensures ∙ ap (λ cores. items_of_cores (tokens_len grm) (map (core_set index) cores)) c.deref.ensures.value in
    let same : HaveSame c.in_ok-set.set own = rw (c.deref-in-loop-state.ensures.value, rows) at c.in_ok-set.ensures.same in
    subst (AllZip HaveSame c.push.new.self.items) (sym (states_more index grm states i state c.loop-state-test.true c.state-item.is))
    (rw c.in_ok-push.ensures.items
    (all_zipped_more HaveSame c.loop-state.sets.items (item_rows grm (map (state_of index) (take i states))) c.in_ok-set.set own c.loop-state.invariant same))

pub returns : goal.returns
returns g c = rw (take_all c.loop-state.state-index c.args.states.now c.loop-state-test.false) at c.loop-state.invariant
