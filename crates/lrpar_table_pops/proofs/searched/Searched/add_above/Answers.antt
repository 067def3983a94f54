use Rattle.std.proofs.Common.{◌<◌, arith, inl, inr, length, map, subst, sym}
use Rattle.std.specs.Prelude.{Contains}
use Rattle.lrpar_grammar_places.specs.declared.span.StIdx.{StIdx}
use Rattle.lrpar_table_rows.proofs.ItemLemmas.{Contains-image, Contains-preimage}
use Rattle.lrpar_table_rows.specs.PlainRows.{plain_action}
use Rattle.lrpar_table_rows.specs.Table.{ShiftTo, Table, TableAction}
use Rattle.lrpar_table_pops.specs.AllGood.{AreReductionsClosed}
use Rattle.lrpar_table_pops.specs.Searched.{AreAllReductionsAt, AreReductionsAt, IsMetAt, IsShiftMetAt}
use Rattle.lrpar_table_pops.proofs.TransitionLemmas.{goto_read, shift_read}
use Rattle.lrpar_table_pops.proofs.AllGoodLemmas.{reductions_all}
use Rattle.lrpar_table_pops.proofs.SearchLemmas.{all_met, all_reductions_at, at_read, contains_none, each_all, each_more, joined_at, keeps_all, keeps_then, met_kept, reductions_at, shifts_kept, shifts_met}
use Rattle.lrpar_table_pops.proofs.searched.Searched.add_above.Goals as goal

pub add_shift-requires-clause-place : goal.add_shift-requires-clause-place
add_shift-requires-clause-place g c = let low = c.requires.place in let more = c.shifts.invariant.keeps.more in omega (arith, low, more)

pub add_shift-requires-clause-reduced : goal.add_shift-requires-clause-reduced
add_shift-requires-clause-reduced g c =
    let index = g.StorageT.StorageIndex.index in
    let gr = c.args.checked.now.grammar in
    let table = c.args.checked.now.table in
    let old = c.args.self.now.stacks.items in
    let under = c.index-stack.result.now in
    let at = at_read old c.args.place under c.requires.place c.index-stack.ensures in
    let now = c.shifts.self.stacks.items in
    subst (AreReductionsAt index gr table now c.args.place) (sym c.as_slice-reduced.ensures.value)
    (reductions_at index gr table old now c.shifts.invariant.keeps c.args.place under at c.set_good_reductions.new.reduced.items c.set_good_reductions.ensures.good)

pub add_shift-requires-clause-joined : goal.add_shift-requires-clause-joined
add_shift-requires-clause-joined g c = λ next shift.
    let index = g.StorageT.StorageIndex.index in
    let gr = c.args.checked.now.grammar in
    let table = c.args.checked.now.table in
    let old = c.args.self.now.stacks.items in
    let under = c.index-stack.result.now in
    let at = at_read old c.args.place under c.requires.place c.index-stack.ensures in
    let actions = c.actions_of.result.1.now in
    let by = c.actions_of.ensures in
    let read =
    shift_read index c.stable.result.now table c.stable.ensures.table under.top next c.actions_of.result.0.now actions by.entries by.actions by.exact by.within in
    let there = Contains-image (plain_action index) actions c.action-item.result (c.shifts.action-index, c.shifts-test.true, sym c.action-item.is) in
    joined_at index gr table old c.shifts.self.stacks.items c.shifts.invariant.keeps c.args.place under at next
    (inl (read.0 (subst (λ (a : TableAction). Contains (map (plain_action index) actions) a) shift there)))

pub shifts-init : goal.shifts-init
shifts-init g c = record {
  stacks = c.requires.stacks;
  all_good = λ whole pops good. good;
  keeps = keeps_all c.args.self.now.stacks.items;
  met = λ action there. absurd (contains_none action there);
}

pub shifts-preserved : goal.shifts-preserved
shifts-preserved g c =
    let graph = c.args.checked.now.graph in
    let index = g.StorageT.StorageIndex.index in
    let gr = c.args.checked.now.grammar in
    let table = c.args.checked.now.table in
    let now = c.shifts.self.stacks.items in
    let new = c.add_shift.new.self.stacks.items in
    let added = c.in_ok-add_shift.ensures.added in
    let more = c.shifts.invariant.keeps.more in
    let place = c.requires.place in
    let low : c.args.place < length now = omega (arith, place, more) in
    record {
      stacks = added.stacks;
      all_good = λ whole pops good.
          let under = c.index-stack.result.now in
          let old = c.args.self.now.stacks.items in
          let at = at_read old c.args.place under c.requires.place c.index-stack.ensures in
          let reduced = c.set_good_reductions.new.reduced.items in
          let leads = reductions_all gr graph table c.stable.ensures.sound c.args.pops.now pops under.good reduced c.set_good_reductions.ensures.room
          (index under.top.0) (c.requires.stacks.within c.args.place under at)
          (subst (λ (t : Table). AreReductionsClosed gr t c.args.pops.now (index under.top.0) under.good reduced) whole c.set_good_reductions.ensures.all) in
          added.all_good (c.shifts.invariant.all_good whole pops good) (subst (AreAllReductionsAt index gr graph table now c.args.place) (sym c.as_slice-reduced.ensures.value)
          (all_reductions_at index gr table old now c.shifts.invariant.keeps c.args.place under at graph reduced leads));
      keeps = keeps_then c.args.self.now.stacks.items now new c.shifts.invariant.keeps added.keeps;
      met = each_more (IsShiftMetAt index gr table new c.args.place) c.actions_of.result.1.now c.shifts.action-index c.action-item.result c.shifts-test.true
          c.action-item.is
          (λ action there next shift. met_kept index gr table now new added.keeps c.args.place next low (c.shifts.invariant.met action there next shift))
          c.in_ok-add_shift.ensures.met;
    }

pub gotos-init : goal.gotos-init
gotos-init g c =
    let index = g.StorageT.StorageIndex.index in
    let gr = c.args.checked.now.grammar in
    let table = c.args.checked.now.table in
    let old = c.args.self.now.stacks.items in
    let now = c.shifts.self.stacks.items in
    let under = c.index-stack.result.now in
    let at = at_read old c.args.place under c.requires.place c.index-stack.ensures in
    let actions = c.actions_of.result.1.now in
    let by = c.actions_of.ensures in
    let all =
    each_all (IsShiftMetAt index gr table now c.args.place) actions c.shifts.action-index c.shifts-test.false c.shifts.invariant.met in
    record {
      stacks = c.shifts.invariant.stacks;
      all_good = c.shifts.invariant.all_good;
      keeps = c.shifts.invariant.keeps;
      shifts = shifts_met index gr table old now c.shifts.invariant.keeps c.args.place under at (λ next shift.
          let read =
          shift_read index c.stable.result.now table c.stable.ensures.table under.top next c.actions_of.result.0.now actions by.entries by.actions by.exact by.within in
          let action = Contains-preimage (plain_action index) actions (ShiftTo next) (read.1 shift) in
          all action.0 action.1 next action.2);
      met = λ next there. absurd (contains_none next there);
    }

pub add-requires-clause-place : goal.add-requires-clause-place
add-requires-clause-place g c = let low = c.requires.place in let more = c.gotos.invariant.keeps.more in omega (arith, low, more)

pub add-requires-clause-reduced : goal.add-requires-clause-reduced
add-requires-clause-reduced g c =
    let index = g.StorageT.StorageIndex.index in
    let gr = c.args.checked.now.grammar in
    let table = c.args.checked.now.table in
    let old = c.args.self.now.stacks.items in
    let under = c.index-stack.result.now in
    let at = at_read old c.args.place under c.requires.place c.index-stack.ensures in
    let now = c.gotos.self.stacks.items in
    subst (AreReductionsAt index gr table now c.args.place) (sym c.as_slice-reduced.ensures.value)
    (reductions_at index gr table old now c.gotos.invariant.keeps c.args.place under at c.set_good_reductions.new.reduced.items c.set_good_reductions.ensures.good)

pub add-requires-clause-joined : goal.add-requires-clause-joined
add-requires-clause-joined g c =
    let index = g.StorageT.StorageIndex.index in
    let gr = c.args.checked.now.grammar in
    let table = c.args.checked.now.table in
    let old = c.args.self.now.stacks.items in
    let under = c.index-stack.result.now in
    let at = at_read old c.args.place under c.requires.place c.index-stack.ensures in
    let nexts = c.gotos_of.result.1.now in
    let by = c.gotos_of.ensures in
    let next = index c.next-item.result.0 in
    let read =
    goto_read index c.stable-2.result.now table c.stable-2.ensures.table under.top next c.gotos_of.result.0.now nexts by.entries by.states by.exact by.within in
    let there = Contains-image (λ (x : StIdx g.row.StorageT.Denot). index x.0) nexts c.next-item.result (c.gotos.next-index, c.gotos-test.true, sym c.next-item.is) in
    joined_at index gr table old c.gotos.self.stacks.items c.gotos.invariant.keeps c.args.place under at next (inr (read.0 there))

pub gotos-preserved : goal.gotos-preserved
gotos-preserved g c =
    let graph = c.args.checked.now.graph in
    let index = g.StorageT.StorageIndex.index in
    let gr = c.args.checked.now.grammar in
    let table = c.args.checked.now.table in
    let now = c.gotos.self.stacks.items in
    let new = c.add.new.self.stacks.items in
    let added = c.in_ok-add.ensures.added in
    let more = c.gotos.invariant.keeps.more in
    let place = c.requires.place in
    let low : c.args.place < length now = omega (arith, place, more) in
    record {
      stacks = added.stacks;
      all_good = λ whole pops good.
          let under = c.index-stack.result.now in
          let old = c.args.self.now.stacks.items in
          let at = at_read old c.args.place under c.requires.place c.index-stack.ensures in
          let reduced = c.set_good_reductions.new.reduced.items in
          let leads = reductions_all gr graph table c.stable.ensures.sound c.args.pops.now pops under.good reduced c.set_good_reductions.ensures.room
          (index under.top.0) (c.requires.stacks.within c.args.place under at)
          (subst (λ (t : Table). AreReductionsClosed gr t c.args.pops.now (index under.top.0) under.good reduced) whole c.set_good_reductions.ensures.all) in
          added.all_good (c.gotos.invariant.all_good whole pops good) (subst (AreAllReductionsAt index gr graph table now c.args.place) (sym c.as_slice-reduced.ensures.value)
          (all_reductions_at index gr table old now c.gotos.invariant.keeps c.args.place under at graph reduced leads));
      keeps = keeps_then c.args.self.now.stacks.items now new c.gotos.invariant.keeps added.keeps;
      shifts = shifts_kept index gr table now new added.keeps c.args.place low c.gotos.invariant.shifts;
      met = each_more (λ (x : StIdx g.row.StorageT.Denot). IsMetAt index gr table new c.args.place (index x.0)) c.gotos_of.result.1.now c.gotos.next-index
          c.next-item.result c.gotos-test.true c.next-item.is
          (λ x there. met_kept index gr table now new added.keeps c.args.place (index x.0) low (c.gotos.invariant.met x there))
          c.in_ok-add.ensures.met;
    }

pub returns-clause-gone_on : goal.returns-clause-gone_on
returns-clause-gone_on g c =
    let index = g.StorageT.StorageIndex.index in
    let gr = c.args.checked.now.grammar in
    let table = c.args.checked.now.table in
    let old = c.args.self.now.stacks.items in
    let now = c.gotos.self.stacks.items in
    let under = c.index-stack.result.now in
    let at = at_read old c.args.place under c.requires.place c.index-stack.ensures in
    let nexts = c.gotos_of.result.1.now in
    let by = c.gotos_of.ensures in
    let all =
    each_all (λ (x : StIdx g.row.StorageT.Denot). IsMetAt index gr table now c.args.place (index x.0)) nexts c.gotos.next-index c.gotos-test.false c.gotos.invariant.met in
    record {
      stacks = c.gotos.invariant.stacks;
      keeps = c.gotos.invariant.keeps;
      all_good = c.gotos.invariant.all_good;
      gone_on = all_met index gr table old now c.gotos.invariant.keeps c.args.place under at c.gotos.invariant.shifts (λ next goto.
          let read =
          goto_read index c.stable-2.result.now table c.stable-2.ensures.table under.top next c.gotos_of.result.0.now nexts by.entries by.states by.exact by.within in
          let state = Contains-preimage (λ (x : StIdx g.row.StorageT.Denot). index x.0) nexts next (read.1 goto) in
          subst (IsMetAt index gr table now c.args.place) state.2 (all state.0 state.1));
    }
