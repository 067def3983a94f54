use Rattle.std.proofs.Common.{◌≡◌, ◌<◌, ◌+◌, ◌-◌, ◌⊎◌, ◌∙◌, ap, arith, Bool, Global, length, List, subst, sym, Vec}
use Rattle.std.specs.Bool.{OnFalse, OnTrue}
use Rattle.lrpar_table_rows.specs.Table.{states_len}
use Rattle.lrpar_table_pops.specs.StoredAll.{HasNoMarks, IsClosedState, IsUntouched, SaturatesState}
use Rattle.lrpar_table_pops.specs.StoredPops.{room_of}
use Rattle.lrpar_table_pops.proofs.ExitLemmas.{less_new, less_on}
use Rattle.lrpar_table_pops.proofs.MarkLemmas.{none_marked}
use Rattle.lrpar_table_pops.proofs.RoundLemmas.{AreSettledFrom, settled_end, settled_marked, settled_same, settled_start}
use Rattle.lrpar_table_pops.proofs.pops.Pops.add_round.Goals.{then-branch, else-branch}
use Rattle.lrpar_table_pops.proofs.pops.Pops.add_round.Goals as goal

pub states-init : goal.states-init
states-init g c =
    let d = c.args.checked.now in
    let marks = c.in_ok-changed_now.changed_now.items in
    let made = c.in_ok-changed_now.ensures.items_if_clones_equal (λ y same. same) in
    let states = c.states_len-states.ensures.states ∙ ap states_len c.stable.ensures.table in
    record {
      pops = c.requires.pops;
      places = c.requires.places;
      sets = c.requires.sets;
      len = let long = c.in_ok-changed_now.ensures.len in let ok = c.in_ok-changed_now.changed_now.ok.0 in omega (arith, long, ok, states);
      settled = settled_start d.grammar d.graph d.table c.args.self.now marks c.args.changed.now.items c.requires.settled;
      marks = subst HasNoMarks (sym made) (none_marked c.states_len-states.result);
      less = tt;
      no_more = omega arith;
    }

pub states-preserved : goal.states-preserved
states-preserved g c =
    let d = c.args.checked.now in
    let l = c.states in
    let next = c.add_number.new.self in
    let first = c.args.self.now in
    let old = c.args.changed.now.items in
    let marks = l.changed_now.items in
    let number = c.states_len-states.result - 1 - l.above in
    let r = c.in_ok-add_number.field-0 in
    let states = c.states_len-states.ensures.states ∙ ap states_len c.stable.ensures.table in
    let test = c.states-test.true in
    let here : number + l.above + 1 ≡ states_len d.table = omega (arith, states, test) in
    let all = subst (λ (m : List Bool). SaturatesState d.grammar d.graph d.table number r (IsUntouched d.table m number ⊎ IsClosedState d.grammar d.graph d.table l.self number)
    l.self next l.found c.add_number.new.found) c.deref.ensures.value c.in_ok-add_number.ensures.all in
    let done = all c.stable.ensures.sound (omega (arith, states, test)) l.invariant.sets l.invariant.places in
    let settled : AreSettledFrom d.grammar d.graph d.table next c.if-branch.changed_now.items old (l.above + 1) = elim c.if-branch.branch [
      | then-branch w ↦
          let low : number < length marks = let len = l.invariant.len in omega (arith, len, states, test) in
          subst (λ (v : Vec Bool Global). AreSettledFrom d.grammar d.graph d.table next v.items old (l.above + 1)) (sym w.changed_now-is)
          (settled_marked d.grammar d.graph d.table l.self next marks old l.above number r here done.0 l.invariant.settled w.set_mark.new.marks.items
          w.set_mark.ensures.keeps (w.set_mark.ensures.marks low))
      | else-branch w ↦
          subst (λ (v : Vec Bool Global). AreSettledFrom d.grammar d.graph d.table next v.items old (l.above + 1)) (sym w.changed_now-is)
          (settled_same d.grammar d.graph d.table l.self next marks old l.above number r here done.0 l.invariant.settled w.if-branch.false)
    ] in
    let len : length c.if-branch.changed_now.items ≡ states_len d.table = elim c.if-branch.branch [
      | then-branch w ↦ ap (λ (v : Vec Bool Global). length v.items) w.changed_now-is ∙ w.set_mark.ensures.len ∙ l.invariant.len
      | else-branch w ↦ ap (λ (v : Vec Bool Global). length v.items) w.changed_now-is ∙ l.invariant.len
    ] in
    let none : OnFalse c.if-branch.grown (HasNoMarks c.if-branch.changed_now.items) = elim c.if-branch.branch [
      | then-branch w ↦ subst (λ (b : Bool). OnFalse b (HasNoMarks c.if-branch.changed_now.items)) (sym w.grown-is) tt
      | else-branch w ↦
          subst (λ (b : Bool). OnFalse b (HasNoMarks c.if-branch.changed_now.items)) (sym w.grown-is)
          (subst (λ (v : Vec Bool Global). OnFalse l.grown (HasNoMarks v.items)) (sym w.changed_now-is) l.invariant.marks)
    ] in
    let was = room_of first in
    let less : OnTrue c.if-branch.grown (room_of next < was) = elim c.if-branch.branch [
      | then-branch w ↦ less_new r c.if-branch.grown was (room_of l.self) (room_of next) w.if-branch.true l.invariant.no_more c.in_ok-add_number.ensures.less
      | else-branch w ↦ less_on l.grown c.if-branch.grown was (room_of l.self) (room_of next) w.grown-is c.in_ok-add_number.ensures.no_more l.invariant.less
    ] in
    record {
      pops = c.in_ok-add_number.ensures.pops;
      places = done.0.ways;
      sets = done.1;
      len = len;
      settled = settled;
      marks = none;
      less = less;
      no_more = omega (arith, l.invariant.no_more, c.in_ok-add_number.ensures.no_more);
    }

pub returns-clause-all : goal.returns-clause-all
returns-clause-all g c =
    let d = c.args.checked.now in
    let l = c.states in
    let states = c.states_len-states.ensures.states ∙ ap states_len c.stable.ensures.table in
    let end = c.states-test.false in
    record {
      ways = l.invariant.places;
      closed = settled_end d.grammar d.graph d.table l.self l.changed_now.items c.args.changed.now.items l.above (omega (arith, states, end)) l.invariant.settled;
      marks = l.invariant.marks;
      sets = l.invariant.sets;
    }
