use Rattle.std.proofs.Common.{◌≡◌, ◌+◌, ◌∙◌, ap, arith, Bool, refl, subst, sym, ℕ}
use Rattle.std.specs.Bool.{OnFalse}
use Rattle.std.proofs.lemmas.Bool.{OnFalse_at, OnTrue_at}
use Rattle.lrpar_table_rows.specs.Table.{Table, goto_of}
use Rattle.lrpar_table_check.proofs.ChainEntryLemmas.{IsStoredGoto, stored_goto}
use Rattle.lrpar_table_pops.specs.AllGood.{IsTokenClosed}
use Rattle.lrpar_table_pops.specs.Entries.{AreAllRulesOf}
use Rattle.lrpar_table_pops.specs.Good.{KeepsReductions}
use Rattle.lrpar_table_pops.proofs.EntryLemmas.{all_rules}
use Rattle.lrpar_table_pops.proofs.FollowAllLemmas.{on_false_both}
use Rattle.lrpar_table_pops.proofs.GoodAllLemmas.{AreRulesClosedBy, rules_closed_by_all, rules_closed_by_more}
use Rattle.lrpar_table_pops.proofs.GrowthLemmas.{read_at}
use Rattle.lrpar_table_pops.proofs.GoodLemmas.{IsAdding, adding_grown, adding_on}
use Rattle.lrpar_table_pops.proofs.good.add_all.Goals.{then-add_by_goto, else-add_by_goto}
use Rattle.lrpar_table_pops.proofs.good.add_all.Goals as goal

pub add_by_goto-requires-clause-next : goal.add_by_goto-requires-clause-next
add_by_goto-requires-clause-next g c =
    let index = g.StorageT.StorageIndex.index in
    let at = c.gotos_of.ensures in
    let stored =
    subst (λ (t : Table). IsStoredGoto t (index c.args.state.0) (index c.index-rules-place.result.0) (index c.index-nexts-place.result.0) c.gotos.place)
    c.stable.ensures.table
    (stored_goto index c.stable.result.now c.args.state c.gotos_of.result.0.now c.gotos_of.result.1.now at.entries at.states at.exact at.within c.gotos.place
    c.index-rules-place.result c.index-nexts-place.result c.gotos-test.true c.index-rules-place.is c.index-nexts-place.is) in
    stored.within

pub gotos-preserved : goal.gotos-preserved
gotos-preserved g c =
    let index = g.StorageT.StorageIndex.index in
    let at = c.gotos_of.ensures in
    let s = index c.args.state.0 in
    let stored =
    subst (λ (t : Table). IsStoredGoto t s (index c.index-rules-place.result.0) (index c.index-nexts-place.result.0) c.gotos.place) c.stable.ensures.table
    (stored_goto index c.stable.result.now c.args.state c.gotos_of.result.0.now c.gotos_of.result.1.now at.entries at.states at.exact at.within c.gotos.place
    c.index-rules-place.result c.index-nexts-place.result c.gotos-test.true c.index-rules-place.is c.index-nexts-place.is) in
    let old = c.args.reduced.now.items in
    let now = c.gotos.reduced.items in
    let new = c.add_by_goto.new.reduced.items in
    let K = KeepsReductions c.args.checked.now.grammar c.args.checked.now.table s c.args.good.now old in
    let goto = ap (goto_of c.args.checked.now.table s) c.from.ensures ∙ stored.goto.goes in
    let more : K now → K new = λ before leads. c.add_by_goto.ensures.keeps s goto (before leads) in
    let rule = c.index-rules-place.result in
    let rules = c.gotos_of.result.0.now in
    let next = index c.index-nexts-place.result.0 in
    let l = c.gotos in
    let gr = c.args.checked.now.grammar in
    let table = c.args.checked.now.table in
    let part = c.args.part.now in
    let good = c.args.good.now in
    let pops = c.args.pops.now in
    let there = read_at rules rules l.place rule refl c.gotos-test.true c.index-rules-place.is in
    let goes = c.requires.part.part.gotos s (index rule.0) ∙ stored.goto.goes in
    let Closed = AreRulesClosedBy index gr part pops good s old rules (l.place + 1) in
    let adding : IsAdding K old new c.if-add_by_goto.grown = elim c.if-add_by_goto.branch [
      | then-add_by_goto w ↦
          subst (λ (b : Bool). IsAdding K old new b) (sym w.grown-is)
          (adding_grown K old now new c.gotos.grown c.gotos.invariant.adding more (OnTrue_at w.if-add_by_goto.true c.add_by_goto.ensures.sets.grown))
      | else-add_by_goto w ↦
          subst (λ (b : Bool). IsAdding K old new b) (sym w.grown-is)
          (adding_on K old now new c.gotos.grown c.gotos.invariant.adding more c.add_by_goto.ensures.sets.room)
    ] in
    let same : OnFalse c.if-add_by_goto.grown (new ≡ old) = elim c.if-add_by_goto.branch [
      | then-add_by_goto w ↦ subst (λ (b : Bool). OnFalse b (new ≡ old)) (sym w.grown-is) tt
      | else-add_by_goto w ↦
          subst (λ (b : Bool). OnFalse b (new ≡ old)) (sym w.grown-is)
          (on_false_both l.grown l.invariant.same l.invariant.same (λ before _. OnFalse_at w.if-add_by_goto.false c.add_by_goto.ensures.sets.same ∙ before))
    ] in
    let all : OnFalse c.if-add_by_goto.grown Closed = elim c.if-add_by_goto.branch [
      | then-add_by_goto w ↦ subst (λ (b : Bool). OnFalse b Closed) (sym w.grown-is) tt
      | else-add_by_goto w ↦
          subst (λ (b : Bool). OnFalse b Closed) (sym w.grown-is)
          (on_false_both l.grown l.invariant.same l.invariant.all (λ before closed.
          rules_closed_by_more index gr part pops good s next old now rules l.place rule there goes before closed
          (subst (λ (r : ℕ). (t : ℕ) → IsTokenClosed gr part pops good r next now t) c.from.ensures (OnFalse_at w.if-add_by_goto.false c.add_by_goto.ensures.all))))
    ] in
    record {
      adding = adding;
      keeps_room = λ r. c.add_by_goto.ensures.sets.keeps_room r ∙ l.invariant.keeps_room r;
      same = same;
      all = all;
    }

pub gotos-init : goal.gotos-init
gotos-init g c = record {
  adding = record { keeps = λ leads. leads; room = omega arith; grown = tt };
  keeps_room = λ r. refl;
  same = refl;
  all = λ i rule next t low at goto. absurd (omega (arith, low));
}

pub returns : goal.returns
returns g c =
    let index = g.StorageT.StorageIndex.index in
    let l = c.gotos in
    let rules = c.gotos_of.result.0.now in
    let at = c.gotos_of.ensures in
    let all = subst (λ (t : Table). AreAllRulesOf index t c.args.state rules) c.stable.ensures.table
    (all_rules index c.stable.result.now c.args.state rules c.gotos_of.result.1.now at.entries at.states at.exact) in
    record {
      keeps = l.invariant.adding.keeps;
      sets = record {
        keeps_room = l.invariant.keeps_room;
        same = l.invariant.same;
        room = l.invariant.adding.room;
        grown = l.invariant.adding.grown;
      };
      all = on_false_both l.grown l.invariant.all l.invariant.all (λ closed _.
          rules_closed_by_all index c.args.checked.now.grammar c.args.part.now c.args.pops.now c.args.good.now c.args.state c.args.reduced.now.items rules l.place
          c.gotos-test.false (λ r next goto. all r next (sym (c.requires.part.part.gotos (index c.args.state.0) r) ∙ goto)) closed);
    }
