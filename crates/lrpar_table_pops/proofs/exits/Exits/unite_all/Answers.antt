use Rattle.std.proofs.Common.{◌≡◌, ◌<◌, ◌∙◌, arith, take, inl, refl, Bool, true, false, List, subst, sym}
use Rattle.std.proofs.lemmas.Bool.{OnFalse_at, OnFalse_from, OnTrue_at, OnTrue_from}
use Rattle.std.specs.Bool.{OnFalse, OnTrue}
use Rattle.lrpar_table_pops.specs.Exits.{HasExit, room_left}
use Rattle.lrpar_table_pops.specs.declared.exits.Exit.{Exit}
use Rattle.lrpar_table_pops.proofs.ExitLemmas.{adds_more, room_then}
use Rattle.std.proofs.lemmas.List.{take_all}
use Rattle.lrpar_table_pops.specs.Growth.{GrowsBy, SomeHasLookahead}
use Rattle.lrpar_table_pops.proofs.GrowthLemmas.{grows_more, grows_none, none_has}
use Rattle.lrpar_table_pops.proofs.exits.Exits.unite_all.Goals.{else-unite, then-unite}
use Rattle.lrpar_table_pops.proofs.exits.Exits.unite_all.Goals as goal

pub loop-place-init : goal.loop-place-init
loop-place-init c = record {
  adds = λ r h. inl h;
  all = grows_none (SomeHasLookahead (take 0 c.args.others.now)) c.args.self.now (λ way t h. absurd (none_has c.args.others.now way t h));
  grown = tt;
  same = refl;
}

pub loop-place-preserved : goal.loop-place-preserved
loop-place-preserved c =
    let l = c.loop-place in
    let first = c.args.self.now in
    let next = c.unite.new.self in
    let other = c.get-other.result.now in
    let adds = adds_more (HasExit c.args.others.now) first l.self next other l.invariant.adds c.unite.ensures.adds
    (λ r leaves. (other, c.get-other.ensures.member, leaves)) in
    let all = grows_more c.args.others.now l.place other first l.self next c.get-other.ensures.at l.invariant.all c.unite.ensures.all in
    elim c.if-unite.branch [
      | then-unite w ↦ record {
        adds = adds;
        all = all;
        grown = OnTrue_from c.if-unite.grown _ (λ is. room_then l.grown first l.self next l.invariant.grown l.invariant.same (OnTrue_at w.if-unite.true c.unite.ensures.grown));
        same = OnFalse_from c.if-unite.grown _ (λ is. let no : true ≡ false = sym w.grown-is ∙ is in absurd (let none : ⊥ = cc in none));
      }
      | else-unite w ↦
          let kept : next ≡ l.self = OnFalse_at w.if-unite.false c.unite.ensures.same in
          record {
            adds = adds;
            all = all;
            grown = subst (λ (b : Bool). OnTrue b (room_left next < room_left first)) (sym w.grown-is)
                (subst (λ (x : List Exit). OnTrue l.grown (room_left x < room_left first)) (sym kept) l.invariant.grown);
            same = subst (λ (b : Bool). OnFalse b (next ≡ first)) (sym w.grown-is)
                (subst (λ (x : List Exit). OnFalse l.grown (x ≡ first)) (sym kept) l.invariant.same);
          }
    ]

pub returns-clause-all : goal.returns-clause-all
returns-clause-all c =
    let whole = take_all c.loop-place.place c.args.others.now (omega (arith, c.len-place-end.ensures, c.loop-place-test.false)) in
    subst (λ (l : List Exit). GrowsBy (SomeHasLookahead l) c.args.self.now c.loop-place.self) whole c.loop-place.invariant.all
