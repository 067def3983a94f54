use Rattle.std.proofs.Common.{◌≡◌, ◌∙◌, arith, inl, inr, refl, slice_get, Some, subst}
use Rattle.lrpar_table_pops.specs.AllGood.{IsGoodExit}
use Rattle.lrpar_table_pops.specs.Growth.{GrowsBy, ways_of}
use Rattle.lrpar_table_pops.proofs.FoundAllLemmas.{places_kept}
use Rattle.lrpar_table_pops.proofs.GoodAllLemmas.{ways_good_all, ways_good_more, ways_len}
use Rattle.lrpar_grammar.specs.Grammar.{Grammar}
use Rattle.lrpar_table_pops.specs.Good.{GoesOn}
use Rattle.lrpar_table_pops.proofs.GoodLemmas.{both_lead}
use Rattle.lrpar_table_pops.proofs.good.good_above.Goals as goal

pub new-requires : goal.new-requires
new-requires g c = let is = c.stable-lemma.ensures.sound.safe.shape.states in let low = c.requires in omega (arith, is, low)

pub loop-place-init : goal.loop-place-init
loop-place-init g c = record {
  good = λ r h. absurd (c.in_ok-above.ensures.none r h);
  places = c.in_ok-above.ensures.places;
  len = refl;
  all = λ way low t within taken. absurd (let under = low.1 in omega (arith, under));
}

pub loop-place-preserved : goal.loop-place-preserved
loop-place-preserved g c =
    let d = c.args.checked.now in
    let l = c.loop-place in
    let good = c.args.good.now in
    let reduced = c.args.reduced.now in
    let new = c.add_good.new.above in
    let grows = subst (λ (x : Grammar). GrowsBy (λ w t. (slice_get (ways_of l.above) l.place ≡ Some w) × IsGoodExit x good reduced w t) l.above new) c.grm-grm.ensures
    c.add_good.ensures.all in
    record {
      good = λ r h.
          elim (c.add_good.ensures.good r h) as (λ _. GoesOn d.grammar good reduced r) [
            | inl was ↦ l.invariant.good r was
            | inr more ↦ subst (λ (x : Grammar). GoesOn x good reduced r) c.grm-grm.ensures more
          ];
      places = places_kept d.grammar d.graph (g.StorageT.StorageIndex.index c.args.next.0) _ l.above new grows l.invariant.places;
      len = ways_len l.above new c.add_good.ensures.ways ∙ l.invariant.len;
      all = ways_good_more d.grammar d.graph (g.StorageT.StorageIndex.index c.args.next.0) good reduced l.above new l.place l.invariant.places c.add_good.ensures.ways grows
          l.invariant.all;
    }

pub returns : goal.returns
returns g c =
    let d = c.args.checked.now in
    let l = c.loop-place in
    let end = c.loop-place-test.false in
    let len = c.len-place-end.ensures in
    record {
      good = both_lead d.grammar d.table c.args.good.now c.args.reduced.now l.above l.invariant.good;
      all = ways_good_all d.grammar d.graph d.table c.stable-lemma.ensures.sound.safe (g.StorageT.StorageIndex.index c.args.next.0) c.args.good.now c.args.reduced.now l.above
          l.place (let same = l.invariant.len in omega (arith, end, len, same)) l.invariant.places l.invariant.all;
    }
