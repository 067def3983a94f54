use Rattle.std.proofs.Common.{◌<◌, ◌∙◌, arith, length, refl}
use Rattle.std.proofs.lemmas.List.{length-set}
use Rattle.lrpar_table_pops.proofs.ExitLemmas.{all_clear, clear_more}
use Rattle.lrpar_table_pops.proofs.GrowthLemmas.{places_same, places_set, places_then}
use Rattle.lrpar_table_pops.proofs.exits.clear_all.Goals as goal

pub loop-place-init : goal.loop-place-init
loop-place-init c = record { long = refl; clear = λ i exit below within is. absurd (omega (arith, below)); places = places_same c.args.exits.now.items }

pub loop-place-preserved : goal.loop-place-preserved
loop-place-preserved c =
    let l = c.loop-place in
    let low : l.place < length l.exits.items = let end = c.len-place-end.ensures in let long = c.args.exits.now.ok.0 in omega (arith, end, l.invariant.long, c.loop-place-test.true, long) in
    record {
      long = length-set l.exits.items l.place _ ∙ l.invariant.long;
      clear = clear_more l.exits.items l.place _ low l.invariant.clear c.clear.ensures.none;
      places = places_then c.args.exits.now.items l.exits.items _ l.invariant.places
          (places_set l.exits.items l.place c.index_mut.result.now c.clear.new.self low c.index_mut.ensures.value c.clear.ensures.room);
    }

pub returns-clause-none : goal.returns-clause-none
returns-clause-none c =
    let l = c.loop-place in
    let end = c.len-place-end.ensures in
    let long = c.args.exits.now.ok.0 in
    all_clear l.exits.items l.place (omega (arith, end, long, l.invariant.long, c.loop-place-test.false)) l.invariant.clear
