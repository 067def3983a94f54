use Rattle.std.proofs.Common.{◌<◌, ◌∙◌, arith, length, refl}
use Rattle.std.proofs.lemmas.List.{length-set}
use Rattle.lrpar_table_pops.proofs.SetLemmas.{all_empty, empty_more, room_kept}
use Rattle.lrpar_table_pops.proofs.sets.clear_sets.Goals as goal

pub loop-place-init : goal.loop-place-init
loop-place-init c = record { long = refl; empty = λ r below. absurd (omega (arith, below)); room = λ r. refl }

pub loop-place-preserved : goal.loop-place-preserved
loop-place-preserved c =
    let l = c.loop-place in
    let low : l.place < length l.sets.items = let end = c.len-place-end.ensures in let long = c.args.sets.now.ok.0 in omega (arith, end, l.invariant.long, c.loop-place-test.true, long) in
    record {
      long = length-set l.sets.items l.place c.clear.new.self ∙ l.invariant.long;
      empty = empty_more l.sets.items l.place c.clear.new.self low l.invariant.empty c.clear.ensures.none;
      room = λ r. room_kept l.sets.items l.place c.index_mut.result.now c.clear.new.self low c.index_mut.ensures.value c.clear.ensures.room r ∙ l.invariant.room r;
    }

pub returns-clause-none : goal.returns-clause-none
returns-clause-none c =
    let l = c.loop-place in
    let end = c.len-place-end.ensures in
    let long = c.args.sets.now.ok.0 in
    all_empty l.sets.items l.place (omega (arith, end, long, l.invariant.long, c.loop-place-test.false)) l.invariant.empty
