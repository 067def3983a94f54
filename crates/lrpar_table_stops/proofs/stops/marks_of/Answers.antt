use Rattle.std.proofs.Common.{◌≡◌, ◌<◌, ◌∙◌, ◌↔◌, ◌∷◌, ◌++◌, ◌+◌, [], ap, arith, false, inl, inr, subst, sym, length, Bool, IsTrue, List}
use Rattle.std.proofs.lemmas.Bool.{cases_eq}
use Rattle.std.proofs.lemmas.List.{get_or_append_left, get_or_push, length_push}
use Rattle.lrpar_table_sentences.specs.Reachable.{is_marked}
use Rattle.lrpar_table_sentences.proofs.FixLemmas.{index_back}
use Rattle.lrpar_table_stops.specs.Met.{StopsIn}
use Rattle.lrpar_table_stops.proofs.stops.marks_of.Goals as goal

pub loop-number-preserved : goal.loop-number-preserved
loop-number-preserved g c =
    let index = g.StorageT.StorageIndex.index in
    let table = c.args.stable.now in
    let sets = c.args.sets.now in
    let n = c.loop-number.number in
    let old = c.loop-number.marks.items in
    let mark = c.stops_in.result in
    let at = index_back index c.from_index.result c.unwrap.result n c.from_index.ensures.back c.unwrap.ensures in
    let here = subst (λ s. IsTrue mark ↔ StopsIn table sets s) at c.stops_in.ensures in
    let pushed : c.push.new.self.items ≡ old ++ mark ∷ [] = c.in_ok-push.ensures.items in (
      ap (λ (xs : List Bool). length xs) pushed ∙ length_push old mark ∙ ap (λ k. k + 1) c.loop-number.invariant.0,
      λ s low.
          elim (cases_eq s n) as (λ _. IsTrue (is_marked c.push.new.self.items s) ↔ StopsIn table sets s) [
            | inl same ↦
                let read : is_marked c.push.new.self.items s ≡ mark =
                ap (λ xs. is_marked xs s) pushed ∙ get_or_push old mark false s (c.loop-number.invariant.0 ∙ sym same) in
                subst (λ b. IsTrue b ↔ StopsIn table sets s) (sym read) (subst (λ k. IsTrue mark ↔ StopsIn table sets k) (sym same) here)
            | inr other ↦
                let early : s < length old = let count = c.loop-number.invariant.0 in omega (arith, low, other, count) in
                let read : is_marked c.push.new.self.items s ≡ is_marked old s =
                ap (λ xs. is_marked xs s) pushed ∙ get_or_append_left old (mark ∷ []) false s early in
                subst (λ b. IsTrue b ↔ StopsIn table sets s) (sym read) (c.loop-number.invariant.1 s (omega (arith, low, other)))
          ],
    )

pub returns : goal.returns
returns g c =
    let count = c.states_len-number-end.ensures.states in
    let most = c.loop-number.auto.number-end in
    let done = c.loop-number.invariant.0 in
    record {
      states = omega (arith, count, most, done, c.loop-number-test.false);
      exact = λ s low. c.loop-number.invariant.1 s (omega (arith, low, count, c.loop-number-test.false));
    }
