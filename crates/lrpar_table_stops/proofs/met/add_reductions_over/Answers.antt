use Rattle.std.proofs.Common.{◌≡◌, ◌∙◌, ap, arith, subst, sym, Some, ℕ, Bool, IsTrue, List}
use Rattle.std.specs.Bool.{OnFalse}
use Rattle.std.proofs.lemmas.Bool.{OnFalse_at, OnFalse_from}
use Rattle.lrpar_table_first.specs.FirstRows.{total_missing}
use Rattle.lrpar_table_sentences.proofs.GrowthLemmas.{pass_grows, pass_stays}
use Rattle.lrpar_table_sentences.proofs.FixLemmas.{index_back}
use Rattle.lrpar_table_rows.specs.Table.{goto_of}
use Rattle.lrpar_table_stops.specs.ErrorStates.{end_of_path}
use Rattle.lrpar_table_stops.specs.Met.{ReducesAt, is_met}
use Rattle.lrpar_table_stops.proofs.met.add_reductions_over.Goals as goal
use Rattle.lrpar_table_stops.proofs.met.add_reductions_over.Goals.{then-add_reduction, else-add_reduction}

pub loop-number-preserved : goal.loop-number-preserved
loop-number-preserved g c =
    let index = g.StorageT.StorageIndex.index in
    let done = λ (xs : List (List Bool)) (n : ℕ). ReducesAt c.args.stable.now xs (index c.args.prod.0) (index c.in-Some-end_of_path.from.0) n → IsTrue (is_met xs (index c.in-Some.next.0) n) in
    let n = c.loop-number.number in
    let at = index_back index c.from_index.result c.unwrap.result n c.from_index.ensures.back c.unwrap.ensures in
    let here = subst (λ m. OnFalse c.add_reduction.result (done c.add_reduction.new.sets m)) at c.add_reduction.ensures.closed in
    let right = c.add_reduction.ensures.right in
    elim c.if-add_reduction.branch [
      | then-add_reduction w ↦
          let both = pass_grows total_missing done c.args.sets.now c.loop-number.sets c.add_reduction.new.sets n c.loop-number.grown c.add_reduction.result c.if-add_reduction.grown
          c.loop-number.invariant.1 c.loop-number.invariant.2 c.add_reduction.ensures.grown c.add_reduction.ensures.same here w.if-add_reduction.true w.grown-is in
          (right, both.0, both.1)
      | else-add_reduction w ↦
          let both = pass_stays total_missing done c.args.sets.now c.loop-number.sets c.add_reduction.new.sets n c.loop-number.grown c.add_reduction.result c.if-add_reduction.grown
          c.loop-number.invariant.1 c.loop-number.invariant.2 c.add_reduction.ensures.grown c.add_reduction.ensures.same here w.if-add_reduction.false w.grown-is in
          (right, both.0, both.1)
    ]

some_same : (x y : ℕ) → Some x ≡ Some y → x ≡ y
some_same x y both = cc

pub returns-clause-closed : goal.returns-clause-closed
returns-clause-closed g c =
    let index = g.StorageT.StorageIndex.index in
    let table = c.args.stable.now in
    let sets = c.loop-number.sets in
    let p = index c.args.prod.0 in
    let below = index c.args.below.0 in
    let from = index c.in-Some-end_of_path.from.0 in
    let next = index c.in-Some.next.0 in
    OnFalse_from c.loop-number.grown _ (λ h t low s n leads reduces.
    let from_is : from ≡ s = some_same from s (c.in-Some-end_of_path.ensures ∙ ap (end_of_path table below) c.prod.ensures ∙ leads.0) in
    let next_is : next ≡ n = some_same next n (c.in-Some.ensures.goto ∙ ap (goto_of table below) c.prod_to_rule.ensures.rule ∙ leads.1) in
    let known = (OnFalse_at h c.loop-number.invariant.2).1 t (let count = c.tokens_len-number-end.ensures.tokens in omega (arith, low, count, c.loop-number-test.false)) in
    subst (λ m. IsTrue (is_met sets m t)) next_is (known (subst (λ m. ReducesAt table sets p m t) (sym from_is) reduces)))
