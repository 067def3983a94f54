use Rattle.std.proofs.Common.{◌≡◌, ◌<◌, ◌∙◌, All, length, subst, sym, ap}
use Rattle.std.proofs.lemmas.Bool.{OnFalse_at}
use Rattle.lrpar_table_first.proofs.GrowthLemmas.{lent_back}
use Rattle.lrpar_table_rows.specs.Table.{states_len}
use Rattle.lrpar_conflict_examples.specs.Met.{AreMarks, AreMet, AreSteps}
use Rattle.lrpar_conflict_examples.proofs.MetLemmas.{all_met, edges_within}
use Rattle.lrpar_conflict_examples.proofs.met.met_states.Goals as goal

pub mark_all-requires : goal.mark_all-requires
mark_all-requires g c =
    let lent = c.deref_mut.result.now in
    let count : length lent ≡ states_len c.args.stable.now = ap length c.deref_mut.ensures.value ∙ c.passes.invariant.states in
    record {
      within =
          subst (All (λ edge. (edge.0 < length lent) × (edge.1 < length lent))) (sym c.deref.ensures.value)
          (edges_within c.args.precedences.now c.args.stable.now c.in_ok-edges.edges.items lent c.in_ok-edges.ensures count);
    }

pub passes-preserved : goal.passes-preserved
passes-preserved g c =
    let p = c.args.precedences.now in
    let table = c.args.stable.now in
    let old = c.passes.marks.items in
    let new = c.mark_all.new.marks in
    let full : c.passes.marks.len ≡ length old = c.passes.marks.ok.0 in
    let same : length new ≡ c.passes.marks.len = c.mark_all.ensures.len ∙ ap length c.deref_mut.ensures.value ∙ sym full in
    subst (AreMarks p table) (sym (lent_back old new c.passes.marks.len (sym full) same))
    (c.mark_all.ensures.marks p table (subst (AreSteps p table) (sym c.deref.ensures.value) c.in_ok-edges.ensures)
    (subst (AreMarks p table) (sym c.deref_mut.ensures.value) c.passes.invariant))

pub returns : goal.returns
returns g c =
    let p = c.args.precedences.now in
    let table = c.args.stable.now in
    let old = c.passes.marks.items in
    let new = c.mark_all.new.marks in
    let full : c.passes.marks.len ≡ length old = c.passes.marks.ok.0 in
    let same : length new ≡ c.passes.marks.len = c.mark_all.ensures.len ∙ ap length c.deref_mut.ensures.value ∙ sym full in
    let steps = subst (AreSteps p table) (sym c.deref.ensures.value) c.in_ok-edges.ensures in
    subst (AreMet p table) (sym (lent_back old new c.passes.marks.len (sym full) same))
    (all_met p table c.deref.result.now new steps
    (c.mark_all.ensures.marks p table steps (subst (AreMarks p table) (sym c.deref_mut.ensures.value) c.passes.invariant))
    (OnFalse_at c.passes-test.false c.mark_all.ensures.closed))
