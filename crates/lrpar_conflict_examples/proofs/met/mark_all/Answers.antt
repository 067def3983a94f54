use Rattle.std.proofs.Common.{◌∙◌, arith}
use Rattle.std.proofs.lemmas.Bool.{OnFalse_at, OnFalse_from}
use Rattle.lrpar_table_precedence.specs.Precedence.{PrecedenceLists}
use Rattle.lrpar_table_rows.specs.Table.{Table}
use Rattle.lrpar_table_sentences.specs.Reachable.{unmarked}
use Rattle.lrpar_table_sentences.proofs.GrowthLemmas.{pass_grows, pass_stays}
use Rattle.lrpar_conflict_examples.specs.Met.{AreMarks, AreSteps}
use Rattle.lrpar_conflict_examples.proofs.MetLemmas.{NextAt, all_next, edge_step, next_at}
use Rattle.lrpar_conflict_examples.proofs.met.mark_all.Goals as goal
use Rattle.lrpar_conflict_examples.proofs.met.mark_all.Goals.{then-mark_next, else-mark_next}

pub mark_next-requires : goal.mark_next-requires
mark_next-requires c =
    let both = c.requires.within c.loop-edge.edge-index (0, 0) c.loop-edge-test.true in
    let count = c.loop-edge.auto.marks in
    (omega (arith, both.0, count), omega (arith, both.1, count))

pub loop-edge-preserved : goal.loop-edge-preserved
loop-edge-preserved c =
    let edges = c.args.edges.now in
    let k = c.loop-edge.edge-index in
    let done = NextAt edges in
    let here = OnFalse_from c.mark_next.result _ (λ h. next_at edges c.mark_next.new.marks k (0, 0) c.loop-edge-test.true (OnFalse_at h c.mark_next.ensures.closed)) in
    let right : (p : PrecedenceLists) (table : Table) → AreSteps p table edges → AreMarks p table c.args.marks.now → AreMarks p table c.mark_next.new.marks =
    λ p table steps are. c.mark_next.ensures.marks p table (c.loop-edge.invariant.1 p table steps are) (edge_step p table edges k (0, 0) steps c.loop-edge-test.true) in
    let len = c.mark_next.ensures.len ∙ c.loop-edge.invariant.0 in
    elim c.if-mark_next.branch [
      | then-mark_next w ↦
          let both = pass_grows unmarked done c.args.marks.now c.loop-edge.marks c.mark_next.new.marks k c.loop-edge.grown c.mark_next.result c.if-mark_next.grown
          c.loop-edge.invariant.2 c.loop-edge.invariant.3 c.mark_next.ensures.grown c.mark_next.ensures.same here w.if-mark_next.true w.grown-is in
          (len, right, both.0, both.1)
      | else-mark_next w ↦
          let both = pass_stays unmarked done c.args.marks.now c.loop-edge.marks c.mark_next.new.marks k c.loop-edge.grown c.mark_next.result c.if-mark_next.grown
          c.loop-edge.invariant.2 c.loop-edge.invariant.3 c.mark_next.ensures.grown c.mark_next.ensures.same here w.if-mark_next.false w.grown-is in
          (len, right, both.0, both.1)
    ]

pub returns-clause-closed : goal.returns-clause-closed
returns-clause-closed c =
    OnFalse_from c.loop-edge.grown _ (λ h. all_next c.args.edges.now c.loop-edge.marks
    (λ k low. (OnFalse_at h c.loop-edge.invariant.3).1 k (omega (arith, low, c.loop-edge-test.false))))
