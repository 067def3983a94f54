use Rattle.std.proofs.Common.{◌≡◌, ◌∙◌, ℕ, IsTrue, arith, false, subst, sym}
use Rattle.lrpar_table_rows.specs.Graph.{HasCore}
use Rattle.lrpar_table_rows.proofs.GraphLemmas.{all_cores}
use Rattle.lrpar_table_rows.proofs.TestLemmas.{each_more}
use Rattle.lrpar_table_viable.specs.Marks.{is_by_marks}
use Rattle.lrpar_table_viable.proofs.CoreLemmas.{core_known, holds_of_lower}
use Rattle.lrpar_table_viable.proofs.MarkLemmas.{dot_of_refused}
use Rattle.lrpar_table_viable.proofs.marks.Viability.unjustified.Goals as goal

pub is_by_marks-requires-clause-prod : goal.is_by_marks-requires-clause-prod
is_by_marks-requires-clause-prod g c =
    (core_known g.StorageT.StorageIndex.index c.args.self.now.grm.now c.args.self.now.sgraph.now c.args.self.now.stable.now _ c.cores-pidx-items.result.now
    c.loop-pidx.pidx-index c.loop-pidx-item.result c.requires.sound.shape c.cores-pidx-items.ensures.all c.loop-pidx-test.true c.loop-pidx-item.is).0

pub loop-pidx-preserved : goal.loop-pidx-preserved
loop-pidx-preserved g c =
    let index = g.StorageT.StorageIndex.index in
    each_more
    (λ x. IsTrue (is_by_marks c.args.self.now.grm.now c.args.self.now.stable.now (index c.args.s.0) c.args.marks.now (index x.0.0) x.1))
    c.cores-pidx-items.result.now c.loop-pidx.pidx-index c.loop-pidx-item.result c.loop-pidx-test.true c.loop-pidx-item.is
    (sym c.is_by_marks.ensures ∙ c.if-not-is_by_marks.false) c.loop-pidx.invariant

pub returns-then-not-is_by_marks : goal.returns-then-not-is_by_marks
returns-then-not-is_by_marks g c =
    let index = g.StorageT.StorageIndex.index in
    let grm = c.args.self.now.grm.now in
    let graph = c.args.self.now.sgraph.now in
    let table = c.args.self.now.stable.now in
    let s = index c.args.s.0 in
    let marks = c.args.marks.now in
    let items = c.cores-pidx-items.result.now in
    let core = c.loop-pidx-item.result in
    let p = index core.0.0 in
    let refused : is_by_marks grm table s marks p core.1 ≡ false = sym c.is_by_marks.ensures ∙ c.if-not-is_by_marks.true in
    let zero = dot_of_refused grm table s marks p core.1 refused in
    let known = core_known index grm graph table s items c.loop-pidx.pidx-index core c.requires.sound.shape c.cores-pidx-items.ensures.all c.loop-pidx-test.true c.loop-pidx-item.is in
    record {
      has = subst (HasCore graph s p) zero known.2;
      unmarked = subst (λ (k : ℕ). is_by_marks grm table s marks p k ≡ false) zero refused;
      lower = λ q less has.
          holds_of_lower index items c.cores-pidx-items.ensures.ascending c.loop-pidx.pidx-index core c.loop-pidx-test.true c.loop-pidx-item.is
          (λ n k. IsTrue (is_by_marks grm table s marks n k)) c.loop-pidx.invariant q 0 less ((c.cores-pidx-items.ensures.all q 0).0 has);
    }

pub returns : goal.returns
returns g c =
    let index = g.StorageT.StorageIndex.index in
    let grm = c.args.self.now.grm.now in
    let table = c.args.self.now.stable.now in
    (all_cores index (λ p k. IsTrue (is_by_marks grm table (index c.args.s.0) c.args.marks.now p k)) c.args.self.now.sgraph.now (index c.args.s.0)
    c.cores-pidx-items.result.now c.cores-pidx-items.ensures.all).0
    (λ j d low. c.loop-pidx.invariant j d (omega (arith, low, c.loop-pidx-test.false)))
