use Rattle.std.proofs.Common.{◌≡◌, ◌∙◌, length, subst, sym}
use Rattle.std.proofs.lemmas.Bool.{OnFalse_at}
use Rattle.lrpar_table_first.proofs.GrowthLemmas.{lent_back}
use Rattle.lrpar_table_sentences.specs.Reachable.{AreAllMarked}
use Rattle.lrpar_table_sentences.proofs.ReachableLemmas.{all_marked}
use Rattle.lrpar_table_sentences.proofs.reachable.reachable_rules.Goals as goal

pub returns : goal.returns
returns g c =
    let grm = c.args.grm.now in
    let old = c.passes.marks.items in
    let new = c.mark_all.new.marks in
    let full : c.passes.marks.len ≡ length old = c.passes.marks.ok.0 in
    let same : length new ≡ c.passes.marks.len = c.mark_all.ensures.marks.rules ∙ sym c.passes.invariant.rules ∙ sym full in
    let back = lent_back old new c.passes.marks.len (sym full) same in
    subst (AreAllMarked grm) (sym back) (all_marked grm new c.mark_all.ensures.marks (OnFalse_at c.passes-test.false c.mark_all.ensures.closed))
