use Rattle.std.proofs.Common.{◌<◌, ◌∙◌, arith, length, refl, subst, ℕ}
use Rattle.lrpar_table_pops.specs.StoredAll.{IsMarked}
use Rattle.lrpar_table_pops.proofs.GrowthLemmas.{read_at}
use Rattle.lrpar_table_pops.proofs.MarkLemmas.{marked_more}
use Rattle.lrpar_table_pops.proofs.saturate.mark_all.Goals as goal

pub loop-state-init : goal.loop-state-init
loop-state-init g c = record { len = refl; keeps = λ place h. h; all = λ i state low at within. absurd (omega (arith, low)) }

pub loop-state-preserved : goal.loop-state-preserved
loop-state-preserved g c =
    let index = g.StorageT.StorageIndex.index in
    let l = c.loop-state in
    let states = c.args.states.now in
    let state = c.state-item.result in
    let old = l.marks.items in
    let new = c.set_mark.new.marks.items in
    let there = read_at states states l.state-index state refl c.loop-state-test.true c.state-item.is in
    record {
      len = c.set_mark.ensures.len ∙ l.invariant.len;
      keeps = λ place h. c.set_mark.ensures.keeps place (l.invariant.keeps place h);
      all = marked_more index states l.state-index state old new there c.set_mark.ensures.len c.set_mark.ensures.keeps
          (subst (λ (n : ℕ). n < length old → IsMarked new n) c.from.ensures c.set_mark.ensures.marks) l.invariant.all;
    }

pub returns-clause-all : goal.returns-clause-all
returns-clause-all g c = λ i state low at within. c.loop-state.invariant.all i state (let end = c.loop-state-test.false in omega (arith, low, end)) at within
