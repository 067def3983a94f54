use Rattle.std.proofs.Common.{◌^◌, ◌-◌, arith, subst, ℕ, List, Option}
use Rattle.lrpar_table_sentences.specs.declared.begins.Start.{Start}
use Rattle.std.specs.Bool.{OnFalse}
use Rattle.std.proofs.lemmas.Bool.{OnFalse_at, OnFalse_from}
use Rattle.lrpar_table_sentences.specs.Choices.{choices_of}
use Rattle.lrpar_table_sentences.specs.Starts.{CanStart, starts_of, starts_open}
use Rattle.lrpar_table_sentences.proofs.GrowthLemmas.{pass_grows, pass_stays}
use Rattle.lrpar_table_sentences.proofs.FixLemmas.{index_back}
use Rattle.lrpar_table_sentences.proofs.begins.grow_all.Goals as goal
use Rattle.lrpar_table_sentences.proofs.begins.grow_all.Goals.{then-grow, else-grow}

pub loop-prod-preserved : goal.loop-prod-preserved
loop-prod-preserved g c =
    let index = g.StorageT.StorageIndex.index in
    let choices = choices_of index c.args.choices.now in
    let first = index c.args.first.0 in
    let size = λ (xs : List (Option (Start g.row.StorageT.Denot))). starts_open (starts_of index xs) in
    let done = λ (xs : List (Option (Start g.row.StorageT.Denot))) (p : ℕ). CanStart c.args.grm.now (2 ^ 64 - 1) choices first (starts_of index xs) p in
    let n = c.loop-prod.prod in
    let at = index_back index c.from_index.result c.unwrap.result n c.from_index.ensures.back c.unwrap.ensures in
    let here = subst (λ p. OnFalse c.grow.result (CanStart c.args.grm.now (2 ^ 64 - 1) choices first (starts_of index c.grow.new.starts) p)) at c.grow.ensures.closed in
    elim c.if-grow.branch [
      | then-grow w ↦
          let both = pass_grows size done c.args.starts.now c.loop-prod.starts c.grow.new.starts n c.loop-prod.grown c.grow.result c.if-grow.grown c.loop-prod.invariant.1 c.loop-prod.invariant.2
          c.grow.ensures.grown c.grow.ensures.same here w.if-grow.true w.grown-is in
          (c.grow.ensures.kept.starts, both.0, both.1)
      | else-grow w ↦
          let both = pass_stays size done c.args.starts.now c.loop-prod.starts c.grow.new.starts n c.loop-prod.grown c.grow.result c.if-grow.grown c.loop-prod.invariant.1 c.loop-prod.invariant.2
          c.grow.ensures.grown c.grow.ensures.same here w.if-grow.false w.grown-is in
          (c.grow.ensures.kept.starts, both.0, both.1)
    ]

pub returns-clause-closed : goal.returns-clause-closed
returns-clause-closed g c =
    OnFalse_from c.loop-prod.grown _ (λ h p known.
    (OnFalse_at h c.loop-prod.invariant.2).1 p (let count = c.prods_len-prod-end.ensures.len in omega (arith, known, count, c.loop-prod-test.false)))
