use Rattle.std.proofs.Common.{◌∙◌, sym, ap, subst, arith, map}
use Rattle.std.proofs.lemmas.Bool.{OnFalse_at, OnFalse_from, OnTrue_at}
use Rattle.lrpar_table_first.specs.FirstRows.{total_missing}
use Rattle.lrpar_table_items.specs.CoreOrder.{IsKernel}
use Rattle.lrpar_table_items.specs.Cores.{core_set}
use Rattle.lrpar_table_merge.specs.Compatible.{lookahead_rows}
use Rattle.lrpar_table_merge.specs.United.{AreUnited}
use Rattle.lrpar_table_merge.proofs.MergingLemmas.{written_back}
use Rattle.lrpar_table_merge.proofs.merge.grow.Goals as goal

pub returns-then-unite : goal.returns-then-unite
returns-then-unite g c =
    let index = g.StorageT.StorageIndex.index in
    let kernel = c.args.state.now.kernel in
    let value = c.deref_mut.ensures.value in
    let back = written_back kernel.items c.deref_mut.result.now c.unite.new.kernel kernel.len (sym kernel.ok.0) value c.unite.auto.kernel in
    let next = map (core_set index) c.args.kernel.now in
    record {
      kernel = λ grm is.
          subst (λ cores. IsKernel grm (map (core_set index) cores)) (sym back)
          (c.unite.ensures.kernel grm (subst (λ cores. IsKernel grm (map (core_set index) cores)) (sym value) is));
      united =
          subst (λ cores. AreUnited (map (core_set index) kernel.items) next (map (core_set index) cores)) (sym back)
          (subst (λ cores. AreUnited (map (core_set index) cores) next (map (core_set index) c.unite.new.kernel)) value c.unite.ensures.united);
      work =
          (let less = OnTrue_at c.if-unite.true c.unite.ensures.grown in
          let old = ap (λ cores. total_missing (lookahead_rows (map (core_set index) cores))) value in
          let new = ap (λ cores. total_missing (lookahead_rows (map (core_set index) cores))) back in omega (arith, less, old, new));
      waits = tt;
    }

pub returns-else-unite : goal.returns-else-unite
returns-else-unite g c =
    let index = g.StorageT.StorageIndex.index in
    let kernel = c.args.state.now.kernel in
    let value = c.deref_mut.ensures.value in
    let back = written_back kernel.items c.deref_mut.result.now c.unite.new.kernel kernel.len (sym kernel.ok.0) value c.unite.auto.kernel in
    let next = map (core_set index) c.args.kernel.now in
    let stays = OnFalse_at c.if-unite.false c.unite.ensures.same in
    let same = ap (map (core_set index)) back ∙ stays ∙ ap (map (core_set index)) value in
    record {
      kernel = λ grm is.
          subst (λ cores. IsKernel grm (map (core_set index) cores)) (sym back)
          (c.unite.ensures.kernel grm (subst (λ cores. IsKernel grm (map (core_set index) cores)) (sym value) is));
      united =
          subst (λ cores. AreUnited (map (core_set index) kernel.items) next (map (core_set index) cores)) (sym back)
          (subst (λ cores. AreUnited (map (core_set index) cores) next (map (core_set index) c.unite.new.kernel)) value c.unite.ensures.united);
      work = (let missing = ap (λ cores. total_missing (lookahead_rows cores)) same in omega (arith, missing));
      waits = OnFalse_from c.args.state.now.waits _ (λ fell. same);
    }
