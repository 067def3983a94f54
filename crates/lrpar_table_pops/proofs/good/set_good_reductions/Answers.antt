use Rattle.std.proofs.Common.{◌∙◌, subst, sym}
use Rattle.std.proofs.lemmas.Bool.{OnFalse_at}
use Rattle.lrpar_table_pops.specs.AllGood.{AreReductionsClosed}
use Rattle.lrpar_table_pops.proofs.good.set_good_reductions.Goals as goal

pub passes-init : goal.passes-init
passes-init g c = record {
  good = λ below over r t is. absurd (c.clear_sets.ensures.none r t is);
  room = λ r low. c.clear_sets.ensures.room r ∙ c.requires.room r low;
}

pub passes-preserved : goal.passes-preserved
passes-preserved g c = record {
  good = c.add_all.ensures.keeps c.passes.invariant.good;
  room = λ r low. c.add_all.ensures.sets.keeps_room r ∙ c.passes.invariant.room r low;
}

pub returns : goal.returns
returns g c =
    let d = c.args.checked.now in
    let same = OnFalse_at c.passes-test.false c.add_all.ensures.sets.same in
    record {
      good = c.add_all.ensures.keeps c.passes.invariant.good;
      room = λ r low. c.add_all.ensures.sets.keeps_room r ∙ c.passes.invariant.room r low;
      all = subst (AreReductionsClosed d.grammar c.args.part.now c.args.pops.now (g.StorageT.StorageIndex.index c.args.state.0) c.args.good.now) (sym same)
          (OnFalse_at c.passes-test.false c.add_all.ensures.all);
    }
