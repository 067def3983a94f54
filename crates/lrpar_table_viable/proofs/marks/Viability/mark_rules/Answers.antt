use Rattle.std.proofs.Common.{◌∙◌}
use Rattle.std.proofs.lemmas.Bool.{OnFalse_at}
use Rattle.lrpar_table_viable.proofs.MarkLemmas.{exact_marks, none_marked}
use Rattle.lrpar_table_viable.proofs.marks.Viability.mark_rules.Goals as goal

pub passes-init : goal.passes-init
passes-init g c =
    none_marked c.args.self.now.grm.now c.args.self.now.sgraph.now c.args.self.now.stable.now (g.StorageT.StorageIndex.index c.args.s.0) c.clear.new.marks
    (c.clear.ensures.room ∙ c.requires.rules) c.clear.ensures.none

pub returns-clause-exact : goal.returns-clause-exact
returns-clause-exact g c =
    exact_marks c.args.self.now.grm.now c.args.self.now.sgraph.now c.args.self.now.stable.now (g.StorageT.StorageIndex.index c.args.s.0) c.mark_all.new.marks
    c.requires.sound.shape c.mark_all.ensures.marks (OnFalse_at c.passes-test.false c.mark_all.ensures.closed)
