use Rattle.lrpar_table_viable.specs.Marks.{AreMarked, unmarked}
use Rattle.lrpar_table_viable.proofs.marks.Viability.mark_rules.Given as goal

abbrev pub invariant-passes : goal.invariant-passes
invariant-passes g l = AreMarked l.self.grm.now l.self.sgraph.now l.self.stable.now (g.StorageT.StorageIndex.index l.s.0) l.marks

-- how many rules aren't marked
abbrev pub decreases-passes : goal.decreases-passes
decreases-passes g l = unmarked l.marks
