use Rattle.lrpar_table_sentences.specs.Reachable.{AreMarked, unmarked}
use Rattle.lrpar_table_sentences.proofs.reachable.reachable_rules.Given as goal

abbrev pub invariant-passes : goal.invariant-passes
invariant-passes g l = AreMarked l.grm l.marks.items

-- how many rules aren't marked
abbrev pub decreases-passes : goal.decreases-passes
decreases-passes g l = unmarked l.marks.items
