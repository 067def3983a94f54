use Rattle.lrpar_table_sentences.specs.Reachable.{unmarked}
use Rattle.lrpar_conflict_examples.specs.Met.{AreMarks}
use Rattle.lrpar_conflict_examples.proofs.met.met_states.Given as goal

abbrev pub invariant-passes : goal.invariant-passes
invariant-passes g l = AreMarks l.precedences l.stable l.marks.items

-- how many states aren't marked
abbrev pub decreases-passes : goal.decreases-passes
decreases-passes g l = unmarked l.marks.items
