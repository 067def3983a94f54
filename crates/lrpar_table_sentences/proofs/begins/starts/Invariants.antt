use Rattle.lrpar_table_sentences.specs.Choices.{choices_of}
use Rattle.lrpar_table_sentences.specs.Starts.{AreStarts, starts_of, starts_open}
use Rattle.lrpar_table_sentences.proofs.begins.starts.Given as goal

abbrev pub invariant-passes : goal.invariant-passes
invariant-passes g l =
    let index = g.StorageT.StorageIndex.index in
    AreStarts l.grm (choices_of index l.choices) (index l.first.0) (starts_of index l.starts.items)

-- how many rules can't begin yet
abbrev pub decreases-passes : goal.decreases-passes
decreases-passes g l = starts_open (starts_of g.StorageT.StorageIndex.index l.starts.items)
