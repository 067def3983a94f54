use Rattle.std.proofs.Common.{◌^◌, ◌-◌}
use Rattle.lrpar_table_sentences.specs.Choices.{AreRight, choices_of}
use Rattle.lrpar_table_sentences.specs.Lens.{open_in}
use Rattle.lrpar_table_sentences.proofs.minimal_sentences.find_minimal_sentences.Given as goal

abbrev pub invariant-levels : goal.invariant-levels
invariant-levels g l = AreRight l.grm (2 ^ 64 - 1) (choices_of g.StorageT.StorageIndex.index l.choices.items)

-- how many rules have nothing kept
abbrev pub decreases-levels : goal.decreases-levels
decreases-levels g l = open_in (choices_of g.StorageT.StorageIndex.index l.choices.items)
