use Rattle.std.proofs.Common.{◌≡◌, map, take}
use Rattle.lrpar_grammar_words.specs.Outline.{alternative_of}
use Rattle.lrpar_grammar_reader.specs.Parts.{prod_of}
use Rattle.lrpar_grammar_reader.specs.Spells.{prod_of_alternative}
use Rattle.lrpar_grammar_reader.specs.TextNames.{numbering_by}
use Rattle.lrpar_grammar_reader.proofs.spelled.prod_parts.Given as goal

-- the productions so far
abbrev pub invariant-loop-alternative : goal.invariant-loop-alternative
invariant-loop-alternative g l =
    map (prod_of g.StorageT.StorageIndex.index) l.parts.items ≡ map (prod_of_alternative (numbering_by l.tables)) (take l.alternative-index (map alternative_of l.alternatives))
