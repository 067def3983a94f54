use Rattle.std.proofs.Common.{◌≡◌, true, map, take}
use Rattle.std.specs.List.{All}
use Rattle.lrpar_grammar_words.specs.Words.{PlacedWord}
use Rattle.lrpar_grammar_words.specs.Outline.{TextAlternative, alternative_of}
use Rattle.lrpar_grammar_reader.specs.Spells.{is_known}
use Rattle.lrpar_grammar_reader.specs.TextNames.{numbering_by}
use Rattle.lrpar_grammar_reader.proofs.wrong_names.unknown_symbol.Given as goal

-- the symbols of the alternatives so far are known
abbrev pub invariant-loop-alternative : goal.invariant-loop-alternative
invariant-loop-alternative l =
    All (λ (x : TextAlternative). All (λ (w : PlacedWord). is_known (numbering_by l.tables) w ≡ true) x.symbols) (take l.alternative-index (map alternative_of l.alternatives))
