use Rattle.std.proofs.Common.{◌≡◌, ◌++◌, map, take}
use Rattle.lrpar_grammar_words.specs.Words.{placed as text_placed}
use Rattle.lrpar_grammar_words.specs.Outline.{alternative_of as text_alternative_of}
use Rattle.lrpar_grammar_bison_parts.specs.Outline.{midrule_alternative}
use Rattle.lrpar_grammar_bison_parts.proofs.outline.push_midrules.Given as goal

-- the alternatives so far are appended
abbrev pub invariant-loop-midrule : goal.invariant-loop-midrule
invariant-loop-midrule l =
    map text_alternative_of l.texts.items ≡ map text_alternative_of l.initial.texts.items ++ map midrule_alternative (map text_placed (take l.midrule-index l.midrules))
