use Rattle.std.proofs.Common.{◌≡◌, map, take}
use Rattle.lrpar_grammar_bison.specs.Words.{placed}
use Rattle.lrpar_grammar_words.specs.Words.{placed as text_placed}
use Rattle.lrpar_grammar_bison_parts.specs.Midrules.{midrules_from}
use Rattle.lrpar_grammar_bison_parts.proofs.midrules.midrule_words.Given as goal

-- the rules of the actions so far
abbrev pub invariant-loop-i : goal.invariant-loop-i
invariant-loop-i l = map text_placed l.words.items ≡ midrules_from 1 (map placed (take l.i l.actions))
