use Rattle.std.proofs.Common.{◌≡◌, ◌++◌, map, take}
use Rattle.lrpar_grammar_words.specs.Words.{placed as text_placed}
use Rattle.lrpar_grammar_bison_parts.proofs.outline.defined.Given as goal

-- the rules so far
abbrev pub invariant-loop-midrule : goal.invariant-loop-midrule
invariant-loop-midrule l = map text_placed l.rules.items ≡ map text_placed l.initial.rules.items ++ map text_placed (take l.midrule-index l.midrules)
