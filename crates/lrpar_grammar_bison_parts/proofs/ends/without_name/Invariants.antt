use Rattle.std.proofs.Common.{◌≡◌, map, take}
use Rattle.lrpar_grammar_words.specs.Words.{placed as text_placed}
use Rattle.lrpar_grammar_bison_parts.specs.Ends.{without_name}
use Rattle.lrpar_grammar_bison_parts.proofs.ends.without_name.Given as goal

-- the others so far
abbrev pub invariant-loop-word : goal.invariant-loop-word
invariant-loop-word l = map text_placed l.others.items ≡ without_name l.name (map text_placed (take l.word-index l.words))
