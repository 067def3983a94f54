use Rattle.std.proofs.Common.{◌≡◌, map, take}
use Rattle.lrpar_grammar_bison.specs.Words.{placed}
use Rattle.lrpar_grammar_bison.specs.Spellings.{respelled, spellings_of}
use Rattle.lrpar_grammar_bison.proofs.spellings.with_one_spelling.Given as goal

-- the words so far
abbrev pub invariant-loop-word : goal.invariant-loop-word
invariant-loop-word l = map placed l.others.items ≡ map (respelled (spellings_of (map placed l.words))) (map placed (take l.word-index l.words))
