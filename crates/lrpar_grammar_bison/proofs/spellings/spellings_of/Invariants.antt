use Rattle.std.proofs.Common.{◌≡◌, drop, map}
use Rattle.lrpar_grammar_bison.specs.Words.{placed}
use Rattle.lrpar_grammar_bison.specs.Spellings.{spelling_of, spellings_of, with_words}
use Rattle.lrpar_grammar_bison.proofs.spellings.spellings_of.Given as goal

-- the words that are left come after those so far
abbrev pub invariant-loop-word : goal.invariant-loop-word
invariant-loop-word l = spellings_of (map placed l.words) ≡ with_words (map spelling_of l.spellings.items) (map placed (drop l.word-index l.words))
