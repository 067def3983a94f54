use Rattle.std.proofs.Common.{◌≡◌, ℕ, List, drop, map}
use Rattle.lrpar_grammar_words.specs.Words.{placed}
use Rattle.lrpar_grammar_yacc.specs.YaccFiles.{AreNames, unknown_among}
use Rattle.lrpar_grammar_yacc.proofs.file.unknown_word.Given as goal

-- the words so far are known
abbrev pub invariant-loop-word : goal.invariant-loop-word
invariant-loop-word l =
    (names : List (List ℕ)) → AreNames l.known names → unknown_among names (map placed l.words) ≡ unknown_among names (map placed (drop l.word-index l.words))
