use Rattle.std.proofs.Common.{◌≡◌, ◌++◌, map, take}
use Rattle.lrpar_grammar_words.specs.Words.{placed}
use Rattle.lrpar_grammar_yacc.proofs.file.push_names.Given as goal

-- the names of the words so far are appended
abbrev pub invariant-loop-word : goal.invariant-loop-word
invariant-loop-word l = map (λ x. x.now) l.names.items ≡ map (λ x. x.now) l.initial.names.items ++ map (λ w. w.name) (map placed (take l.word-index l.words))
