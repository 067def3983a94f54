use Rattle.std.proofs.Common.{◌≡◌, map, take}
use Rattle.lrpar_grammar_words.specs.Words.{placed}
use Rattle.lrpar_grammar_yacc.specs.Declares.{prec_of}
use Rattle.lrpar_grammar_yacc.proofs.file.prec_words.Given as goal

-- the words so far
abbrev pub invariant-loop-prec : goal.invariant-loop-prec
invariant-loop-prec l = map placed l.words.items ≡ map (λ x. x.name) (map prec_of (take l.prec-index l.precs))
