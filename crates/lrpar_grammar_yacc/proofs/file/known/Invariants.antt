use Rattle.std.proofs.Common.{map, take}
use Rattle.lrpar_grammar_yacc.specs.YaccFiles.{AreNames}
use Rattle.lrpar_grammar_yacc.proofs.file.known.Given as goal

-- the names so far are known
abbrev pub invariant-loop-name : goal.invariant-loop-name
invariant-loop-name l = AreNames l.known (map (λ x. x.now) (take l.name-index l.names))
