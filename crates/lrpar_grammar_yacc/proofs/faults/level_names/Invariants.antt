use Rattle.std.proofs.Common.{◌≡◌, map, take}
use Rattle.std.specs.List.{flat_map}
use Rattle.lrpar_grammar_words.specs.Words.{placed}
use Rattle.lrpar_grammar_yacc.specs.Declares.{level_of}
use Rattle.lrpar_grammar_yacc.proofs.faults.level_names.Given as goal

-- the names of the levels so far
abbrev pub invariant-loop-level : goal.invariant-loop-level
invariant-loop-level l = map placed l.names.items ≡ flat_map (λ x. x.names) (map level_of (take l.level-index l.levels))
