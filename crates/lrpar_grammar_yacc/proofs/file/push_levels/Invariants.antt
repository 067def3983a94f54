use Rattle.std.proofs.Common.{◌≡◌, ◌++◌, map, take}
use Rattle.lrpar_grammar_yacc.specs.Declares.{level_of}
use Rattle.lrpar_grammar_yacc.specs.YaccFiles.{level_names}
use Rattle.lrpar_grammar_yacc.proofs.file.push_levels.Given as goal

-- the names of the levels so far are appended
abbrev pub invariant-loop-level : goal.invariant-loop-level
invariant-loop-level l = map (λ x. x.now) l.names.items ≡ map (λ x. x.now) l.initial.names.items ++ level_names (map level_of (take l.level-index l.levels))
