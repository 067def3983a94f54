use Rattle.std.proofs.Common.{map}
use Rattle.std.specs.List.{flat_map, range_with_len}
use Rattle.lrpar_grammar_yacc.specs.Declares.{level_of}
use Rattle.lrpar_table_levels.specs.ByName.{HasPrecedences, names_at}
use Rattle.lrpar_table_levels.proofs.declared.names_of_levels.Given as goal

-- the names of the levels so far
abbrev pub invariant-loop-number : goal.invariant-loop-number
invariant-loop-number l = HasPrecedences l.names (flat_map (names_at (map level_of l.levels)) (range_with_len 0 l.number))
