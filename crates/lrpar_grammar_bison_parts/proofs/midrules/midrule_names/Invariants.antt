use Rattle.std.proofs.Common.{◌≡◌, map, string_bytes}
use Rattle.lrpar_grammar_bison_parts.specs.Midrules.{midrule_names}
use Rattle.lrpar_grammar_bison_parts.proofs.midrules.midrule_names.Given as goal

-- the names so far
abbrev pub invariant-loop-number : goal.invariant-loop-number
invariant-loop-number l = map string_bytes l.names.items ≡ midrule_names 1 l.number
