use Rattle.std.proofs.Common.{◌≡◌}
use Rattle.std.specs.List.{filter, range_with_len}
use Rattle.lrpar_grammar.specs.Tokens.{has}
use Rattle.lrpar_names.specs.Choosing.{rule_numbers}
use Rattle.lrpar_names.proofs.candidates.marked_rules.Given as goal

-- the rules so far are the marked ones
abbrev pub invariant-marks : goal.invariant-marks
invariant-marks g l = rule_numbers g.StorageT.StorageIndex.index l.rules.items ≡ filter (has l.marks) (range_with_len 0 l.number)
