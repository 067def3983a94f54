use Rattle.std.proofs.Common.{string_bytes, ◌≡◌, ◌++◌}
use Rattle.std.specs.List.{flat_map}
use Rattle.lrpar_parse_trees.specs.Labels.{label_char}
use Rattle.lrpar_parse_trees.proofs.labels.push_label.Given as goal

-- the characters so far are added
abbrev pub invariant-loop-c : goal.invariant-loop-c
invariant-loop-c l = string_bytes l.out ≡ string_bytes l.fn.out ++ flat_map label_char l.yielded
