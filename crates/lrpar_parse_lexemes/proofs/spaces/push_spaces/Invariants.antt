use Rattle.std.proofs.Common.{◌≡◌, ◌++◌, replicate}
use Rattle.std.specs.String.{string_bytes}
use Rattle.lrpar_parse_lexemes.proofs.spaces.push_spaces.Given as goal

-- with the spaces that are left, this number of spaces is added
abbrev pub invariant-loop-left : goal.invariant-loop-left
invariant-loop-left l = string_bytes l.out ++ replicate l.left 32 ≡ string_bytes l.initial.out ++ replicate l.fn.count 32

-- the spaces that are left
abbrev pub decreases-loop-left : goal.decreases-loop-left
decreases-loop-left l = l.left
