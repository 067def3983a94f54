use Rattle.std.proofs.Common.{◌≡◌, ◌++◌, take}
use Rattle.lrpar_table_stacks.specs.Overlay.{overlaid}
use Rattle.lrpar_table_stacks.specs.Stack.{states_of}
use Rattle.lrpar_parse.proofs.expected.copy_above.Given as goal

-- with those of the base that are kept, the states that are copied are the first ones of the overlay
abbrev pub invariant-loop-at : goal.invariant-loop-at
invariant-loop-at g l =
    take l.overlay.kept l.overlay.base ++ states_of g.StorageT.StorageIndex.index l.above.items ≡ take l.at (overlaid l.overlay)
