-- Nodes that are left to be written, with their levels.
use Rattle.std.specs.Prelude.{◌≡◌, ℕ, List, ◌++◌, map, reverse}
use Rattle.lrpar_parse_flat_trees.specs.Located.{Located, children_of}
use Rattle.lrpar_parse_flat_trees.specs.declared.text.LeftNode.{LeftNode}

-- the node at a level
abbrev pub left_at : {S : Type 0} → ℕ → Located → LeftNode S
left_at level node = record { node = node; level = level }

-- the children of the node are added at a level, the last one first
abbrev pub AddsChildren : {S : Type 0} → ℕ → Located → List (LeftNode S) → List (LeftNode S) → Type 0
AddsChildren level node old new = new ≡ old ++ reverse (map (left_at level) (children_of node))
