-- How many trees there are from a node on.
use Rattle.std.specs.Prelude.{◌≤◌, ℕ, List, length, take}
use Rattle.lrpar_parse_flat_trees.specs.Flat.{FlatNode, trees_of}
use Rattle.lrpar_parse_flat_trees.specs.Growing.{AreBelow}

-- from the node at `first` on there are this many trees
pub record AreLeft (first : ℕ) (nodes : List FlatNode) (count : ℕ) : Type 0 where
  pub within : count ≤ length (trees_of nodes)
  pub below : AreBelow count nodes (take first nodes)

-- there is a number of trees from the node at `first` on, which is in the list or its end
pub record CanCount (first : ℕ) (nodes : List FlatNode) : Type 0 where
  pub place : first ≤ length nodes
  pub count : ℕ
  pub left : AreLeft first nodes count
