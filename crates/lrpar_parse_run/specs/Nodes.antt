-- The nodes that a parse builds, as the definitions see them.
use Rattle.std.specs.Prelude.{◌≡◌, ℕ, List, Vec}
use Rattle.std.specs.declared.alloc.Global.{Global}
use Rattle.lrpar_grammar_places.specs.declared.span.RIdx.{RIdx}
use Rattle.lrpar_parse_trees.specs.declared.node.Node.{Node}
use Rattle.lrpar_parse_trees.specs.declared.node.Node.TheVariants.{Term, Nonterm}
use Rattle.lrpar_parse_run.specs.declared.values.AStackType.{AStackType}
use Rattle.lrpar_parse_run.specs.declared.values.AStackType.TheVariants.{ActionType, Lexeme}

-- the node of a lexeme
abbrev pub IsTerm : {X S : Type 0} → X → Node X S → Type 0
IsTerm x node = node ≡ Term x

-- a node of rule r over these nodes, from left to right
pub record IsNonterm {X S : Type 0} (index : S → ℕ) (r : ℕ) (nodes : List (Node X S)) (node : Node X S) : Type 0 where
  pub ridx : RIdx S
  pub children : Vec (Node X S) Global
  pub rule : index ridx.0 ≡ r
  pub children_are : children.items ≡ nodes
  pub is : node ≡ Nonterm ridx children

-- the node of an argument: that of its lexeme, or the argument's own node
abbrev pub node_of : {X S : Type 0} → AStackType X (Node X S) → Node X S
node_of (Lexeme x) = Term x
node_of (ActionType node) = node
