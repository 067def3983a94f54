-- Trees of the program as lists of their nodes, in the order of a walk: from the root down and from left to right.
use Rattle.std.specs.Prelude.{◌≡◌, Bool, List, [], ◌∷◌, ◌++◌, length, map}
use Rattle.std.specs.Cmp.Lexicographic.{pointwise}
use Rattle.lrpar_grammar_places.specs.declared.span.RIdx.{RIdx}
use Rattle.lrpar_parse_trees.specs.declared.node.Node.{Node}
use Rattle.lrpar_parse_trees.specs.declared.node.Node.TheOpen.{Node-F}
use Rattle.lrpar_parse_trees.specs.declared.node.Node.TheViews.{out-Node}
use Rattle.lrpar_parse_trees.specs.declared.node.Node.TheFolds.{fold-Node}
use Rattle.lrpar_parse_trees.specs.Visits.{Visit, Met, Entered, visit_eq}

-- lists one after another
abbrev pub joined : {A : Type 0} → List (List A) → List A
joined [] = []
joined (xs ∷ xss) = xs ++ joined xss

-- the walk through a node, over those through its children
abbrev pub walk_step : {X S : Type 0} → Node-F X S (List (Visit X S)) → List (Visit X S)
walk_step (Node-F.Term x) = Met x ∷ []
walk_step (Node-F.Nonterm ridx walks) = Entered ridx.0 (length walks.items) ∷ joined walks.items

-- the walk through a tree, which determines the tree
abbrev pub walk : {X S : Type 0} → Node X S → List (Visit X S)
walk {X = X} {S = S} = fold-Node X S (List (Visit X S)) walk_step

-- the visit of the root
abbrev pub layer_visit : {X S : Type 0} → Node-F X S (Node X S) → Visit X S
layer_visit (Node-F.Term x) = Met x
layer_visit (Node-F.Nonterm ridx nodes) = Entered ridx.0 (length nodes.items)

abbrev pub visit : {X S : Type 0} → Node X S → Visit X S
visit {X = X} {S = S} node = layer_visit (out-Node X S node)

-- the trees below the root
abbrev pub layer_children : {X S : Type 0} → Node-F X S (Node X S) → List (Node X S)
layer_children (Node-F.Term x) = []
layer_children (Node-F.Nonterm ridx nodes) = nodes.items

abbrev pub children : {X S : Type 0} → Node X S → List (Node X S)
children {X = X} {S = S} node = layer_children (out-Node X S node)

-- the walk through several trees, one after another
abbrev pub walks : {X S : Type 0} → List (Node X S) → List (Visit X S)
walks nodes = joined (map walk nodes)

-- the node is the rule's, over equal trees
abbrev pub IsNodeOver : {X S : Type 0} → RIdx S → List (Node X S) → Node X S → Type 0
IsNodeOver ridx nodes = λ node. walk node ≡ Entered ridx.0 (length nodes) ∷ walks nodes

-- two trees are equal if their walks visit equal nodes
abbrev pub node_eq : {X S : Type 0} → (X → X → Bool) → (S → S → Bool) → Node X S → Node X S → Bool
node_eq eq same a b = pointwise (visit_eq eq same) (walk a) (walk b)

-- two lists of trees are equal if their walks visit equal nodes
abbrev pub nodes_eq : {X S : Type 0} → (X → X → Bool) → (S → S → Bool) → List (Node X S) → List (Node X S) → Bool
nodes_eq eq same nodes others = pointwise (visit_eq eq same) (walks nodes) (walks others)
