-- Nodes of a tree, as a cursor sees them.
use Rattle.std.proofs.Common.{◌≡◌, Bool, false, List, [], ◌∷◌, ◌++◌, refl, reverse}
use Rattle.std.specs.Coded.{Coded, code_by, coded×}
use Rattle.lrpar_grammar_places.specs.Facts.{LexemeFacts}
use Rattle.lrpar_grammar_places.specs.Span.{Extent, nowhere}
use Rattle.lrpar_grammar.specs.Tree.{Tree, Forest, Leaf, Branch, Nil, Cons}
use Rattle.lrpar_parse_run.specs.RunStack.{below_top}
use Rattle.lrpar_parse_flat_trees.specs.Flat.{FlatNode, first_tree, list_span, own_node, tree_span, trees_of}
use Rattle.lrpar_parse_flat_trees.specs.TreeCode.{extent_code, tree_code}

-- a tree, and the span before it
pub record Located : Type 0 where
  pub before : Extent
  pub tree : Tree LexemeFacts

-- a tree and the span before it are stored as these two
abbrev pub located_code : Coded Located
located_code = code_by (Extent × Tree LexemeFacts) (coded× extent_code tree_code) (λ l. (l.before, l.tree)) (λ p. record { before = p.0; tree = p.1 }) (λ _. refl)

-- the last of the trees whose nodes these are
abbrev pub last_of : List FlatNode → Located
last_of nodes = record { before = list_span nowhere (below_top 1 (trees_of nodes)); tree = first_tree (reverse (trees_of nodes)) }

-- the span of the tree
abbrev pub span_at : Located → Extent
span_at node = tree_span node.before node.tree

-- trees side by side, each after the span of the one to its left
abbrev pub side_by_side : Extent → List (Tree LexemeFacts) → List Located
side_by_side before [] = []
side_by_side before (t ∷ ts) = (record { before = before; tree = t }) ∷ side_by_side (tree_span before t) ts

-- the trees of a forest
abbrev pub list_of : {X : Type 0} → Forest X → List (Tree X)
list_of Nil = []
list_of (Cons t ts) = t ∷ list_of ts

-- the children of a node: none of a lexeme
abbrev pub children_in : Tree LexemeFacts → List (Tree LexemeFacts)
children_in (Leaf x) = []
children_in (Branch p children) = list_of children

abbrev pub children_of : Located → List Located
children_of node = side_by_side node.before (children_in node.tree)

-- all nodes of a tree after the span `before`, and of trees side by side: those of the children from left to right, and then their node
abbrev mutual
  pub walk : Extent → Tree LexemeFacts → List Located
  walk before (Leaf x) = (record { before = before; tree = Leaf x }) ∷ []
  walk before (Branch p children) = walk_all before children ++ (record { before = before; tree = Branch p children }) ∷ []

  pub walk_all : Extent → Forest LexemeFacts → List Located
  walk_all before Nil = []
  walk_all before (Cons t ts) = walk before t ++ walk_all (tree_span before t) ts

-- all nodes of the trees of a list
abbrev pub walk_list : Extent → List (Tree LexemeFacts) → List Located
walk_list before [] = []
walk_list before (t ∷ ts) = walk before t ++ walk_list (tree_span before t) ts

-- whether a repair made the lexeme; false of a production
abbrev pub is_faulty_tree : Tree LexemeFacts → Bool
is_faulty_tree (Leaf x) = x.faulty
is_faulty_tree (Branch p children) = false

-- the node of the list is the tree's own
abbrev pub IsOwnNode : Located → FlatNode → Type 0
IsOwnNode node own = own ≡ own_node node.before node.tree
