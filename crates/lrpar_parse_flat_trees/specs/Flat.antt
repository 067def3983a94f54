-- Trees as lists of their nodes: each node comes after those of its children, which come from left to right (post-order).
use Rattle.std.specs.Prelude.{◌≡◌, ◌-◌, ◌+◌, ℕ, suc, zero, Bool, false, List, [], ◌∷◌, ◌++◌, reverse}
use Rattle.lrpar_grammar_places.specs.Facts.{LexemeFacts}
use Rattle.lrpar_grammar_places.specs.Span.{Extent, nowhere}
use Rattle.lrpar_grammar.specs.Tree.{Tree, Forest, Leaf, Branch, Nil, Cons}
use Rattle.lrpar_parse_run.specs.Spans.{span_after}

-- the tree with another lexeme in place of each
abbrev mutual
  pub tree_by : {X Y : Type 0} → (X → Y) → Tree X → Tree Y
  tree_by of (Leaf x) = Leaf (of x)
  tree_by of (Branch p children) = Branch p (forest_by of children)

  pub forest_by : {X Y : Type 0} → (X → Y) → Forest X → Forest Y
  forest_by of Nil = Nil
  forest_by of (Cons t ts) = Cons (tree_by of t) (forest_by of ts)

-- the second tree is the first one with another lexeme in place of each
abbrev pub IsTreeBy : {X Y : Type 0} → (X → Y) → Tree X → Tree Y → Type 0
IsTreeBy of tree made = made ≡ tree_by of tree

-- a node of a list: a lexeme; or a production, with the number of nodes of its tree, its own included, and with its span
pub data FlatNode : Type 0 where
  FlatLeaf : (lexeme : LexemeFacts) → FlatNode
  FlatBranch : (prod nodes : ℕ) (span : Extent) → FlatNode

-- how many nodes there are in the tree of a node
abbrev pub count_of : FlatNode → ℕ
count_of (FlatLeaf x) = 1
count_of (FlatBranch p n span) = n

-- the span of a node
abbrev pub span_of : FlatNode → Extent
span_of (FlatLeaf x) = x.span
span_of (FlatBranch p n span) = span

-- whether a repair made the lexeme; false of a production
abbrev pub is_faulty_node : FlatNode → Bool
is_faulty_node (FlatLeaf x) = x.faulty
is_faulty_node (FlatBranch p n span) = false

-- how many nodes a tree has, and trees side by side have
abbrev mutual
  pub nodes_in : Tree LexemeFacts → ℕ
  nodes_in (Leaf x) = 1
  nodes_in (Branch p children) = nodes_in_all children + 1

  pub nodes_in_all : Forest LexemeFacts → ℕ
  nodes_in_all Nil = 0
  nodes_in_all (Cons t ts) = nodes_in t + nodes_in_all ts

-- the span of a tree after the span `before`
abbrev pub tree_span : Extent → Tree LexemeFacts → Extent
tree_span before tree = span_after (λ x. x.span) before tree

-- the nodes of a tree after the span `before`, and those of trees side by side
abbrev mutual
  pub flat : Extent → Tree LexemeFacts → List FlatNode
  flat before (Leaf x) = FlatLeaf x ∷ []
  flat before (Branch p children) = flat_all before children ++ FlatBranch p (nodes_in_all children + 1) (tree_span before (Branch p children)) ∷ []

  pub flat_all : Extent → Forest LexemeFacts → List FlatNode
  flat_all before Nil = []
  flat_all before (Cons t ts) = flat before t ++ flat_all (tree_span before t) ts

-- the node of a tree that comes after those of its children
abbrev pub own_node : Extent → Tree LexemeFacts → FlatNode
own_node before (Leaf x) = FlatLeaf x
own_node before (Branch p children) = FlatBranch p (nodes_in_all children + 1) (tree_span before (Branch p children))

-- the nodes of the trees of a list, which are side by side
abbrev pub flat_list : Extent → List (Tree LexemeFacts) → List FlatNode
flat_list before [] = []
flat_list before (t ∷ ts) = flat before t ++ flat_list (tree_span before t) ts

-- the span of the last of trees that are side by side; `before`, if there is none
abbrev pub list_span : Extent → List (Tree LexemeFacts) → Extent
list_span before [] = before
list_span before (t ∷ ts) = list_span (tree_span before t) ts

-- the trees of a list, as the children of a node
abbrev pub forest_of : {X : Type 0} → List (Tree X) → Forest X
forest_of [] = Nil
forest_of (t ∷ ts) = Cons t (forest_of ts)

-- the children of a node, and the trees to its left, the last first
pub record Cut : Type 0 where
  pub children : Forest LexemeFacts
  pub others : List (Tree LexemeFacts)

-- trees, the last first, are cut where they have this number of nodes in all
abbrev pub cut_at : ℕ → List (Tree LexemeFacts) → Forest LexemeFacts → Cut
cut_at zero others children = record { children = children; others = others }
cut_at (suc n) [] children = record { children = children; others = [] }
cut_at (suc n) (t ∷ ts) children = cut_at (suc n - nodes_in t) ts (Cons t children)

-- the trees, the last first, after one more node: it has as children those that make up its number of nodes
abbrev pub after_node : List (Tree LexemeFacts) → FlatNode → List (Tree LexemeFacts)
after_node trees (FlatLeaf x) = Leaf x ∷ trees
after_node trees (FlatBranch p n span) = Branch p (cut_at (n - 1) trees Nil).children ∷ (cut_at (n - 1) trees Nil).others

-- the trees, the last first, after more nodes
abbrev pub after_nodes : List (Tree LexemeFacts) → List FlatNode → List (Tree LexemeFacts)
after_nodes trees [] = trees
after_nodes trees (n ∷ ns) = after_nodes (after_node trees n) ns

-- the trees, side by side, whose nodes these are
abbrev pub trees_of : List FlatNode → List (Tree LexemeFacts)
trees_of nodes = reverse (after_nodes [] nodes)

-- these are the nodes of trees side by side
abbrev pub AreFlat : List FlatNode → Type 0
AreFlat nodes = nodes ≡ flat_list nowhere (trees_of nodes)

-- the first of trees; if there is none, some lexeme
abbrev pub first_tree : List (Tree LexemeFacts) → Tree LexemeFacts
first_tree [] = Leaf (record { token = 0; span = nowhere; faulty = false })
first_tree (t ∷ ts) = t

-- the tree whose nodes these are
abbrev pub tree_of : List FlatNode → Tree LexemeFacts
tree_of nodes = first_tree (trees_of nodes)

-- these are the nodes of a tree with nothing before it
abbrev pub IsFlatTree : List FlatNode → Type 0
IsFlatTree nodes = nodes ≡ flat nowhere (tree_of nodes)
