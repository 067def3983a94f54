-- A node is the own node of the last tree of its list.
use Rattle.std.proofs.Common.{◌≡◌, ◌<◌, ◌-◌, ◌∙◌, ℕ, List, [], ◌∷◌, ◌++◌, length, reverse, ap, refl, sym}
use Rattle.std.specs.Prelude.{get_or}
use Rattle.std.proofs.lemmas.List.{append-nil, reverse-append}
use Rattle.lrpar_grammar_places.specs.Facts.{LexemeFacts}
use Rattle.lrpar_grammar_places.specs.Span.{Extent, nowhere}
use Rattle.lrpar_grammar.specs.Tree.{Tree, Leaf, Branch}
use Rattle.lrpar_parse_run.specs.RunStack.{below_top}
use Rattle.lrpar_parse_flat_trees.specs.Flat.{AreFlat, FlatNode, IsFlatTree, count_of, first_tree, flat, is_faulty_node, list_span, nodes_in, own_node, span_of, tree_of, trees_of}
use Rattle.lrpar_parse_flat_trees.specs.Kinds.{IsKindOf, IsNodeKind}
use Rattle.lrpar_parse_flat_trees.specs.Located.{IsOwnNode, Located, is_faulty_tree, last_of, span_at}
use Rattle.lrpar_parse_flat_trees.specs.declared.kind.SyntaxKind.{SyntaxKind}
use Rattle.lrpar_parse_flat_trees.specs.declared.kind.SyntaxKind.TheVariants.{Production, Token}
use Rattle.lrpar_parse_flat_trees.proofs.FlatLemmas.{own_count, own_span}
use Rattle.lrpar_parse_flat_trees.proofs.GrowingLemmas.{AreOf, are_of, last_read, last_tree}

-- the last of trees
pub last_first : (kept : List (Tree LexemeFacts)) (t : Tree LexemeFacts) → first_tree (reverse (kept ++ t ∷ [])) ≡ t
last_first kept t = ap (λ (ts : List (Tree LexemeFacts)). first_tree ts) (reverse-append kept (t ∷ []))

pub last_is : (nodes : List FlatNode) (are : AreFlat nodes) (some : 0 < length (trees_of nodes)) → (last_of nodes).tree ≡ (last_tree nodes are some).tree
last_is nodes are some =
    let last = last_tree nodes are some in
    ap (λ (ts : List (Tree LexemeFacts)). first_tree (reverse ts)) last.trees ∙ last_first (below_top 1 (trees_of nodes)) last.tree

-- what is read as the last node is the own node
pub own_read : (nodes : List FlatNode) (x : FlatNode) → AreFlat nodes → 0 < length (trees_of nodes) → x ≡ get_or nodes (length nodes - 1) x → IsOwnNode (last_of nodes) x
own_read nodes x are some read =
    last_read nodes x are some read ∙ ap (λ (t : Tree LexemeFacts). own_node (list_span nowhere (below_top 1 (trees_of nodes))) t) (sym (last_is nodes are some))

-- what the own node tells of the tree
pub own_kind : {S : Type 0} (index : S → ℕ) (before : Extent) (t : Tree LexemeFacts) (x : FlatNode) (kind : SyntaxKind S) → x ≡ own_node before t → IsNodeKind index x kind → IsKindOf index t kind
own_kind index before t x kind is of = kind_of index before t kind (rw is at of)
  where
    kind_of : {S : Type 0} (index : S → ℕ) (before : Extent) (t : Tree LexemeFacts) (kind : SyntaxKind S) → IsNodeKind index (own_node before t) kind → IsKindOf index t kind
    kind_of index before (Leaf x) (Token token) of = of
    kind_of index before (Leaf x) (Production prod) of = of
    kind_of index before (Branch p children) (Token token) of = of
    kind_of index before (Branch p children) (Production prod) of = of

own_is_faulty : (before : Extent) (t : Tree LexemeFacts) → is_faulty_node (own_node before t) ≡ is_faulty_tree t
own_is_faulty before (Leaf x) = refl
own_is_faulty before (Branch p children) = refl

pub own_faulty : (node : Located) (x : FlatNode) → IsOwnNode node x → is_faulty_node x ≡ is_faulty_tree node.tree
own_faulty node x is = ap (λ (n : FlatNode). is_faulty_node n) is ∙ own_is_faulty node.before node.tree

pub own_nodes : (node : Located) (x : FlatNode) → IsOwnNode node x → count_of x ≡ nodes_in node.tree
own_nodes node x is = ap (λ (n : FlatNode). count_of n) is ∙ own_count node.before node.tree

pub own_lies : (node : Located) (x : FlatNode) → IsOwnNode node x → span_of x ≡ span_at node
own_lies node x is = ap (λ (n : FlatNode). span_of n) is ∙ own_span node.before node.tree

-- the nodes of a tree are those of one tree
pub one_tree : (nodes : List FlatNode) → IsFlatTree nodes → AreOf (tree_of nodes ∷ []) nodes
one_tree nodes is = are_of (tree_of nodes ∷ []) nodes (is ∙ sym (append-nil (flat nowhere (tree_of nodes))))

pub root_is : (nodes : List FlatNode) → IsFlatTree nodes → last_of nodes ≡ record { before = nowhere; tree = tree_of nodes }
root_is nodes is =
    ap (λ (ts : List (Tree LexemeFacts)). record { before = list_span nowhere (below_top 1 ts); tree = first_tree (reverse ts) }) (one_tree nodes is).trees_are
