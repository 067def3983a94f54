-- The nodes of trees side by side, and of one tree.
use Rattle.std.proofs.Common.{◌≡◌, ◌+◌, ◌∙◌, ℕ, List, [], ◌∷◌, ◌++◌, length, ap, refl, sym}
use Rattle.std.proofs.lemmas.List.{append_assoc, length-append}
use Rattle.lrpar_grammar_places.specs.Facts.{LexemeFacts}
use Rattle.lrpar_grammar_places.specs.Span.{Extent}
use Rattle.lrpar_grammar.specs.Tree.{Tree, Forest, Leaf, Branch, Nil, Cons}
use Rattle.lrpar_parse_flat_trees.specs.Flat.{FlatBranch, FlatLeaf, FlatNode, count_of, flat, flat_all, flat_list, forest_of, list_span, nodes_in, nodes_in_all, own_node, span_of, tree_span}

-- trees side by side, and more of them
pub list_span_both : (before : Extent) (ts us : List (Tree LexemeFacts)) → list_span before (ts ++ us) ≡ list_span (list_span before ts) us
list_span_both before [] us = refl
list_span_both before (t ∷ ts) us = list_span_both (tree_span before t) ts us

pub flat_both : (before : Extent) (ts us : List (Tree LexemeFacts)) → flat_list before (ts ++ us) ≡ flat_list before ts ++ flat_list (list_span before ts) us
flat_both before [] us = refl
flat_both before (t ∷ ts) us =
    ap (λ (ns : List FlatNode). flat before t ++ ns) (flat_both (tree_span before t) ts us)
    ∙ sym (append_assoc (flat before t) (flat_list (tree_span before t) ts) (flat_list (list_span (tree_span before t) ts) us))

pub flat_forest : (before : Extent) (ts : List (Tree LexemeFacts)) → flat_all before (forest_of ts) ≡ flat_list before ts
flat_forest before [] = refl
flat_forest before (t ∷ ts) = ap (λ (ns : List FlatNode). flat before t ++ ns) (flat_forest (tree_span before t) ts)

-- the numbers of nodes are right
mutual
  pub flat_length : (before : Extent) (t : Tree LexemeFacts) → length (flat before t) ≡ nodes_in t
  flat_length before (Leaf x) = refl
  flat_length before (Branch p children) =
      length-append (flat_all before children) (FlatBranch p (nodes_in_all children + 1) (tree_span before (Branch p children)) ∷ [])
      ∙ ap (λ (n : ℕ). n + 1) (all_length before children)

  pub all_length : (before : Extent) (ts : Forest LexemeFacts) → length (flat_all before ts) ≡ nodes_in_all ts
  all_length before Nil = refl
  all_length before (Cons t ts) =
      length-append (flat before t) (flat_all (tree_span before t) ts)
      ∙ (ap (λ (n : ℕ). n + length (flat_all (tree_span before t) ts)) (flat_length before t) ∙ ap (λ (n : ℕ). nodes_in t + n) (all_length (tree_span before t) ts))

-- the nodes before the own node of a tree
abbrev pub inner_nodes : Extent → Tree LexemeFacts → List FlatNode
inner_nodes before (Leaf x) = []
inner_nodes before (Branch p children) = flat_all before children

pub own_is_last : (before : Extent) (t : Tree LexemeFacts) → flat before t ≡ inner_nodes before t ++ own_node before t ∷ []
own_is_last before (Leaf x) = refl
own_is_last before (Branch p children) = refl

pub own_count : (before : Extent) (t : Tree LexemeFacts) → count_of (own_node before t) ≡ nodes_in t
own_count before (Leaf x) = refl
own_count before (Branch p children) = refl

pub own_span : (before : Extent) (t : Tree LexemeFacts) → span_of (own_node before t) ≡ tree_span before t
own_span before (Leaf x) = refl
own_span before (Branch p children) = refl

-- the first node of a tree starts where the tree starts
pub record StartsAt (start : ℕ) (nodes : List FlatNode) : Type 0 where
  pub first : FlatNode
  pub others : List FlatNode
  pub are : nodes ≡ first ∷ others
  pub starts : (span_of first).start ≡ start

pub first_starts : (before : Extent) (t : Tree LexemeFacts) → StartsAt (tree_span before t).start (flat before t)
first_starts before (Leaf x) = record { first = FlatLeaf x; others = []; are = refl; starts = refl }
first_starts before (Branch p Nil) = record { first = FlatBranch p 1 before; others = []; are = refl; starts = refl }
first_starts before (Branch p (Cons t ts)) =
    let first = first_starts before t in
    let rest = flat_all (tree_span before t) ts in
    let own = FlatBranch p (nodes_in_all (Cons t ts) + 1) (tree_span before (Branch p (Cons t ts))) in
    record {
      first = first.first;
      others = (first.others ++ rest) ++ own ∷ [];
      are = ap (λ (ns : List FlatNode). (ns ++ rest) ++ own ∷ []) first.are;
      starts = first.starts;
    }
