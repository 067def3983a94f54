-- The nodes of trees give back the trees.
use Rattle.std.proofs.Common.{◌≡◌, ◌-◌, ◌+◌, ◌∙◌, ℕ, suc, List, [], ◌∷◌, ◌++◌, reverse, ap, arith, refl, sym}
use Rattle.std.proofs.lemmas.List.{append_assoc, append-nil, reverse-append, reverse-reverse}
use Rattle.lrpar_grammar_places.specs.Facts.{LexemeFacts}
use Rattle.lrpar_grammar_places.specs.Span.{Extent, nowhere}
use Rattle.lrpar_grammar.specs.Tree.{Tree, Forest, Leaf, Branch, Nil, Cons}
use Rattle.lrpar_parse_flat_trees.specs.Flat.{Cut, FlatBranch, FlatNode, after_nodes, cut_at, first_tree, flat, flat_all, flat_list, nodes_in, nodes_in_all, tree_of, tree_span, trees_of}

-- trees before those of a forest
abbrev pub joined : Forest LexemeFacts → Forest LexemeFacts → Forest LexemeFacts
joined Nil us = us
joined (Cons t ts) us = Cons t (joined ts us)

joined_nil : (ts : Forest LexemeFacts) → joined ts Nil ≡ ts
joined_nil Nil = refl
joined_nil (Cons t ts) = ap (λ us. Cons t us) (joined_nil ts)

-- the trees of a forest, the last first, before those that are there
abbrev pub onto : Forest LexemeFacts → List (Tree LexemeFacts) → List (Tree LexemeFacts)
onto Nil trees = trees
onto (Cons t ts) trees = onto ts (t ∷ trees)

-- a tree has a node
some_nodes : (t : Tree LexemeFacts) → nodes_in t ≡ suc (nodes_in t - 1)
some_nodes (Leaf x) = refl
some_nodes (Branch p children) = omega arith

-- trees that have this number of nodes in all are cut off
cut_one : (n : ℕ) (t : Tree LexemeFacts) (trees : List (Tree LexemeFacts)) (children : Forest LexemeFacts) → cut_at (nodes_in t + n) (t ∷ trees) children ≡ cut_at n trees (Cons t children)
cut_one n t trees children =
    let some : nodes_in t + n ≡ suc ((nodes_in t - 1) + n) = omega (arith, some_nodes t) in
    let left : suc ((nodes_in t - 1) + n) - nodes_in t ≡ n = omega (arith, some_nodes t) in
    ap (λ (k : ℕ). cut_at k (t ∷ trees) children) some ∙ ap (λ (k : ℕ). cut_at k trees (Cons t children)) left

cut_onto : (ts : Forest LexemeFacts) (n : ℕ) (trees : List (Tree LexemeFacts)) (children : Forest LexemeFacts) → cut_at (nodes_in_all ts + n) (onto ts trees) children ≡ cut_at n trees (joined ts children)
cut_onto Nil n trees children =
    let none : 0 + n ≡ n = omega arith in
    ap (λ (k : ℕ). cut_at k trees children) none
cut_onto (Cons t ts) n trees children =
    let order : (nodes_in t + nodes_in_all ts) + n ≡ nodes_in_all ts + (nodes_in t + n) = omega arith in
    ap (λ (k : ℕ). cut_at k (onto ts (t ∷ trees)) children) order ∙ cut_onto ts (nodes_in t + n) (t ∷ trees) children ∙ cut_one n t trees (joined ts children)

cut_whole : (ts : Forest LexemeFacts) (trees : List (Tree LexemeFacts)) → cut_at ((nodes_in_all ts + 1) - 1) (onto ts trees) Nil ≡ record { children = ts; others = trees }
cut_whole ts trees =
    let same : (nodes_in_all ts + 1) - 1 ≡ nodes_in_all ts + 0 = omega arith in
    ap (λ (k : ℕ). cut_at k (onto ts trees) Nil) same ∙ cut_onto ts 0 trees Nil ∙ ap (λ (us : Forest LexemeFacts). record { children = us; others = trees }) (joined_nil ts)

-- the nodes of a tree give it back
mutual
  after_flat : (before : Extent) (t : Tree LexemeFacts) (trees : List (Tree LexemeFacts)) (ns : List FlatNode) → after_nodes trees (flat before t ++ ns) ≡ after_nodes (t ∷ trees) ns
  after_flat before (Leaf x) trees ns = refl
  after_flat before (Branch p children) trees ns =
      let own = FlatBranch p (nodes_in_all children + 1) (tree_span before (Branch p children)) in
      ap (λ (all : List FlatNode). after_nodes trees all) (append_assoc (flat_all before children) (own ∷ []) ns)
      ∙ after_all before children trees (own ∷ ns)
      ∙ ap (λ (cut : Cut). after_nodes (Branch p cut.children ∷ cut.others) ns) (cut_whole children trees)

  after_all : (before : Extent) (ts : Forest LexemeFacts) (trees : List (Tree LexemeFacts)) (ns : List FlatNode) → after_nodes trees (flat_all before ts ++ ns) ≡ after_nodes (onto ts trees) ns
  after_all before Nil trees ns = refl
  after_all before (Cons t ts) trees ns =
      ap (λ (all : List FlatNode). after_nodes trees all) (append_assoc (flat before t) (flat_all (tree_span before t) ts) ns)
      ∙ after_flat before t trees (flat_all (tree_span before t) ts ++ ns)
      ∙ after_all (tree_span before t) ts (t ∷ trees) ns

after_list : (before : Extent) (ts trees : List (Tree LexemeFacts)) → after_nodes trees (flat_list before ts) ≡ reverse ts ++ trees
after_list before [] trees = refl
after_list before (t ∷ ts) trees =
    after_flat before t trees (flat_list (tree_span before t) ts)
    ∙ after_list (tree_span before t) ts (t ∷ trees)
    ∙ sym (append_assoc (reverse ts) (t ∷ []) trees)
    ∙ ap (λ (us : List (Tree LexemeFacts)). us ++ trees) (sym (reverse-append (t ∷ []) ts))

-- the nodes of trees side by side give these trees
pub trees_back : (before : Extent) (ts : List (Tree LexemeFacts)) → trees_of (flat_list before ts) ≡ ts
trees_back before ts = ap (λ (us : List (Tree LexemeFacts)). reverse us) (after_list before ts [] ∙ append-nil (reverse ts)) ∙ reverse-reverse ts

-- the nodes of a tree give it back
pub tree_back : (t : Tree LexemeFacts) → tree_of (flat nowhere t) ≡ t
tree_back t =
    let one : flat nowhere t ≡ flat_list nowhere (t ∷ []) = sym (append-nil (flat nowhere t)) in
    ap (λ (ns : List FlatNode). tree_of ns) one ∙ ap (λ (ts : List (Tree LexemeFacts)). first_tree ts) (trees_back nowhere (t ∷ []))
