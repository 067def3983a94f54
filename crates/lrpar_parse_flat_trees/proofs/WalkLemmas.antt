-- The nodes up to each node are those of trees side by side, of which the last one is the node's.
use Rattle.std.proofs.Common.{◌≡◌, ◌<◌, ◌≤◌, ◌-◌, ◌+◌, ◌∙◌, ℕ, suc, zero, List, [], ◌∷◌, ◌++◌, inl, inr, length, reverse, take, drop, ap, arith, refl, subst, sym}
use Rattle.std.proofs.Math.ListN.{drop_of_length-le}
use Rattle.std.proofs.Math.Seq.{drop-append_seam, take-append-add, take-append_seam}
use Rattle.std.proofs.lemmas.Bool.{cases_lt}
use Rattle.std.proofs.lemmas.List.{append-nil, length-append, take-append-le, take_all}
use Rattle.lrpar_grammar_places.specs.Facts.{LexemeFacts}
use Rattle.lrpar_grammar_places.specs.Span.{Extent, nowhere}
use Rattle.lrpar_grammar.specs.Tree.{Tree, Forest, Leaf, Branch, Nil, Cons}
use Rattle.lrpar_parse_run.specs.RunStack.{below_top}
use Rattle.lrpar_parse_flat_trees.specs.Flat.{AreFlat, FlatBranch, FlatNode, IsFlatTree, first_tree, flat, flat_all, flat_list, forest_of, list_span, nodes_in, nodes_in_all, tree_of, tree_span, trees_of}
use Rattle.lrpar_parse_flat_trees.specs.Located.{Located, last_of, walk, walk_all, walk_list}
use Rattle.lrpar_parse_flat_trees.proofs.FlatLemmas.{all_length, flat_forest, flat_length}
use Rattle.lrpar_parse_flat_trees.proofs.GrowingLemmas.{are_of}
use Rattle.lrpar_parse_flat_trees.proofs.NodeLemmas.{last_first, one_tree}

-- what is at the place k of nodes and of a walk over them: the nodes up to it are those of trees, of which the last one is the node's; and
-- the walk is at the node
record IsAt (before : Extent) (nodes : List FlatNode) (nodes_walked : List Located) (k : ℕ) : Type 0 where
  pub front : List (Tree LexemeFacts)
  pub node : Located
  pub is_after : node.before ≡ list_span before front
  pub nodes_are : take (k + 1) nodes ≡ flat_list before (front ++ node.tree ∷ [])
  pub walked : drop k nodes_walked ≡ node ∷ drop (k + 1) nodes_walked

-- a walk has as many nodes
mutual
  walk_length : (before : Extent) (t : Tree LexemeFacts) → length (walk before t) ≡ nodes_in t
  walk_length before (Leaf x) = refl
  walk_length before (Branch p children) =
      length-append (walk_all before children) ((record { before = before; tree = Branch p children }) ∷ []) ∙ ap (λ (n : ℕ). n + 1) (walk_all_length before children)

  walk_all_length : (before : Extent) (ts : Forest LexemeFacts) → length (walk_all before ts) ≡ nodes_in_all ts
  walk_all_length before Nil = refl
  walk_all_length before (Cons t ts) =
      length-append (walk before t) (walk_all (tree_span before t) ts)
      ∙ (ap (λ (n : ℕ). n + length (walk_all (tree_span before t) ts)) (walk_length before t) ∙ ap (λ (n : ℕ). nodes_in t + n) (walk_all_length (tree_span before t) ts))

-- lists with more after them
drop_front : {X : Type 0} (xs ys rest : List X) (x : X) (k : ℕ) → k < length xs → drop k xs ≡ x ∷ rest → drop k (xs ++ ys) ≡ x ∷ (rest ++ ys)
drop_front [] ys rest x k less is = absurd (omega (arith, less))
drop_front (z ∷ zs) ys rest x zero less is = ap (λ w. w ++ ys) is
drop_front (z ∷ zs) ys rest x (suc k) less is = drop_front zs ys rest x k (omega (arith, less)) is

drop_same : {X : Type 0} (xs ys : List X) (k : ℕ) → k ≤ length xs → drop k (xs ++ ys) ≡ drop k xs ++ ys
drop_same xs ys zero less = refl
drop_same [] ys (suc k) less = absurd (omega (arith, less))
drop_same (z ∷ zs) ys (suc k) less = drop_same zs ys k (omega (arith, less))

drop_past : {X : Type 0} (xs ys : List X) (k : ℕ) → drop (length xs + k) (xs ++ ys) ≡ drop k ys
drop_past [] ys k = ap (λ (n : ℕ). drop n ys) (omega arith)
drop_past (z ∷ zs) ys k = ap (λ (n : ℕ). drop n (z ∷ (zs ++ ys))) (more zs k) ∙ drop_past zs ys k
  where
    more : {Y : Type 0} (zs : List Y) (k : ℕ) → suc (length zs) + k ≡ suc (length zs + k)
    more zs k = omega arith

-- with more nodes after them
at_front : (before : Extent) (nodes more : List FlatNode) (nodes_walked more_walked : List Located) (k : ℕ) → k < length nodes → length nodes_walked ≡ length nodes
    → IsAt before nodes nodes_walked k → IsAt before (nodes ++ more) (nodes_walked ++ more_walked) k
at_front before nodes more nodes_walked more_walked k less long at = record {
  front = at.front;
  node = at.node;
  is_after = at.is_after;
  nodes_are = take-append-le (k + 1) nodes more (omega (arith, less)) ∙ at.nodes_are;
  walked = drop_front nodes_walked more_walked (drop (k + 1) nodes_walked) at.node k (omega (arith, less, long)) at.walked
      ∙ ap (λ w. at.node ∷ w) (sym (drop_same nodes_walked more_walked (k + 1) (omega (arith, less, long))));
}

-- after the nodes of a tree
at_later : (before : Extent) (t : Tree LexemeFacts) (nodes : List FlatNode) (nodes_walked : List Located) (k : ℕ) → IsAt (tree_span before t) nodes nodes_walked k
    → IsAt before (flat before t ++ nodes) (walk before t ++ nodes_walked) (nodes_in t + k)
at_later before t nodes nodes_walked k at =
    let place : (nodes_in t + k) + 1 ≡ length (flat before t) + (k + 1) = omega (arith, flat_length before t) in
    let here : nodes_in t + k ≡ length (walk before t) + k = omega (arith, walk_length before t) in
    let next : (nodes_in t + k) + 1 ≡ length (walk before t) + (k + 1) = omega (arith, walk_length before t) in
    record {
      front = t ∷ at.front;
      node = at.node;
      is_after = at.is_after;
      nodes_are = ap (λ (n : ℕ). take n (flat before t ++ nodes)) place ∙ take-append-add (flat before t) nodes (k + 1) ∙ ap (λ w. flat before t ++ w) at.nodes_are;
      walked = ap (λ (n : ℕ). drop n (walk before t ++ nodes_walked)) here ∙ drop_past (walk before t) nodes_walked k ∙ at.walked
          ∙ ap (λ w. at.node ∷ w) (sym (ap (λ (n : ℕ). drop n (walk before t ++ nodes_walked)) next ∙ drop_past (walk before t) nodes_walked (k + 1)));
    }

-- the node of a production, after those of its children
at_own : (before : Extent) (p : ℕ) (children : Forest LexemeFacts) (k : ℕ) → k ≡ nodes_in_all children → IsAt before (flat before (Branch p children)) (walk before (Branch p children)) k
at_own before p children k is =
    let t = Branch p children in
    let own : Located = record { before = before; tree = t } in
    let long : length (flat before t) ≡ k + 1 = flat_length before t ∙ ap (λ (n : ℕ). n + 1) (sym is) in
    let inner : k ≡ length (walk_all before children) = is ∙ sym (walk_all_length before children) in
    let whole : length (walk before t) ≡ k + 1 = walk_length before t ∙ ap (λ (n : ℕ). n + 1) (sym is) in
    record {
      front = [];
      node = own;
      is_after = refl;
      nodes_are = take_all (k + 1) (flat before t) (omega (arith, long)) ∙ sym (append-nil (flat before t));
      walked = ap (λ (n : ℕ). drop n (walk before t)) inner ∙ drop-append_seam (walk_all before children) (own ∷ [])
          ∙ ap (λ w. own ∷ w) (sym (drop_whole (walk before t) (k + 1) whole));
    }
  where
    drop_whole : {X : Type 0} (xs : List X) (n : ℕ) → length xs ≡ n → drop n xs ≡ []
    drop_whole xs n long = ap (λ (m : ℕ). drop m xs) (sym long) ∙ all xs
      where
        all : {X : Type 0} (xs : List X) → drop (length xs) xs ≡ []
        all [] = refl
        all (x ∷ xs) = all xs

mutual
  at_tree : (before : Extent) (t : Tree LexemeFacts) (k : ℕ) → k < nodes_in t → IsAt before (flat before t) (walk before t) k
  at_tree before (Leaf x) zero less = record { front = []; node = record { before = before; tree = Leaf x }; is_after = refl; nodes_are = refl; walked = refl }
  at_tree before (Leaf x) (suc k) less = absurd (omega (arith, less))
  at_tree before (Branch p children) k less = elim (cases_lt k (nodes_in_all children)) [
    | inl inner ↦ at_front before (flat_all before children) (FlatBranch p (nodes_in_all children + 1) (tree_span before (Branch p children)) ∷ []) (walk_all before children) ((record { before = before; tree = Branch p children }) ∷ []) k
        (omega (arith, inner, all_length before children)) (walk_all_length before children ∙ sym (all_length before children)) (at_forest before children k inner)
    | inr past ↦ at_own before p children k (omega (arith, past, less))
  ]

  at_forest : (before : Extent) (ts : Forest LexemeFacts) (k : ℕ) → k < nodes_in_all ts → IsAt before (flat_all before ts) (walk_all before ts) k
  at_forest before Nil k less = absurd (omega (arith, less))
  at_forest before (Cons t ts) k less = elim (cases_lt k (nodes_in t)) [
    | inl first ↦ at_front before (flat before t) (flat_all (tree_span before t) ts) (walk before t) (walk_all (tree_span before t) ts) k
        (omega (arith, first, flat_length before t)) (walk_length before t ∙ sym (flat_length before t)) (at_tree before t k first)
    | inr past ↦
        let place : nodes_in t + (k - nodes_in t) ≡ k = omega (arith, past) in
        subst (λ (n : ℕ). IsAt before (flat before t ++ flat_all (tree_span before t) ts) (walk before t ++ walk_all (tree_span before t) ts) n) place
        (at_later before t (flat_all (tree_span before t) ts) (walk_all (tree_span before t) ts) (k - nodes_in t) (at_forest (tree_span before t) ts (k - nodes_in t) (omega (arith, less, past))))
  ]

-- the same of the trees of a list
walk_forest : (before : Extent) (ts : List (Tree LexemeFacts)) → walk_all before (forest_of ts) ≡ walk_list before ts
walk_forest before [] = refl
walk_forest before (t ∷ ts) = ap (λ w. walk before t ++ w) (walk_forest (tree_span before t) ts)

at_list : (before : Extent) (ts : List (Tree LexemeFacts)) (k : ℕ) → k < length (flat_list before ts) → IsAt before (flat_list before ts) (walk_list before ts) k
at_list before ts k less =
    let nodes = flat_forest before ts in
    let long = all_length before (forest_of ts) in
    let same : length (flat_all before (forest_of ts)) ≡ length (flat_list before ts) = ap (λ w. length w) nodes in
    subst (λ (w : List Located). IsAt before (flat_list before ts) w k) (walk_forest before ts)
    (subst (λ (ns : List FlatNode). IsAt before ns (walk_all before (forest_of ts)) k) nodes (at_forest before (forest_of ts) k (omega (arith, less, long, same))))

-- the node at a place of nodes: those up to it are flat, and the walk goes on with it
pub record NodeAt (nodes : List FlatNode) (k : ℕ) : Type 0 where
  pub flat : AreFlat (take (k + 1) nodes)
  pub some : 0 < length (trees_of (take (k + 1) nodes))
  pub walked : drop k (walk_list nowhere (trees_of nodes)) ≡ last_of (take (k + 1) nodes) ∷ drop (k + 1) (walk_list nowhere (trees_of nodes))

pub node_at : (nodes : List FlatNode) (k : ℕ) → AreFlat nodes → k < length nodes → NodeAt nodes k
node_at nodes k are less =
    let trees = trees_of nodes in
    let same : length nodes ≡ length (flat_list nowhere trees) = ap (λ w. length w) are in
    let at = at_list nowhere trees k (omega (arith, less, same)) in
    let all = at.front ++ at.node.tree ∷ [] in
    let of = are_of all (take (k + 1) nodes) (ap (λ w. take (k + 1) w) are ∙ at.nodes_are) in
    let long : length all ≡ length at.front + 1 = length-append at.front (at.node.tree ∷ []) in
    let cut : length all - 1 ≡ length at.front = omega (arith, long) in
    let front : below_top 1 all ≡ at.front = ap (λ (n : ℕ). take n all) cut ∙ take-append_seam at.front (at.node.tree ∷ []) in
    let last : last_of (take (k + 1) nodes) ≡ at.node =
    ap (λ (ts : List (Tree LexemeFacts)). record { before = list_span nowhere (below_top 1 ts); tree = first_tree (reverse ts) }) of.trees_are
    ∙ ap (λ (ts : List (Tree LexemeFacts)). record { before = list_span nowhere ts; tree = first_tree (reverse all) }) front
    ∙ ap (λ (t : Tree LexemeFacts). record { before = list_span nowhere at.front; tree = t }) (last_first at.front at.node.tree)
    ∙ ap (λ (e : Extent). record { before = e; tree = at.node.tree }) (sym at.is_after) in
    let count : length (trees_of (take (k + 1) nodes)) ≡ length all = ap (λ w. length w) of.trees_are in
    record {
      flat = of.flat;
      some = omega (arith, count, long);
      walked = at.walked ∙ ap (λ (l : Located). l ∷ drop (k + 1) (walk_list nowhere trees)) (sym last);
    }

-- at the end nothing is left
pub walk_end : (nodes : List FlatNode) (k : ℕ) → AreFlat nodes → length nodes ≤ k → drop k (walk_list nowhere (trees_of nodes)) ≡ []
walk_end nodes k are past =
    let trees = trees_of nodes in
    let same : length nodes ≡ length (flat_list nowhere trees) = ap (λ w. length w) are in
    let long : length (walk_list nowhere trees) ≡ length (flat_list nowhere trees) =
    ap (λ w. length w) (sym (walk_forest nowhere trees)) ∙ walk_all_length nowhere (forest_of trees) ∙ sym (all_length nowhere (forest_of trees)) ∙ ap (λ w. length w) (flat_forest nowhere trees) in
    drop_of_length-le (walk_list nowhere trees) (omega (arith, same, long, past))

-- the walk of a whole tree
pub walk_whole : (nodes : List FlatNode) → IsFlatTree nodes → drop 0 (walk_list nowhere (trees_of nodes)) ≡ walk nowhere (tree_of nodes)
walk_whole nodes is = ap (λ (ts : List (Tree LexemeFacts)). walk_list nowhere ts) (one_tree nodes is).trees_are ∙ append-nil (walk nowhere (tree_of nodes))
