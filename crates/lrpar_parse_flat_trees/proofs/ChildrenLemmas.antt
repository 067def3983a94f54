-- The children of a node: their places in the list, and how many there are.
use Rattle.std.proofs.Common.{◌≡◌, ◌<◌, ◌≤◌, ◌-◌, ◌+◌, ◌∙◌, ℕ, suc, zero, List, [], ◌∷◌, ◌++◌, inl, inr, length, take, drop, ap, arith, refl, subst, sym}
use Rattle.std.proofs.Math.Seq.{drop-append_seam, take-append_seam}
use Rattle.std.proofs.lemmas.Bool.{cases_lt}
use Rattle.std.proofs.lemmas.List.{append_assoc, length-append, length-take-le, take-append-drop}
use Rattle.lrpar_grammar_places.specs.Facts.{LexemeFacts}
use Rattle.lrpar_grammar_places.specs.Span.{Extent, nowhere}
use Rattle.lrpar_grammar.specs.Tree.{Tree, Forest, Leaf, Branch, Nil, Cons}
use Rattle.lrpar_parse_run.specs.RunStack.{below_top, on_top}
use Rattle.lrpar_parse_flat_trees.specs.Children.{AreLeft, CanCount}
use Rattle.lrpar_parse_flat_trees.specs.Flat.{AreFlat, FlatNode, flat, flat_all, flat_list, list_span, nodes_in, own_node, tree_span, trees_of}
use Rattle.lrpar_parse_flat_trees.specs.Growing.{AreBelow}
use Rattle.lrpar_parse_flat_trees.specs.Located.{Located, children_in, children_of, last_of, list_of, side_by_side}
use Rattle.lrpar_parse_flat_trees.proofs.FlatLemmas.{flat_both, flat_length, inner_nodes, own_is_last}
use Rattle.lrpar_parse_flat_trees.proofs.GrowingLemmas.{AreOf, are_of, last_tree, nodes_some, nodes_split, none_left_out, one_more_out, some_trees}
use Rattle.lrpar_parse_flat_trees.proofs.NodeLemmas.{last_is}

side_length : (before : Extent) (ts : List (Tree LexemeFacts)) → length (side_by_side before ts) ≡ length ts
side_length before [] = refl
side_length before (t ∷ ts) = ap (λ (n : ℕ). suc n) (side_length (tree_span before t) ts)

side_both : (before : Extent) (ts us : List (Tree LexemeFacts)) → side_by_side before (ts ++ us) ≡ side_by_side before ts ++ side_by_side (list_span before ts) us
side_both before [] us = refl
side_both before (t ∷ ts) us = ap (λ w. (record { before = before; tree = t }) ∷ w) (side_both (tree_span before t) ts us)

-- the n + 1 elements on top
top_two : {X : Type 0} (xs ys all : List X) (y : X) (n : ℕ) → all ≡ xs ++ y ∷ ys → length ys ≡ n → on_top (n + 1) all ≡ y ∷ on_top n all
top_two xs ys all y n are long =
    let whole : length all ≡ length xs + suc (length ys) = ap (λ w. length w) are ∙ length-append xs (y ∷ ys) in
    let again : all ≡ (xs ++ y ∷ []) ++ ys = are ∙ sym (append_assoc xs (y ∷ []) ys) in
    let one : length (xs ++ y ∷ []) ≡ length xs + 1 = length-append xs (y ∷ []) in
    let first : length all - (n + 1) ≡ length xs = omega (arith, whole, long) in
    let second : length all - n ≡ length (xs ++ y ∷ []) = omega (arith, whole, long, one) in
    let two : on_top (n + 1) all ≡ y ∷ ys = ap (λ (k : ℕ). drop k all) first ∙ ap (λ w. drop (length xs) w) are ∙ drop-append_seam xs (y ∷ ys) in
    let rest : on_top n all ≡ ys = ap (λ (k : ℕ). drop k all) second ∙ ap (λ w. drop (length (xs ++ y ∷ [])) w) again ∙ drop-append_seam (xs ++ y ∷ []) ys in
    two ∙ ap (λ w. y ∷ w) (sym rest)

-- the elements above a cut
top_all : {X : Type 0} (xs ys all : List X) (n : ℕ) → all ≡ xs ++ ys → length ys ≡ n → on_top n all ≡ ys
top_all xs ys all n are long =
    let whole : length all ≡ length xs + length ys = ap (λ w. length w) are ∙ length-append xs ys in
    let cut : length all - n ≡ length xs = omega (arith, whole, long) in
    ap (λ (k : ℕ). drop k all) cut ∙ ap (λ w. drop (length xs) w) are ∙ drop-append_seam xs ys

-- the first of the trees that are left
pub next_left : (n : ℕ) (nodes rest : List FlatNode) → AreFlat nodes → n < length (trees_of nodes) → AreBelow n nodes rest
    → on_top (n + 1) (side_by_side nowhere (trees_of nodes)) ≡ last_of rest ∷ on_top n (side_by_side nowhere (trees_of nodes))
next_left n nodes rest are within below =
    let trees = trees_of nodes in
    let popped = on_top n trees in
    let long : length (trees_of rest) ≡ length trees - n = ap (λ w. length w) below.trees ∙ length-take-le (length trees - n) trees (omega arith) in
    let some : 0 < length (trees_of rest) = omega (arith, long, within) in
    let last = last_tree rest below.flat some in
    let kept = below_top 1 (trees_of rest) in
    let before = list_span nowhere kept in
    let whole : trees ≡ kept ++ last.tree ∷ popped =
    sym (take-append-drop (length trees - n) trees)
    ∙ ap (λ (ts : List (Tree LexemeFacts)). ts ++ popped) (sym below.trees ∙ last.trees)
    ∙ append_assoc kept (last.tree ∷ []) popped in
    let sides : side_by_side nowhere trees ≡ side_by_side nowhere kept ++ (record { before = before; tree = last.tree }) ∷ side_by_side (tree_span before last.tree) popped =
    ap (λ (ts : List (Tree LexemeFacts)). side_by_side nowhere ts) whole ∙ side_both nowhere kept (last.tree ∷ popped) in
    let all : length trees ≡ length kept + suc (length popped) = ap (λ w. length w) whole ∙ length-append kept (last.tree ∷ popped) in
    let low : length (trees_of rest) ≡ length kept + 1 = ap (λ w. length w) last.trees ∙ length-append kept (last.tree ∷ []) in
    let count : length (side_by_side (tree_span before last.tree) popped) ≡ n = side_length (tree_span before last.tree) popped ∙ omega (arith, all, low, long, within) in
    top_two (side_by_side nowhere kept) (side_by_side (tree_span before last.tree) popped) (side_by_side nowhere trees) (record { before = before; tree = last.tree }) n sides count
    ∙ ap (λ (t : Tree LexemeFacts). (record { before = before; tree = t }) ∷ on_top n (side_by_side nowhere trees)) (sym (last_is rest below.flat some))

-- one tree less has fewer nodes
pub fewer : (nodes rest : List FlatNode) → AreFlat nodes → 0 < length (trees_of nodes) → AreBelow 1 nodes rest → length rest < length nodes
fewer nodes rest are some below =
    let last = last_tree nodes are some in
    let kept = below_top 1 (trees_of nodes) in
    let before = list_span nowhere kept in
    let low : rest ≡ flat_list nowhere kept = below.flat ∙ ap (λ (ts : List (Tree LexemeFacts)). flat_list nowhere ts) below.trees in
    let less : length rest ≡ length (flat_list nowhere kept) = ap (λ w. length w) low in
    let whole : length nodes ≡ length (flat_list nowhere kept) + length (flat before last.tree) = ap (λ w. length w) last.nodes_are ∙ length-append (flat_list nowhere kept) (flat before last.tree) in
    omega (arith, less, whole, flat_length before last.tree, nodes_some last.tree)

-- more trees have no fewer nodes
prefix_nodes : (before : Extent) (ts : List (Tree LexemeFacts)) (m n : ℕ) → m ≤ n → length (flat_list before (take m ts)) ≤ length (flat_list before (take n ts))
prefix_nodes before ts zero n less = omega arith
prefix_nodes before [] (suc m) n less = omega arith
prefix_nodes before (t ∷ ts) (suc m) zero less = absurd (omega (arith, less))
prefix_nodes before (t ∷ ts) (suc m) (suc n) less =
    let rest = prefix_nodes (tree_span before t) ts m n (omega (arith, less)) in
    let one = length-append (flat before t) (flat_list (tree_span before t) (take m ts)) in
    let two = length-append (flat before t) (flat_list (tree_span before t) (take n ts)) in
    omega (arith, rest, one, two)

below_nodes : (n : ℕ) (nodes rest : List FlatNode) → AreBelow n nodes rest → length rest ≡ length (flat_list nowhere (below_top n (trees_of nodes)))
below_nodes n nodes rest below = ap (λ w. length w) (below.flat ∙ ap (λ (ts : List (Tree LexemeFacts)). flat_list nowhere ts) below.trees)

more_out : (i k : ℕ) (nodes r q : List FlatNode) → AreBelow i nodes r → AreBelow k nodes q → i ≤ k → length q ≤ length r
more_out i k nodes r q below_i below_k less =
    let trees = trees_of nodes in
    let prefix = prefix_nodes nowhere trees (length trees - k) (length trees - i) (omega (arith, less)) in
    omega (arith, prefix, below_nodes i nodes r below_i, below_nodes k nodes q below_k)

-- so a longer rest leaves out fewer trees
longer_less : (i k : ℕ) (nodes r q : List FlatNode) → AreBelow i nodes r → AreBelow k nodes q → length q < length r → i < k
longer_less i k nodes r q below_i below_k longer = elim (cases_lt i k) [
  | inl lt ↦ lt
  | inr le ↦ let back = more_out k i nodes q r below_k below_i le in absurd (omega (arith, back, longer))
]

-- one more tree is left out
pub record Counts (first : ℕ) (nodes rest : List FlatNode) (count : ℕ) : Type 0 where
  pub below : AreBelow count nodes rest
  pub within : count ≤ length (trees_of nodes)
  pub few : count + length rest ≤ length nodes
  pub enough : first ≤ length rest

pub counts_more : (first : ℕ) (nodes rest more : List FlatNode) (count : ℕ) → CanCount first nodes → Counts first nodes rest count → first < length rest → AreBelow 1 rest more
    → Counts first nodes more (count + 1)
counts_more first nodes rest more count can counts longer next =
    let trees = trees_of nodes in
    let some : 0 < length (trees_of rest) = some_trees rest counts.below.flat (omega (arith, longer)) in
    let long : length (trees_of rest) ≡ length trees - count = ap (λ w. length w) counts.below.trees ∙ length-take-le (length trees - count) trees (omega arith) in
    let within : count < length trees = omega (arith, long, some) in
    let below = one_more_out count nodes rest more within counts.below next in
    let less = fewer rest more counts.below.flat some next in
    let place : length (take first nodes) ≡ first = length-take-le first nodes can.place in
    let left : count < can.count = longer_less count can.count nodes rest (take first nodes) counts.below can.left.below (omega (arith, place, longer)) in
    let enough = more_out (count + 1) can.count nodes more (take first nodes) below can.left.below (omega (arith, left)) in
    record { below = below; within = omega (arith, within); few = omega (arith, counts.few, less); enough = omega (arith, place, enough) }

-- before the first one none is left out
pub counts_none : (first : ℕ) (nodes : List FlatNode) → AreFlat nodes → CanCount first nodes → Counts first nodes nodes 0
counts_none first nodes are can = record { below = none_left_out nodes are; within = omega arith; few = omega arith; enough = can.place }

-- all are counted
pub counted_all : (first : ℕ) (nodes rest : List FlatNode) (count : ℕ) → AreFlat nodes → Counts first nodes rest count → length rest ≤ first → AreLeft first nodes count
counted_all first nodes rest count are counts short =
    let same : first ≡ length rest = omega (arith, short, counts.enough) in
    let above = flat_list (list_span nowhere (below_top count (trees_of nodes))) (on_top count (trees_of nodes)) in
    let is : take first nodes ≡ rest =
    ap (λ (k : ℕ). take k nodes) same ∙ ap (λ w. take (length rest) w) (nodes_split count nodes rest are counts.below) ∙ take-append_seam rest above in
    record { within = counts.within; below = subst (λ (r : List FlatNode). AreBelow count nodes r) (sym is) counts.below }

-- the nodes below a node are those of its children
list_nodes : (before : Extent) (ts : Forest LexemeFacts) → flat_all before ts ≡ flat_list before (list_of ts)
list_nodes before Nil = refl
list_nodes before (Cons t ts) = ap (λ w. flat before t ++ w) (list_nodes (tree_span before t) ts)

inner_are : (before : Extent) (t : Tree LexemeFacts) → inner_nodes before t ≡ flat_list before (children_in t)
inner_are before (Leaf x) = refl
inner_are before (Branch p children) = list_nodes before children

-- a node's children, in the list without the node
pub record Inner (nodes : List FlatNode) (tree : Tree LexemeFacts) : Type 0 where
  pub all : AreOf (below_top 1 (trees_of nodes) ++ children_in tree) (take (length nodes - 1) nodes)
  pub low : AreOf (below_top 1 (trees_of nodes)) (take (length nodes - nodes_in tree) (take (length nodes - 1) nodes))
  pub fits : nodes_in tree ≤ length nodes
  pub some : 0 < nodes_in tree

inner_by : (nodes : List FlatNode) (are : AreFlat nodes) (some : 0 < length (trees_of nodes)) → Inner nodes (last_tree nodes are some).tree
inner_by nodes are some =
    let last = last_tree nodes are some in
    let kept = below_top 1 (trees_of nodes) in
    let before = list_span nowhere kept in
    let low = flat_list nowhere kept in
    let inner = inner_nodes before last.tree in
    let own = own_node before last.tree in
    let whole : nodes ≡ (low ++ inner) ++ own ∷ [] = last.nodes_are ∙ ap (λ w. low ++ w) (own_is_last before last.tree) ∙ sym (append_assoc low inner (own ∷ [])) in
    let long : length nodes ≡ length (low ++ inner) + 1 = ap (λ w. length w) whole ∙ length-append (low ++ inner) (own ∷ []) in
    let nodes_long : length nodes ≡ length low + length (flat before last.tree) = ap (λ w. length w) last.nodes_are ∙ length-append low (flat before last.tree) in
    let cut : length nodes - 1 ≡ length (low ++ inner) = omega (arith, long) in
    let without : take (length nodes - 1) nodes ≡ low ++ inner = ap (λ (k : ℕ). take k nodes) cut ∙ ap (λ w. take (length (low ++ inner)) w) whole ∙ take-append_seam (low ++ inner) (own ∷ []) in
    let place : length nodes - nodes_in last.tree ≡ length low = omega (arith, nodes_long, flat_length before last.tree) in
    record {
      all = are_of (kept ++ children_in last.tree) (take (length nodes - 1) nodes)
          (without ∙ ap (λ w. low ++ w) (inner_are before last.tree) ∙ sym (flat_both nowhere kept (children_in last.tree)));
      low = are_of kept (take (length nodes - nodes_in last.tree) (take (length nodes - 1) nodes))
          (ap (λ (k : ℕ). take k (take (length nodes - 1) nodes)) place ∙ ap (λ w. take (length low) w) without ∙ take-append_seam low inner);
      fits = omega (arith, nodes_long, flat_length before last.tree);
      some = nodes_some last.tree;
    }

pub inner_of : (nodes : List FlatNode) → AreFlat nodes → 0 < length (trees_of nodes) → Inner nodes (last_of nodes).tree
inner_of nodes are some = subst (λ (t : Tree LexemeFacts). Inner nodes t) (sym (last_is nodes are some)) (inner_by nodes are some)

-- they can be counted
pub can_count : (nodes : List FlatNode) (tree : Tree LexemeFacts) → Inner nodes tree → CanCount (length nodes - nodes_in tree) (take (length nodes - 1) nodes)
can_count nodes tree inner =
    let kept = below_top 1 (trees_of nodes) in
    let all = take (length nodes - 1) nodes in
    let long : length all ≡ length nodes - 1 = length-take-le (length nodes - 1) nodes (omega arith) in
    let count : length (trees_of all) ≡ length kept + length (children_in tree) = ap (λ w. length w) inner.all.trees_are ∙ length-append kept (children_in tree) in
    let cut : length (trees_of all) - length (children_in tree) ≡ length kept = omega (arith, count) in
    let below : below_top (length (children_in tree)) (trees_of all) ≡ kept =
    ap (λ (k : ℕ). take k (trees_of all)) cut ∙ ap (λ w. take (length kept) w) inner.all.trees_are ∙ take-append_seam kept (children_in tree) in
    record {
      place = omega (arith, long, inner.fits, inner.some);
      count = length (children_in tree);
      left = record { within = omega (arith, count); below = record { flat = inner.low.flat; trees = inner.low.trees_are ∙ sym below } };
    }

-- and their number is right
pub children_are : (nodes : List FlatNode) (node : Located) (count : ℕ) → node ≡ last_of nodes → Inner nodes node.tree → AreLeft (length nodes - nodes_in node.tree) (take (length nodes - 1) nodes) count
    → on_top count (side_by_side nowhere (trees_of (take (length nodes - 1) nodes))) ≡ children_of node
children_are nodes node count is inner left =
    let kept = below_top 1 (trees_of nodes) in
    let children = children_in node.tree in
    let all = take (length nodes - 1) nodes in
    let long : length (trees_of all) ≡ length kept + length children = ap (λ w. length w) inner.all.trees_are ∙ length-append kept children in
    let low : length kept ≡ length (trees_of all) - count =
    ap (λ w. length w) (sym inner.low.trees_are ∙ left.below.trees) ∙ length-take-le (length (trees_of all) - count) (trees_of all) (omega arith) in
    let number : length children ≡ count = omega (arith, long, low, left.within) in
    let before : list_span nowhere kept ≡ node.before = sym (ap (λ (l : Located). l.before) is) in
    let sides : side_by_side nowhere (trees_of all) ≡ side_by_side nowhere kept ++ side_by_side (list_span nowhere kept) children =
    ap (λ (ts : List (Tree LexemeFacts)). side_by_side nowhere ts) inner.all.trees_are ∙ side_both nowhere kept children in
    top_all (side_by_side nowhere kept) (side_by_side (list_span nowhere kept) children) (side_by_side nowhere (trees_of all)) count sides
    (side_length (list_span nowhere kept) children ∙ number)
    ∙ ap (λ (e : Extent). side_by_side e children) before
