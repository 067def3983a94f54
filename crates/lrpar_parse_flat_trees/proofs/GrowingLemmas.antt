-- The nodes of trees side by side, when one is added, when some are closed, and when the last are left out.
use Rattle.std.proofs.Common.{◌≡◌, ◌≤◌, ◌<◌, ◌-◌, ◌+◌, ◌∙◌, ℕ, suc, zero, List, [], ◌∷◌, ◌++◌, length, take, ap, arith, refl, subst, sym}
use Rattle.std.specs.Prelude.{get_or}
use Rattle.std.proofs.Math.Seq.{get_or-append_seam, take-append_seam, take-length}
use Rattle.std.proofs.lemmas.List.{append_assoc, append-nil, length-append, length-take-le, take-append-drop}
use Rattle.lrpar_grammar_places.specs.Facts.{LexemeFacts}
use Rattle.lrpar_grammar_places.specs.Span.{Extent, nowhere}
use Rattle.lrpar_grammar.specs.Tree.{Tree, Leaf, Branch}
use Rattle.lrpar_parse_lexemes.specs.PlacedSpans.{Rise, last_part, span_over}
use Rattle.lrpar_parse_run.specs.RunStack.{below_top, on_top}
use Rattle.lrpar_parse_flat_trees.specs.Flat.{AreFlat, FlatBranch, FlatLeaf, FlatNode, count_of, flat, flat_all, flat_list, forest_of, list_span, nodes_in, nodes_in_all, own_node, span_of, tree_span, trees_of}
use Rattle.lrpar_parse_lexemes.specs.RisingSpans.{last_start, rise_back}
use Rattle.lrpar_parse_flat_trees.specs.Growing.{AreBelow, IsSpanAfter, TreesRise, list_spans}
use Rattle.lrpar_parse_flat_trees.specs.FlatLaws.{trees_back}
use Rattle.lrpar_parse_flat_trees.specs.TreesRising.{last_part_is, list_spans_both, span_over_trees}
use Rattle.lrpar_parse_flat_trees.proofs.FlatLemmas.{all_length, first_starts, flat_both, flat_forest, flat_length, inner_nodes, list_span_both, own_count, own_is_last, own_span}

-- nodes of these trees are flat, and give these trees
pub record AreOf (trees : List (Tree LexemeFacts)) (nodes : List FlatNode) : Type 0 where
  pub flat : AreFlat nodes
  pub trees_are : trees_of nodes ≡ trees

pub are_of : (trees : List (Tree LexemeFacts)) (nodes : List FlatNode) → nodes ≡ flat_list nowhere trees → AreOf trees nodes
are_of trees nodes is =
    let back : trees_of nodes ≡ trees = ap (λ (ns : List FlatNode). trees_of ns) is ∙ trees_back nowhere trees in
    record { flat = is ∙ sym (ap (λ (ts : List (Tree LexemeFacts)). flat_list nowhere ts) back); trees_are = back }

-- a tree has a node
pub nodes_some : (t : Tree LexemeFacts) → 0 < nodes_in t
nodes_some (Leaf x) = omega arith
nodes_some (Branch p children) = omega arith

-- nodes are those of some trees
some_trees_of : (before : Extent) (ts : List (Tree LexemeFacts)) → 0 < length (flat_list before ts) → 0 < length ts
some_trees_of before [] some = some
some_trees_of before (t ∷ ts) some = omega arith

pub some_trees : (nodes : List FlatNode) → AreFlat nodes → 0 < length nodes → 0 < length (trees_of nodes)
some_trees nodes are some = some_trees_of nowhere (trees_of nodes) (subst (λ (ns : List FlatNode). 0 < length ns) are some)

-- one tree more
flat_one_more : (nodes : List FlatNode) (t : Tree LexemeFacts) → AreFlat nodes → nodes ++ flat (list_span nowhere (trees_of nodes)) t ≡ flat_list nowhere (trees_of nodes ++ t ∷ [])
flat_one_more nodes t are =
    let trees = trees_of nodes in
    let before = list_span nowhere trees in
    ap (λ (ns : List FlatNode). ns ++ flat before t) are
    ∙ ap (λ (ns : List FlatNode). flat_list nowhere trees ++ ns) (sym (append-nil (flat before t)))
    ∙ sym (flat_both nowhere trees (t ∷ []))

pub leaf_added : (nodes : List FlatNode) (x : LexemeFacts) → AreFlat nodes → AreOf (trees_of nodes ++ Leaf x ∷ []) (nodes ++ FlatLeaf x ∷ [])
leaf_added nodes x are = are_of (trees_of nodes ++ Leaf x ∷ []) (nodes ++ FlatLeaf x ∷ []) (flat_one_more nodes (Leaf x) are)

-- the nodes after those of the trees below the n last ones
pub nodes_split : (n : ℕ) (nodes rest : List FlatNode) → AreFlat nodes → AreBelow n nodes rest
    → nodes ≡ rest ++ flat_list (list_span nowhere (below_top n (trees_of nodes))) (on_top n (trees_of nodes))
nodes_split n nodes rest are below =
    let trees = trees_of nodes in
    let kept = below_top n trees in
    let popped = on_top n trees in
    let whole : kept ++ popped ≡ trees = take-append-drop (length trees - n) trees in
    let low : rest ≡ flat_list nowhere kept = below.flat ∙ ap (λ (ts : List (Tree LexemeFacts)). flat_list nowhere ts) below.trees in
    are ∙ ap (λ (ts : List (Tree LexemeFacts)). flat_list nowhere ts) (sym whole) ∙ flat_both nowhere kept popped
    ∙ ap (λ (ns : List FlatNode). ns ++ flat_list (list_span nowhere kept) popped) (sym low)

-- how many these are
pub nodes_above : (n : ℕ) (nodes rest : List FlatNode) → AreFlat nodes → AreBelow n nodes rest
    → length nodes ≡ length rest + nodes_in_all (forest_of (on_top n (trees_of nodes)))
nodes_above n nodes rest are below =
    let popped = on_top n (trees_of nodes) in
    let before = list_span nowhere (below_top n (trees_of nodes)) in
    ap (λ (ns : List FlatNode). length ns) (nodes_split n nodes rest are below)
    ∙ length-append rest (flat_list before popped)
    ∙ ap (λ (k : ℕ). length rest + k) (ap (λ (ns : List FlatNode). length ns) (sym (flat_forest before popped)) ∙ all_length before (forest_of popped))

-- the n last trees become the children of a node
pub closed : (n p : ℕ) (nodes rest : List FlatNode) (span : Extent) (count : ℕ) → AreFlat nodes → AreBelow n nodes rest
    → span ≡ tree_span (list_span nowhere (below_top n (trees_of nodes))) (Branch p (forest_of (on_top n (trees_of nodes))))
    → count ≡ length nodes - length rest
    → AreOf (below_top n (trees_of nodes) ++ Branch p (forest_of (on_top n (trees_of nodes))) ∷ []) (nodes ++ FlatBranch p (count + 1) span ∷ [])
closed n p nodes rest span count are below lies number =
    let kept = below_top n (trees_of nodes) in
    let popped = on_top n (trees_of nodes) in
    let before = list_span nowhere kept in
    let t = Branch p (forest_of popped) in
    let many = nodes_above n nodes rest are below in
    let counted : count ≡ nodes_in_all (forest_of popped) = omega (arith, many, number) in
    let own : FlatBranch p (count + 1) span ≡ FlatBranch p (nodes_in_all (forest_of popped) + 1) (tree_span before t) =
    ap (λ (k : ℕ). FlatBranch p (k + 1) span) counted ∙ ap (λ (s : Extent). FlatBranch p (nodes_in_all (forest_of popped) + 1) s) lies in
    let low : rest ≡ flat_list nowhere kept = below.flat ∙ ap (λ (ts : List (Tree LexemeFacts)). flat_list nowhere ts) below.trees in
    let all : nodes ≡ flat_list nowhere kept ++ flat_all before (forest_of popped) =
    nodes_split n nodes rest are below
    ∙ ap (λ (ns : List FlatNode). ns ++ flat_list before popped) low
    ∙ ap (λ (ns : List FlatNode). flat_list nowhere kept ++ ns) (sym (flat_forest before popped)) in
    are_of (kept ++ t ∷ []) (nodes ++ FlatBranch p (count + 1) span ∷ [])
    (ap (λ (ns : List FlatNode). ns ++ FlatBranch p (count + 1) span ∷ []) all
    ∙ ap (λ (node : FlatNode). (flat_list nowhere kept ++ flat_all before (forest_of popped)) ++ node ∷ []) own
    ∙ append_assoc (flat_list nowhere kept) (flat_all before (forest_of popped)) (FlatBranch p (nodes_in_all (forest_of popped) + 1) (tree_span before t) ∷ [])
    ∙ ap (λ (ns : List FlatNode). flat_list nowhere kept ++ ns) (sym (append-nil (flat before t)))
    ∙ sym (flat_both nowhere kept (t ∷ [])))

-- a list with an element has a last one
pub record EndsIn {X : Type 0} (xs : List X) : Type 0 where
  pub last : X
  pub are : xs ≡ take (length xs - 1) xs ++ last ∷ []

pub ends_in : {X : Type 0} (xs : List X) → 0 < length xs → EndsIn xs
ends_in [] some = absurd (omega (arith, some))
ends_in (x ∷ []) some = record { last = x; are = refl }
ends_in (x ∷ y ∷ ys) some =
    let rest = ends_in (y ∷ ys) (omega arith) in
    let more : length (x ∷ y ∷ ys) - 1 ≡ suc (length (y ∷ ys) - 1) = omega arith in
    record {
      last = rest.last;
      are = ap (λ w. x ∷ w) rest.are ∙ ap (λ (k : ℕ). take k (x ∷ y ∷ ys) ++ rest.last ∷ []) (sym more);
    }

-- what is read in a list at the place where it is cut
pub read_there : {X : Type 0} (xs ys all : List X) (y x : X) (i : ℕ) → all ≡ xs ++ y ∷ ys → i ≡ length xs → x ≡ get_or all i x → x ≡ y
read_there xs ys all y x i are at read =
    read ∙ ap (λ w. get_or w i x) are ∙ ap (λ (k : ℕ). get_or (xs ++ y ∷ ys) k x) at ∙ get_or-append_seam xs y ys x

-- the last tree, and its own node
pub record LastTree (nodes : List FlatNode) : Type 0 where
  pub tree : Tree LexemeFacts
  pub trees : trees_of nodes ≡ below_top 1 (trees_of nodes) ++ tree ∷ []
  pub nodes_are : nodes ≡ flat_list nowhere (below_top 1 (trees_of nodes)) ++ flat (list_span nowhere (below_top 1 (trees_of nodes))) tree

pub last_tree : (nodes : List FlatNode) → AreFlat nodes → 0 < length (trees_of nodes) → LastTree nodes
last_tree nodes are some =
    let ends = ends_in (trees_of nodes) some in
    let kept = below_top 1 (trees_of nodes) in
    record {
      tree = ends.last;
      trees = ends.are;
      nodes_are = are ∙ ap (λ (ts : List (Tree LexemeFacts)). flat_list nowhere ts) ends.are ∙ flat_both nowhere kept (ends.last ∷ [])
          ∙ ap (λ (ns : List FlatNode). flat_list nowhere kept ++ ns) (append-nil (flat (list_span nowhere kept) ends.last));
    }

-- what is read as the last node is the own node of the last tree
pub last_read : (nodes : List FlatNode) (x : FlatNode) (are : AreFlat nodes) (some : 0 < length (trees_of nodes)) → x ≡ get_or nodes (length nodes - 1) x
    → x ≡ own_node (list_span nowhere (below_top 1 (trees_of nodes))) (last_tree nodes are some).tree
last_read nodes x are some read =
    let last = last_tree nodes are some in
    let before = list_span nowhere (below_top 1 (trees_of nodes)) in
    let low = flat_list nowhere (below_top 1 (trees_of nodes)) in
    let inner = inner_nodes before last.tree in
    let own = own_node before last.tree in
    let all : nodes ≡ (low ++ inner) ++ own ∷ [] =
    last.nodes_are ∙ ap (λ (ns : List FlatNode). low ++ ns) (own_is_last before last.tree) ∙ sym (append_assoc low inner (own ∷ [])) in
    let long : length nodes ≡ length (low ++ inner) + 1 = ap (λ (ns : List FlatNode). length ns) all ∙ length-append (low ++ inner) (own ∷ []) in
    read_there (low ++ inner) [] nodes own x (length nodes - 1) all (omega (arith, long)) read

-- so many nodes of a list as there are before the last tree are those of the other trees
pub left_out : (nodes : List FlatNode) (are : AreFlat nodes) (some : 0 < length (trees_of nodes)) (n : ℕ)
    → n ≡ nodes_in (last_tree nodes are some).tree → AreBelow 1 nodes (take (length nodes - n) nodes)
left_out nodes are some n number =
    let last = last_tree nodes are some in
    let kept = below_top 1 (trees_of nodes) in
    let before = list_span nowhere kept in
    let low = flat_list nowhere kept in
    let long : length nodes ≡ length low + length (flat before last.tree) = ap (λ (ns : List FlatNode). length ns) last.nodes_are ∙ length-append low (flat before last.tree) in
    let cut : length nodes - n ≡ length low = omega (arith, long, number, flat_length before last.tree) in
    let is : take (length nodes - n) nodes ≡ low =
    ap (λ (k : ℕ). take k nodes) cut ∙ ap (λ (ns : List FlatNode). take (length low) ns) last.nodes_are ∙ take-append_seam low (flat before last.tree) in
    let of = are_of kept (take (length nodes - n) nodes) is in
    record { flat = of.flat; trees = of.trees_are }

-- none is left out
pub none_left_out : (nodes : List FlatNode) → AreFlat nodes → AreBelow 0 nodes nodes
none_left_out nodes are =
    let all : length (trees_of nodes) ≡ length (trees_of nodes) - 0 = omega arith in
    record { flat = are; trees = sym (take-length (trees_of nodes)) ∙ ap (λ (k : ℕ). take k (trees_of nodes)) all }

-- after n trees one more is left out
take_less : {X : Type 0} (xs : List X) (k m : ℕ) → k ≤ m → take k (take m xs) ≡ take k xs
take_less xs zero m less = refl
take_less [] (suc k) zero less = refl
take_less [] (suc k) (suc m) less = refl
take_less (x ∷ xs) (suc k) zero less = absurd (omega (arith, less))
take_less (x ∷ xs) (suc k) (suc m) less = ap (λ w. x ∷ w) (take_less xs k m (omega (arith, less)))

pub one_more_out : (n : ℕ) (nodes rest more : List FlatNode) → n < length (trees_of nodes) → AreBelow n nodes rest → AreBelow 1 rest more → AreBelow (n + 1) nodes more
one_more_out n nodes rest more within below next =
    let trees = trees_of nodes in
    let long : length (trees_of rest) ≡ length trees - n = ap (λ w. length w) below.trees ∙ length-take-le (length trees - n) trees (omega arith) in
    let count : length (trees_of rest) - 1 ≡ length trees - (n + 1) = omega (arith, long, within) in
    record {
      flat = next.flat;
      trees = next.trees ∙ ap (λ (k : ℕ). take k (trees_of rest)) count ∙ ap (λ w. take (length trees - (n + 1)) w) below.trees
          ∙ take_less trees (length trees - (n + 1)) (length trees - n) (omega arith);
    }

-- there is a tree left
pub some_left : (n : ℕ) (nodes rest : List FlatNode) → n < length (trees_of nodes) → AreBelow n nodes rest → 0 < length (trees_of rest)
some_left n nodes rest within below =
    let trees = trees_of nodes in
    let long : length (trees_of rest) ≡ length trees - n = ap (λ w. length w) below.trees ∙ length-take-le (length trees - n) trees (omega arith) in
    omega (arith, long, within)

-- the last tree has no more nodes than there are
pub last_fits : (nodes : List FlatNode) (are : AreFlat nodes) (some : 0 < length (trees_of nodes)) (n : ℕ) → n ≡ nodes_in (last_tree nodes are some).tree → n ≤ length nodes
last_fits nodes are some n number =
    let last = last_tree nodes are some in
    let kept = below_top 1 (trees_of nodes) in
    let before = list_span nowhere kept in
    let low = flat_list nowhere kept in
    let long : length nodes ≡ length low + length (flat before last.tree) = ap (λ (ns : List FlatNode). length ns) last.nodes_are ∙ length-append low (flat before last.tree) in
    omega (arith, long, number, flat_length before last.tree)

pub spans_above : (n : ℕ) (trees : List (Tree LexemeFacts)) (high : ℕ) → TreesRise trees high
    → Rise (last_start 0 (list_spans nowhere (below_top n trees))) (list_spans (list_span nowhere (below_top n trees)) (on_top n trees)) high
spans_above n trees high rise =
    let kept = below_top n trees in
    let popped = on_top n trees in
    let whole : trees ≡ kept ++ popped = sym (take-append-drop (length trees - n) trees) in
    rise_back 0 (list_spans nowhere kept) (list_spans (list_span nowhere kept) popped) high
    (subst (λ (es : List Extent). Rise 0 es high) (ap (λ (ts : List (Tree LexemeFacts)). list_spans nowhere ts) whole ∙ list_spans_both nowhere kept popped) rise)

-- the last part starts no earlier than the first
last_starts_later : (low : ℕ) (first : Extent) (others : List Extent) (high : ℕ) → Rise low (first ∷ others) high → first.start ≤ (last_part first others).start
last_starts_later low first [] high rise = omega arith
last_starts_later low first (next ∷ others) high rise =
    let more = last_starts_later first.start next others high rise.1 in
    let here : first.start ≤ next.start = rise.1.0 in
    omega (arith, more, here)

-- the span of the last node of trees
pub last_node_span : (nodes : List FlatNode) (x : FlatNode) → AreFlat nodes → 0 < length (trees_of nodes) → x ≡ get_or nodes (length nodes - 1) x → span_of x ≡ list_span nowhere (trees_of nodes)
last_node_span nodes x are some read =
    let last = last_tree nodes are some in
    let kept = below_top 1 (trees_of nodes) in
    let before = list_span nowhere kept in
    ap (λ node. span_of node) (last_read nodes x are some read) ∙ own_span before last.tree
    ∙ sym (ap (λ (ts : List (Tree LexemeFacts)). list_span nowhere ts) last.trees ∙ list_span_both nowhere kept (last.tree ∷ []))

-- the number that is read in the last node is that of the last tree
pub count_read : (nodes : List FlatNode) (x : FlatNode) (n : ℕ) (are : AreFlat nodes) (some : 0 < length (trees_of nodes)) → x ≡ get_or nodes (length nodes - 1) x → n ≡ count_of x
    → n ≡ nodes_in (last_tree nodes are some).tree
count_read nodes x n are some read number =
    number ∙ ap (λ node. count_of node) (last_read nodes x are some read)
    ∙ own_count (list_span nowhere (below_top 1 (trees_of nodes))) (last_tree nodes are some).tree

-- no nodes are those of no trees
no_trees : (before : Extent) (ts : List (Tree LexemeFacts)) → length (flat_list before ts) ≡ 0 → ts ≡ []
no_trees before [] none = refl
no_trees before (t ∷ ts) none =
    let long = length-append (flat before t) (flat_list (tree_span before t) ts) in
    let some = nodes_some t in
    absurd (omega (arith, long, some, none, flat_length before t))

-- The span of a node over trees by what is read of the nodes: there are none of these trees, and it is the span before them; or it is from
-- the start of the first node to the end of the last one, which starts no earlier.
pub record SpanRead (before : Extent) (ts : List (Tree LexemeFacts)) (first last : Extent) : Type 0 where
  pub start : (span_over before (list_spans before ts)).start ≡ first.start
  pub end : (span_over before (list_spans before ts)).end ≡ last.end
  pub later : first.start ≤ last.start

-- of trees, of which there is one
some_read : (before : Extent) (ts : List (Tree LexemeFacts)) (low high : ℕ) (rest nodes : List FlatNode) (first last : FlatNode)
    → nodes ≡ rest ++ flat_list before ts → Rise low (list_spans before ts) high → length rest < length nodes
    → first ≡ get_or nodes (length rest) first → span_of last ≡ list_span before ts → SpanRead before ts (span_of first) (span_of last)
some_read before [] low high rest nodes first last are rise more read end =
    absurd (omega (arith, more, ap (λ (ns : List FlatNode). length ns) are ∙ length-append rest []))
some_read before (t ∷ ts) low high rest nodes first last are rise more read end =
    let starts = first_starts before t in
    let after = flat_list (tree_span before t) ts in
    let all : nodes ≡ rest ++ starts.first ∷ (starts.others ++ after) = are ∙ ap (λ (ns : List FlatNode). rest ++ (ns ++ after)) starts.are in
    let is : first ≡ starts.first = read_there rest (starts.others ++ after) nodes starts.first first (length rest) all refl read in
    let start : (tree_span before t).start ≡ (span_of first).start = sym (ap (λ node. (span_of node).start) is ∙ starts.starts) in
    let last_is : last_part (tree_span before t) (list_spans (tree_span before t) ts) ≡ span_of last = last_part_is (tree_span before t) ts ∙ sym end in
    let later = last_starts_later low (tree_span before t) (list_spans (tree_span before t) ts) high rise in
    let at : (last_part (tree_span before t) (list_spans (tree_span before t) ts)).start ≡ (span_of last).start = ap (λ (e : Extent). e.start) last_is in
    record {
      start = start;
      end = ap (λ (e : Extent). e.end) last_is;
      later = omega (arith, start, later, at);
    }

pub span_read : (n high : ℕ) (nodes rest : List FlatNode) (first last : FlatNode) → AreFlat nodes → AreBelow n nodes rest → TreesRise (trees_of nodes) high
    → length rest < length nodes → first ≡ get_or nodes (length rest) first → last ≡ get_or nodes (length nodes - 1) last
    → SpanRead (list_span nowhere (below_top n (trees_of nodes))) (on_top n (trees_of nodes)) (span_of first) (span_of last)
span_read n high nodes rest first last are below rise more read_first read_last =
    let trees = trees_of nodes in
    let kept = below_top n trees in
    let popped = on_top n trees in
    let whole : trees ≡ kept ++ popped = sym (take-append-drop (length trees - n) trees) in
    let some : 0 < length trees = some_trees nodes are (omega (arith, more)) in
    let end : span_of last ≡ list_span (list_span nowhere kept) popped =
    last_node_span nodes last are some read_last ∙ ap (λ (ts : List (Tree LexemeFacts)). list_span nowhere ts) whole ∙ list_span_both nowhere kept popped in
    some_read (list_span nowhere kept) popped (last_start 0 (list_spans nowhere kept)) high rest nodes first last
    (nodes_split n nodes rest are below) (spans_above n trees high rise) more read_first end

-- without nodes of the last trees there are none
pub none_read : (n : ℕ) (nodes rest : List FlatNode) → AreFlat nodes → AreBelow n nodes rest → length nodes ≤ length rest → on_top n (trees_of nodes) ≡ []
none_read n nodes rest are below no_more =
    let before = list_span nowhere (below_top n (trees_of nodes)) in
    let popped = on_top n (trees_of nodes) in
    let long : length nodes ≡ length rest + length (flat_list before popped) =
    ap (λ (ns : List FlatNode). length ns) (nodes_split n nodes rest are below) ∙ length-append rest (flat_list before popped) in
    no_trees before popped (omega (arith, long, no_more))

-- then the span is that before them
pub span_before_none : (n : ℕ) (nodes rest : List FlatNode) → AreFlat nodes → AreBelow n nodes rest → length nodes ≤ length rest → IsSpanAfter n nodes (list_span nowhere (trees_of rest))
span_before_none n nodes rest are below no_more =
    let before = list_span nowhere (below_top n (trees_of nodes)) in
    ap (λ (ts : List (Tree LexemeFacts)). list_span nowhere ts) below.trees
    ∙ sym (ap (λ (ts : List (Tree LexemeFacts)). span_over before (list_spans before ts)) (none_read n nodes rest are below no_more))

-- parts with the same ends are the same
pub same_extent : (a b : Extent) → a.start ≡ b.start → a.end ≡ b.end → a ≡ b
same_extent a b start end =
    let first : a ≡ record { start = b.start; end = a.end } = ap (λ (n : ℕ). record { start = n; end = a.end }) start in
    first ∙ ap (λ (n : ℕ). record { start = b.start; end = n }) end

-- the n last trees become the children of a node, by what is known of its parts
pub closed_by : (n p : ℕ) (nodes rest : List FlatNode) (span : Extent) (len : ℕ) → AreFlat nodes → AreBelow n nodes rest → IsSpanAfter n nodes span → len ≡ length nodes
    → AreOf (below_top n (trees_of nodes) ++ Branch p (forest_of (on_top n (trees_of nodes))) ∷ []) (nodes ++ FlatBranch p ((len - length rest) + 1) span ∷ [])
closed_by n p nodes rest span len are below lies long =
    let popped = on_top n (trees_of nodes) in
    closed n p nodes rest span (len - length rest) are below (lies ∙ span_over_trees (list_span nowhere (below_top n (trees_of nodes))) p popped) (ap (λ (k : ℕ). k - length rest) long)
