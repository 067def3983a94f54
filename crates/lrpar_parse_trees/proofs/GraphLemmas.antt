-- What is left to write of a tree as a graph, by what a loop has left: the current trees, and those of each level above.
use denote.Ref.{Bor}
use Rattle.std.proofs.Common.{◌≡◌, ℕ, ◌+◌, ◌<◌, List, [], ◌∷◌, ◌++◌, Option, codes, map, subst, refl, ap, sym, ◌∙◌, add-zero, arith, append_assoc, append-nil, sum_by}
use Rattle.std.proofs.lemmas.List.Sums.{sum_by-cons}
use Rattle.std.specs.Io.KnownBytes.{Appends}
use Rattle.lrpar_grammar.specs.Grammar.{Grammar}
use Rattle.lrpar_grammar.specs.Sentence.{LexemeFacts}
use Rattle.lrpar_parse_trees.specs.declared.node.Node.{Node}
use Rattle.lrpar_parse_trees.specs.declared.node.Node.TheOpen.{Node-F}
use Rattle.lrpar_parse_trees.specs.declared.node.Node.TheViews.{out-Node}
use Rattle.lrpar_parse_trees.specs.declared.node.Node.TheFolds.{fold_out-Node, map-Node}
use Rattle.lrpar_parse_trees.specs.Walks.{children, layer_children}
use Rattle.lrpar_parse_trees.proofs.WriteLemmas.{appends_both}
use Rattle.lrpar_parse_trees.specs.Graph.{Drawn, drawn, drawn_step, edge_line, graph_text}
use Rattle.lrpar_parse_trees.specs.Lines.{layer_line, node_line, trees_lines}
use Rattle.lrpar_parse_trees.proofs.NestedLemmas.{enter_smaller, left_measure, turn_smaller}

regroup : (a b c d e : List ℕ) → a ++ (b ++ (c ++ (d ++ e))) ≡ (((a ++ b) ++ c) ++ d) ++ e
regroup a b c d e = simp append_assoc

joined : (a b c d : List ℕ) → a ++ (b ++ (c ++ d)) ≡ (a ++ (b ++ c)) ++ d
joined a b c d = simp append_assoc

module _ {X S : Type 0} (facts : X → LexemeFacts) (index : S → ℕ) (g : Grammar) (input : List ℕ) where
  abbrev pub draw : Node X S → Drawn
  draw = drawn facts index g input

  -- how many nodes trees have
  abbrev pub count : List (Node X S) → ℕ
  count nodes = sum_by (λ (tree : Drawn). tree.nodes) (map draw nodes)

  abbrev pub below : ℕ → ℕ → List (Node X S) → List ℕ
  below parent next nodes = trees_lines facts index g input parent next nodes

  abbrev pub line : ℕ → Node X S → List ℕ
  line number node = node_line facts index g input number node

  layer_lines : (number : ℕ) (edge : List ℕ) (layer : Node-F X S (Node X S))
      → (drawn_step facts index g input (map-Node X S (Node X S) Drawn draw layer)).lines number edge
      ≡ layer_line facts index g input number layer ++ edge ++ below number (number + 1) (layer_children layer)
  layer_lines number edge (Node-F.Term x) = sym (append-nil _)
  layer_lines number edge (Node-F.Nonterm ridx nodes) = refl

  layer_count : (layer : Node-F X S (Node X S))
      → (drawn_step facts index g input (map-Node X S (Node X S) Drawn draw layer)).nodes ≡ 1 + count (layer_children layer)
  layer_count (Node-F.Term x) = refl
  layer_count (Node-F.Nonterm ridx nodes) = refl

  -- the lines of a tree: its root's, that of the edge to it, and those below it
  pub lines_out : (number : ℕ) (edge : List ℕ) (node : Node X S)
      → (draw node).lines number edge ≡ line number node ++ edge ++ below number (number + 1) (children node)
  lines_out number edge node =
      ap (λ (d : Drawn). d.lines number edge) (fold_out-Node X S Drawn (drawn_step facts index g input) node)
      ∙ layer_lines number edge (out-Node X S node)

  count_out : (node : Node X S) → (draw node).nodes ≡ 1 + count (children node)
  count_out node =
      ap (λ (d : Drawn). d.nodes) (fold_out-Node X S Drawn (drawn_step facts index g input) node) ∙ layer_count (out-Node X S node)

  -- how many nodes are left of the levels above
  abbrev pub counts : List (ℕ × Bor (List (Node X S))) → ℕ
  counts [] = 0
  counts (aside ∷ above) = counts above + count aside.1.now

  counts_push : (above : List (ℕ × Bor (List (Node X S)))) (aside : ℕ × Bor (List (Node X S)))
      → counts (above ++ aside ∷ []) ≡ count aside.1.now + counts above
  counts_push [] aside = omega arith
  counts_push (a ∷ above) aside = omega (arith, counts_push above aside)

  -- the lines that are left of the levels above, the highest last, of which the first node has this number
  abbrev pub later : List (ℕ × Bor (List (Node X S))) → ℕ → List ℕ
  later [] next = []
  later (aside ∷ above) next = later above next ++ below aside.0 (next + counts above) aside.1.now

  later_push : (above : List (ℕ × Bor (List (Node X S)))) (aside : ℕ × Bor (List (Node X S))) (next : ℕ)
      → later (above ++ aside ∷ []) next ≡ below aside.0 next aside.1.now ++ later above (next + count aside.1.now)
  later_push [] aside next = ap (λ n. below aside.0 n aside.1.now) (add-zero next) ∙ sym (append-nil (below aside.0 next aside.1.now))
  later_push (a ∷ above) aside next =
      let inner = below aside.0 next aside.1.now in
      let rest = later above (next + count aside.1.now) in
      let number : next + counts (above ++ aside ∷ []) ≡ (next + count aside.1.now) + counts above = omega (arith, counts_push above aside) in
      ap (λ l. l ++ below a.0 (next + counts (above ++ aside ∷ [])) a.1.now) (later_push above aside next)
      ∙ ap (λ n. (inner ++ rest) ++ below a.0 n a.1.now) number
      ∙ append_assoc inner rest (below a.0 ((next + count aside.1.now) + counts above) a.1.now)

  -- all that is left, with current trees, of which the first one's root has the number `next`
  abbrev pub left_lines : ℕ → ℕ → List (ℕ × Bor (List (Node X S))) → List (Node X S) → List ℕ
  left_lines parent next above left = below parent next left ++ later above (next + count left)

  -- the first of the current trees is entered, and the others are put aside
  pub left_enter : (parent next : ℕ) (above : List (ℕ × Bor (List (Node X S)))) (rest : Bor (List (Node X S))) (node : Node X S) (left : List (Node X S))
      → left ≡ node ∷ rest.now
      → line next node ++ (edge_line parent next ++ left_lines next (next + 1) (above ++ (parent, rest) ∷ []) (children node))
      ≡ left_lines parent next above left
  left_enter parent next above rest node left is =
      let edge = edge_line parent next in
      let inside = below next (next + 1) (children node) in
      let after : ℕ → List ℕ = λ n. below parent n rest.now ++ later above (n + count rest.now) in
      let number : (next + 1) + count (children node) ≡ next + (draw node).nodes = omega (arith, count_out node) in
      let whole : count (node ∷ rest.now) ≡ (draw node).nodes + count rest.now = sum_by-cons (λ (tree : Drawn). tree.nodes) (draw node) (map draw rest.now) in
      let sum : (next + (draw node).nodes) + count rest.now ≡ next + count (node ∷ rest.now) = omega arith in
      ap (λ l. line next node ++ (edge ++ (inside ++ l))) (later_push above (parent, rest) ((next + 1) + count (children node)))
      ∙ ap (λ n. line next node ++ (edge ++ (inside ++ after n))) number
      ∙ regroup (line next node) edge inside (below parent (next + (draw node).nodes) rest.now) (later above ((next + (draw node).nodes) + count rest.now))
      ∙ ap (λ l. (l ++ below parent (next + (draw node).nodes) rest.now) ++ later above ((next + (draw node).nodes) + count rest.now)) (sym (lines_out next edge node))
      ∙ ap (λ n. below parent next (node ∷ rest.now) ++ later above n) sum
      ∙ ap (left_lines parent next above) (sym is)

  -- no current tree is left, and those that were put aside last are taken again
  pub left_turn : (parent next : ℕ) (above : List (ℕ × Bor (List (Node X S)))) (aside : ℕ × Bor (List (Node X S)))
      → left_lines aside.0 next above aside.1.now ≡ left_lines parent next (above ++ aside ∷ []) []
  left_turn parent next above aside =
      ap (λ n. below aside.0 n aside.1.now ++ later above (n + count aside.1.now)) (sym (add-zero next)) ∙ sym (later_push above aside (next + 0))

  -- at first all trees below the root are left
  pub left_begins : (nodes : List (Node X S)) → left_lines 0 1 [] nodes ≡ below 0 1 nodes
  left_begins nodes = append-nil (below 0 1 nodes)

  -- the lines of a tree whose root has the number 0
  pub root_lines : (tree : Node X S) → line 0 tree ++ below 0 1 (children tree) ≡ (draw tree).lines 0 []
  root_lines tree = ap (λ l. l ++ below 0 1 (children tree)) (sym (append-nil (line 0 tree))) ∙ sym (lines_out 0 [] tree)

  -- the text of a graph: its first line, that of the root, those of the trees below the root, and the last line
  pub graph_appends : (old first second third new : Option (List ℕ)) (tree : Node X S)
      → Appends old first (codes "digraph tree {\n") → Appends first second (line 0 tree) → Appends second third (below 0 1 (children tree))
      → Appends third new (codes "}\n") → Appends old new (graph_text facts index g input tree)
  graph_appends old first second third new tree begun root trees ended =
      let head = codes "digraph tree {\n" in
      let end = codes "}\n" in
      let inside = below 0 1 (children tree) in
      subst (Appends old new) (joined head (line 0 tree) inside end ∙ ap (λ l. (head ++ l) ++ end) (root_lines tree))
      (appends_both old first new head (line 0 tree ++ (inside ++ end)) begun
      (appends_both first second new (line 0 tree) (inside ++ end) root
      (appends_both second third new inside end trees ended)))

-- the trees that were put aside, without the numbers of their parents
abbrev pub rests : {X S : Type 0} → List (ℕ × Bor (List (Node X S))) → List (Bor (List (Node X S)))
rests [] = []
rests (aside ∷ above) = aside.1 ∷ rests above

rests_push : {X S : Type 0} (above : List (ℕ × Bor (List (Node X S)))) (aside : ℕ × Bor (List (Node X S)))
    → rests (above ++ aside ∷ []) ≡ rests above ++ aside.1 ∷ []
rests_push [] aside = refl
rests_push (a ∷ above) aside = ap (λ l. a.1 ∷ l) (rests_push above aside)

-- how much is left
abbrev pub measure_left : {X S : Type 0} → List (ℕ × Bor (List (Node X S))) → List (Node X S) → ℕ
measure_left above left = left_measure (rests above) left

pub enter_falls : {X S : Type 0} (parent : ℕ) (above : List (ℕ × Bor (List (Node X S)))) (rest : Bor (List (Node X S))) (node : Node X S) (left : List (Node X S))
    → left ≡ node ∷ rest.now → measure_left (above ++ (parent, rest) ∷ []) (children node) < measure_left above left
enter_falls parent above rest node left is = rw (rests_push above (parent, rest)) (enter_smaller (rests above) rest node left is)

pub turn_falls : {X S : Type 0} (above : List (ℕ × Bor (List (Node X S)))) (aside : ℕ × Bor (List (Node X S)))
    → measure_left above aside.1.now < measure_left (above ++ aside ∷ []) []
turn_falls above aside = rw (rests_push above aside) (turn_smaller (rests above) (rests above ++ aside.1 ∷ []) aside.1 [] refl refl)
