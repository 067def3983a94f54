-- The text of a tree, as its nodes are written, and nodes are left.
use Rattle.std.proofs.Common.{◌≡◌, ◌<◌, ◌≤◌, ◌+◌, ◌∙◌, ℕ, List, [], ◌∷◌, ◌++◌, Option, map, reverse, ap, arith, refl, subst, sym}
use Rattle.std.proofs.lemmas.List.{append_assoc, append-nil, reverse-append, reverse-reverse}
use Rattle.lrpar_grammar.specs.Grammar.{Grammar}
use Rattle.lrpar_grammar.specs.Tree.{Tree, Forest, Leaf, Branch, Nil, Cons}
use Rattle.lrpar_grammar_places.specs.Facts.{LexemeFacts}
use Rattle.lrpar_grammar_places.specs.Span.{Extent, nowhere}
use Rattle.lrpar_parse_trees.specs.TreeText.{line_at}
use Rattle.lrpar_parse_trees.specs.Written.{Writes}
use Rattle.lrpar_parse_trees.proofs.WriteLemmas.{appends_both, appends_nothing}
use Rattle.lrpar_parse_flat_trees.specs.Flat.{nodes_in, nodes_in_all, tree_span}
use Rattle.lrpar_parse_flat_trees.specs.FlatText.{flat_text, flat_texts, node_text}
use Rattle.lrpar_parse_flat_trees.specs.LeftNodes.{AddsChildren, left_at}
use Rattle.lrpar_parse_flat_trees.specs.Located.{children_in, children_of, list_of, side_by_side}
use Rattle.lrpar_parse_flat_trees.specs.declared.text.LeftNode.{LeftNode}

-- how many nodes are left, by those whose turn it is
abbrev pub left_nodes : {S : Type 0} → List (LeftNode S) → ℕ
left_nodes [] = 0
left_nodes (e ∷ es) = nodes_in e.node.tree + left_nodes es

-- the levels are no greater than a number, also of all nodes below
abbrev pub AllFit : {S : Type 0} → ℕ → List (LeftNode S) → Type 0
AllFit total [] = Unit {0}
AllFit total (e ∷ es) = (e.level + nodes_in e.node.tree ≤ total) × AllFit total es

-- the children of a node are fewer
children_left : {S : Type 0} (before : Extent) (ts : Forest LexemeFacts) (level : ℕ) (rest : List (LeftNode S))
    → left_nodes (map (left_at {S = S} level) (side_by_side before (list_of ts)) ++ rest) ≡ nodes_in_all ts + left_nodes rest
children_left before Nil level rest = omega arith
children_left before (Cons t ts) level rest = let more = children_left (tree_span before t) ts level rest in omega (arith, more)

children_fit : {S : Type 0} (before : Extent) (ts : Forest LexemeFacts) (level total : ℕ) (rest : List (LeftNode S)) → level + nodes_in_all ts ≤ total → AllFit total rest
    → AllFit total (map (left_at {S = S} level) (side_by_side before (list_of ts)) ++ rest)
children_fit before Nil level total rest less fit = fit
children_fit before (Cons t ts) level total rest less fit = (omega (arith, less), children_fit (tree_span before t) ts level total rest (omega (arith, less)) fit)

pub fewer_left : {S : Type 0} (e : LeftNode S) (rest : List (LeftNode S)) → left_nodes (map (left_at {S = S} (e.level + 1)) (children_of e.node) ++ rest) < left_nodes (e ∷ rest)
fewer_left {S} e rest = by e.node.before e.node.tree
  where
    by : (before : Extent) (t : Tree LexemeFacts) → left_nodes (map (left_at {S = S} (e.level + 1)) (side_by_side before (children_in t)) ++ rest) < nodes_in t + left_nodes rest
    by before (Leaf x) = omega arith
    by before (Branch p children) = let less = children_left before children (e.level + 1) rest in omega (arith, less)

levels_fit : {S : Type 0} (total : ℕ) (e : LeftNode S) (rest : List (LeftNode S)) → AllFit total (e ∷ rest) → AllFit total (map (left_at {S = S} (e.level + 1)) (children_of e.node) ++ rest)
levels_fit {S} total e rest fit = by e.node.before e.node.tree fit.0
  where
    by : (before : Extent) (t : Tree LexemeFacts) → e.level + nodes_in t ≤ total → AllFit total (map (left_at {S = S} (e.level + 1)) (side_by_side before (children_in t)) ++ rest)
    by before (Leaf x) less = fit.1
    by before (Branch p children) less = children_fit before children (e.level + 1) total rest (omega (arith, less)) fit.1

module _ {S : Type 0} (g : Grammar) (input : List ℕ) where
  -- the lines of the nodes that are left
  abbrev pub left_text : List (LeftNode S) → List ℕ
  left_text [] = []
  left_text (e ∷ es) = flat_text g input e.level e.node.tree ++ left_text es

  children_text : (before : Extent) (ts : Forest LexemeFacts) (level : ℕ) (rest : List (LeftNode S))
      → left_text (map (left_at {S = S} level) (side_by_side before (list_of ts)) ++ rest) ≡ flat_texts g input level ts ++ left_text rest
  children_text before Nil level rest = refl
  children_text before (Cons t ts) level rest =
      ap (λ (w : List ℕ). flat_text g input level t ++ w) (children_text (tree_span before t) ts level rest)
      ∙ sym (append_assoc (flat_text g input level t) (flat_texts g input level ts) (left_text rest))

  -- the line of a node comes before those of its children, which are left then
  line_first : (e : LeftNode S) (rest : List (LeftNode S))
      → left_text (e ∷ rest) ≡ line_at e.level (node_text g input e.node.tree) ++ left_text (map (left_at {S = S} (e.level + 1)) (children_of e.node) ++ rest)
  line_first e rest = by e.node.before e.node.tree
    where
      by : (before : Extent) (t : Tree LexemeFacts)
          → flat_text g input e.level t ++ left_text rest ≡ line_at e.level (node_text g input t) ++ left_text (map (left_at {S = S} (e.level + 1)) (side_by_side before (children_in t)) ++ rest)
      by before (Leaf x) = refl
      by before (Branch p children) =
          append_assoc (line_at e.level (node_text g input (Branch p children))) (flat_texts g input (e.level + 1) children) (left_text rest)
          ∙ ap (λ (w : List ℕ). line_at e.level (node_text g input (Branch p children)) ++ w) (sym (children_text before children (e.level + 1) rest))

  module _ {W : Type 0} (contents : W → Option (List ℕ)) (tree : Tree LexemeFacts) (begun : W) where
    -- so much is written, and these nodes are left, of which the last is the next
    pub record Writing (now : W) (items : List (LeftNode S)) : Type 0 where
      pub done : List ℕ
      pub written : Writes contents begun now done
      pub whole : done ++ left_text (reverse items) ≡ flat_text g input 0 tree
      pub fit : AllFit (nodes_in tree) (reverse items)

    -- at first the root is left
    pub writing_begins : Writing begun (left_at 0 (record { before = nowhere; tree = tree }) ∷ [])
    writing_begins = record {
      done = [];
      written = appends_nothing (contents begun) [] refl;
      whole = append-nil (flat_text g input 0 tree);
      fit = (omega arith, tt);
    }

    -- a node is written, and its children are left in its place
    pub writing_goes_on : (now next : W) (items old new : List (LeftNode S)) (e : LeftNode S) → old ≡ items ++ e ∷ [] → Writing now old
        → Writes contents now next (line_at e.level (node_text g input e.node.tree)) → AddsChildren (e.level + 1) e.node items new → Writing next new
    writing_goes_on now next items old new e popped writing wrote added =
        let line = line_at e.level (node_text g input e.node.tree) in
        let rest = reverse items in
        let children = map (left_at {S = S} (e.level + 1)) (children_of e.node) in
        let before : reverse old ≡ e ∷ rest = ap (λ (w : List (LeftNode S)). reverse w) popped ∙ reverse-append items (e ∷ []) in
        let after : reverse new ≡ children ++ rest =
        ap (λ (w : List (LeftNode S)). reverse w) added ∙ reverse-append items (reverse children) ∙ ap (λ (w : List (LeftNode S)). w ++ rest) (reverse-reverse children) in
        record {
          done = writing.done ++ line;
          written = appends_both (contents begun) (contents now) (contents next) writing.done line writing.written wrote;
          whole = append_assoc writing.done line (left_text (reverse new))
              ∙ ap (λ (w : List ℕ). writing.done ++ w)
              (ap (λ (w : List (LeftNode S)). line ++ left_text w) after ∙ sym (line_first e rest) ∙ ap (λ (w : List (LeftNode S)). left_text w) (sym before))
              ∙ writing.whole;
          fit = subst (λ (w : List (LeftNode S)). AllFit (nodes_in tree) w) (sym after) (levels_fit (nodes_in tree) e rest (subst (λ (w : List (LeftNode S)). AllFit (nodes_in tree) w) before writing.fit));
        }

    -- fewer nodes are left then
    pub writing_ends : (items old new : List (LeftNode S)) (e : LeftNode S) → old ≡ items ++ e ∷ [] → AddsChildren (e.level + 1) e.node items new → left_nodes (reverse new) < left_nodes (reverse old)
    writing_ends items old new e popped added =
        let rest = reverse items in
        let children = map (left_at {S = S} (e.level + 1)) (children_of e.node) in
        let before : reverse old ≡ e ∷ rest = ap (λ (w : List (LeftNode S)). reverse w) popped ∙ reverse-append items (e ∷ []) in
        let after : reverse new ≡ children ++ rest =
        ap (λ (w : List (LeftNode S)). reverse w) added ∙ reverse-append items (reverse children) ∙ ap (λ (w : List (LeftNode S)). w ++ rest) (reverse-reverse children) in
        subst (λ (w : List (LeftNode S)). left_nodes w < left_nodes (reverse old)) (sym after)
        (subst (λ (w : List (LeftNode S)). left_nodes (children ++ rest) < left_nodes w) (sym before) (fewer_left e rest))

    -- and the next level is no greater than the number of nodes
    pub level_fits : (now : W) (items old : List (LeftNode S)) (e : LeftNode S) → old ≡ items ++ e ∷ [] → Writing now old → e.level + nodes_in e.node.tree ≤ nodes_in tree
    level_fits now items old e popped writing =
        let before : reverse old ≡ e ∷ reverse items = ap (λ (w : List (LeftNode S)). reverse w) popped ∙ reverse-append items (e ∷ []) in
        (subst (λ (w : List (LeftNode S)). AllFit (nodes_in tree) w) before writing.fit).0

    -- if none is left, the text is written
    pub all_written : (now : W) (items : List (LeftNode S)) → items ≡ [] → Writing now items → Writes contents begun now (flat_text g input 0 tree)
    all_written now items none writing =
        let same : writing.done ≡ flat_text g input 0 tree =
        sym (append-nil writing.done) ∙ ap (λ (w : List (LeftNode S)). writing.done ++ left_text (reverse w)) (sym none) ∙ writing.whole in
        subst (λ (w : List ℕ). Writes contents begun now w) same writing.written
