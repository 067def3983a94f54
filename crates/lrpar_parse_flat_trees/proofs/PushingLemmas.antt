-- The children of a node are added to a list, the last one first.
use Rattle.std.proofs.Common.{◌≡◌, ◌<◌, ◌≤◌, ◌+◌, ◌-◌, ◌∙◌, ℕ, List, [], ◌∷◌, ◌++◌, length, map, reverse, take, drop, ap, arith, sym}
use Rattle.std.proofs.Math.Seq.{drop-length}
use Rattle.std.proofs.lemmas.List.{append_assoc, append-nil, reverse-append}
use Rattle.lrpar_grammar_places.specs.Span.{nowhere}
use Rattle.lrpar_parse_run.specs.RunStack.{on_top}
use Rattle.lrpar_parse_flat_trees.specs.Children.{AreLeft, CanCount}
use Rattle.lrpar_parse_flat_trees.specs.Flat.{FlatNode, nodes_in, trees_of}
use Rattle.lrpar_parse_flat_trees.specs.Growing.{AreBelow}
use Rattle.lrpar_parse_flat_trees.specs.LeftNodes.{AddsChildren, left_at}
use Rattle.lrpar_parse_flat_trees.specs.Located.{Located, last_of, side_by_side}
use Rattle.lrpar_parse_flat_trees.specs.declared.text.LeftNode.{LeftNode}
use Rattle.lrpar_parse_flat_trees.proofs.ChildrenLemmas.{Counts, Inner, can_count, children_are, counted_all, counts_more, counts_none, next_left}

-- so many children are added
pub record Pushing {S : Type 0} (node : Located) (level first : ℕ) (old new : List (LeftNode S)) (rest : List FlatNode) : Type 0 where
  pub nodes : List FlatNode
  pub is : node ≡ last_of nodes
  pub inner : Inner nodes node.tree
  pub first_is : first ≡ length nodes - nodes_in node.tree
  pub count : ℕ
  pub counts : Counts first (take (length nodes - 1) nodes) rest count
  pub pushed : new ≡ old ++ reverse (map (left_at level) (on_top count (side_by_side nowhere (trees_of (take (length nodes - 1) nodes)))))

-- the elements above a list are none
top_none : {X : Type 0} (xs : List X) → on_top 0 xs ≡ []
top_none xs =
    let all : length xs - 0 ≡ length xs = omega arith in
    ap (λ (k : ℕ). drop k xs) all ∙ drop-length xs

pub pushing_begins : {S : Type 0} (nodes : List FlatNode) (node : Located) (level first : ℕ) (old : List (LeftNode S)) → node ≡ last_of nodes → Inner nodes node.tree
    → first ≡ length nodes - nodes_in node.tree → Pushing node level first old old (take (length nodes - 1) nodes)
pushing_begins {S} nodes node level first old is inner place =
    let all = take (length nodes - 1) nodes in
    let none : on_top 0 (side_by_side nowhere (trees_of all)) ≡ [] = top_none (side_by_side nowhere (trees_of all)) in
    record {
      nodes = nodes;
      is = is;
      inner = inner;
      first_is = place;
      count = 0;
      counts = rw place (counts_none (length nodes - nodes_in node.tree) all inner.all.flat (can_count nodes node.tree inner));
      pushed = sym (append-nil old) ∙ ap (λ (ls : List Located). old ++ reverse (map (left_at {S = S} level) ls)) (sym none);
    }

pub pushing_more : {S : Type 0} (node : Located) (level first : ℕ) (old new more : List (LeftNode S)) (rest less : List FlatNode) → Pushing node level first old new rest
    → first < length rest → AreBelow 1 rest less → more ≡ new ++ left_at level (last_of rest) ∷ [] → Pushing node level first old more less
pushing_more {S} node level first old new more rest less pushing longer below added =
    let all = take (length pushing.nodes - 1) pushing.nodes in
    let sides = side_by_side nowhere (trees_of all) in
    let can : CanCount first all = rw pushing.first_is (can_count pushing.nodes node.tree pushing.inner) in
    let counts = counts_more first all rest less pushing.count can pushing.counts longer below in
    let next = next_left pushing.count all rest pushing.inner.all.flat (omega (arith, counts.within)) pushing.counts.below in
    let earlier = reverse (map (left_at {S = S} level) (on_top pushing.count sides)) in
    let last = left_at {S = S} level (last_of rest) in
    record {
      nodes = pushing.nodes;
      is = pushing.is;
      inner = pushing.inner;
      first_is = pushing.first_is;
      count = pushing.count + 1;
      counts = counts;
      pushed = added ∙ ap (λ (es : List (LeftNode S)). es ++ last ∷ []) pushing.pushed ∙ append_assoc old earlier (last ∷ [])
          ∙ ap (λ (es : List (LeftNode S)). old ++ es) (sym (reverse-append (last ∷ []) (map (left_at {S = S} level) (on_top pushing.count sides))))
          ∙ ap (λ (ls : List Located). old ++ reverse (map (left_at {S = S} level) ls)) (sym next);
    }

pub pushing_ends : {S : Type 0} (node : Located) (level first : ℕ) (old new : List (LeftNode S)) (rest : List FlatNode) → Pushing node level first old new rest → length rest ≤ first
    → AddsChildren level node old new
pushing_ends {S} node level first old new rest pushing short =
    let all = take (length pushing.nodes - 1) pushing.nodes in
    let left : AreLeft (length pushing.nodes - nodes_in node.tree) all pushing.count =
    rw (← pushing.first_is) (counted_all first all rest pushing.count pushing.inner.all.flat pushing.counts short) in
    pushing.pushed
    ∙ ap (λ (ls : List Located). old ++ reverse (map (left_at {S = S} level) ls)) (children_are pushing.nodes node pushing.count pushing.is pushing.inner left)
