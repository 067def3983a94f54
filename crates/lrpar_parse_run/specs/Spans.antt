-- Spans of trees. What comes before a node without children determines its span.
use Rattle.std.specs.Prelude.{◌≡◌, ℕ}
use Rattle.lrpar_grammar_places.specs.Span.{Extent, nowhere}
use Rattle.lrpar_grammar.specs.Tree.{Tree, Forest, Leaf, Branch, Nil, Cons}

-- The span of a tree after the span `before`, which is 0..0 if nothing comes before. A leaf has its lexeme's span. A node without
-- children has the span before it. Another node extends from its first child's start to its last child's end; its first child comes
-- after what the node comes after, and each later child after its left neighbour.
abbrev mutual
  pub span_after : {X : Type 0} → (X → Extent) → Extent → Tree X → Extent
  span_after span before (Leaf x) = span x
  span_after span before (Branch p Nil) = before
  span_after span before (Branch p (Cons t ts)) =
      record { start = (span_after span before t).start; end = (last_span span (span_after span before t) ts).end }

  -- the span of the last of these trees, which come after a span; that span, if there is no tree
  pub last_span : {X : Type 0} → (X → Extent) → Extent → Forest X → Extent
  last_span span before Nil = before
  last_span span before (Cons t ts) = last_span span (span_after span before t) ts

-- the part from one byte to another
abbrev pub from_to : ℕ → ℕ → Extent
from_to start end = record { start = start; end = end }

-- Spans by hand. `S: 'a' L; L: ;` on `a`: L and S are 0..1. `S: L; L: ;` on nothing: both are 0..0.
-- `S: 'a' T; T: L 'b'; L: ;` on `ab`: L is 0..1, T and S are 0..2. The productions are numbered in this order.
pub record SpansAreWorkedOut : Type 0 where
  pub after_lexeme : span_after (λ x. x) nowhere (Branch 0 (Cons (Leaf (from_to 0 1)) (Cons (Branch 1 Nil) Nil))) ≡ from_to 0 1
  pub of_empty : span_after {X = Extent} (λ x. x) (from_to 0 1) (Branch 1 Nil) ≡ from_to 0 1
  pub of_nothing : span_after {X = Extent} (λ x. x) nowhere (Branch 0 (Cons (Branch 1 Nil) Nil)) ≡ from_to 0 0
  pub of_inner : span_after (λ x. x) (from_to 0 1) (Branch 1 (Cons (Branch 2 Nil) (Cons (Leaf (from_to 1 2)) Nil))) ≡ from_to 0 2
  pub of_whole : span_after (λ x. x) nowhere (Branch 0 (Cons (Leaf (from_to 0 1)) (Cons (Branch 1 (Cons (Branch 2 Nil) (Cons (Leaf (from_to 1 2)) Nil))) Nil))) ≡ from_to 0 2
