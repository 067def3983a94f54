-- The trees of a run, side by side, as they grow.
use Rattle.std.specs.Prelude.{◌≡◌, ◌++◌, ◌∷◌, [], ℕ, List}
use Rattle.lrpar_grammar_places.specs.Facts.{LexemeFacts}
use Rattle.lrpar_grammar_places.specs.Span.{Extent, nowhere}
use Rattle.lrpar_grammar.specs.Tree.{Tree, Branch, Leaf}
use Rattle.lrpar_parse_flat_trees.specs.Flat.{AreFlat, FlatNode, forest_of, list_span, tree_span, trees_of}
use Rattle.lrpar_parse_lexemes.specs.PlacedSpans.{Rise, span_over}
use Rattle.lrpar_parse_run.specs.RunStack.{below_top, on_top}

-- the spans of trees that are side by side
abbrev pub list_spans : Extent → List (Tree LexemeFacts) → List Extent
list_spans before [] = []
list_spans before (t ∷ ts) = tree_span before t ∷ list_spans (tree_span before t) ts

-- the starts of trees that are side by side don't decrease, and are at most `high`
abbrev pub TreesRise : List (Tree LexemeFacts) → ℕ → Type 0
TreesRise trees high = Rise 0 (list_spans nowhere trees) high

-- a lexeme is added to the trees
abbrev pub IsLeafAdded : LexemeFacts → List (Tree LexemeFacts) → List (Tree LexemeFacts) → Type 0
IsLeafAdded x old new = new ≡ old ++ Leaf x ∷ []

-- the n last trees become the children of a node of the production
abbrev pub IsClosed : ℕ → ℕ → List (Tree LexemeFacts) → List (Tree LexemeFacts) → Type 0
IsClosed p n old new = new ≡ below_top n old ++ Branch p (forest_of (on_top n old)) ∷ []

-- these are the nodes of the trees but for the n last
pub record AreBelow (n : ℕ) (old new : List FlatNode) : Type 0 where
  pub flat : AreFlat new
  pub trees : trees_of new ≡ below_top n (trees_of old)

-- the span of a node over the n last trees of these nodes
abbrev pub IsSpanAfter : ℕ → List FlatNode → Extent → Type 0
IsSpanAfter n nodes span = span ≡ span_over (list_span nowhere (below_top n (trees_of nodes))) (list_spans (list_span nowhere (below_top n (trees_of nodes))) (on_top n (trees_of nodes)))
