-- Trees side by side keep the order of their starts.
use Rattle.std.proofs.Common.{◌≡◌, ◌∙◌, ℕ, List, [], ◌∷◌, ◌++◌, ap, arith, refl}
use Rattle.lrpar_grammar_places.specs.Facts.{LexemeFacts}
use Rattle.lrpar_grammar_places.specs.Span.{Extent, nowhere}
use Rattle.lrpar_grammar.specs.Tree.{Tree, Leaf, Branch}
use Rattle.lrpar_parse_lexemes.specs.PlacedSpans.{Rise, last_part, span_over}
use Rattle.lrpar_parse_lexemes.specs.RisingSpans.{last_start, rise_back, rise_front}
use Rattle.lrpar_parse_run.specs.PlacedRising.{over_start, rise_one}
use Rattle.lrpar_parse_run.specs.Rising.{KeepsRising}
use Rattle.lrpar_parse_run.specs.Spans.{last_span}
use Rattle.lrpar_parse_flat_trees.specs.Flat.{forest_of, list_span, tree_span}
use Rattle.lrpar_parse_flat_trees.specs.Growing.{TreesRise, list_spans}

-- the span of a node over trees is that over their spans
pub last_part_is : (before : Extent) (ts : List (Tree LexemeFacts)) → last_part before (list_spans before ts) ≡ list_span before ts
last_part_is before [] = refl
last_part_is before (t ∷ ts) = last_part_is (tree_span before t) ts

pub list_span_is : (before : Extent) (ts : List (Tree LexemeFacts)) → list_span before ts ≡ last_span (λ x. x.span) before (forest_of ts)
list_span_is before [] = refl
list_span_is before (t ∷ ts) = list_span_is (tree_span before t) ts

pub span_over_trees : (before : Extent) (p : ℕ) (ts : List (Tree LexemeFacts)) → span_over before (list_spans before ts) ≡ tree_span before (Branch p (forest_of ts))
span_over_trees before p [] = refl
span_over_trees before p (t ∷ ts) =
    ap (λ (e : Extent). record { start = (tree_span before t).start; end = e.end }) (last_part_is (tree_span before t) ts ∙ list_span_is (tree_span before t) ts)

-- the spans of trees, and of more of them
pub list_spans_both : (before : Extent) (ts us : List (Tree LexemeFacts)) → list_spans before (ts ++ us) ≡ list_spans before ts ++ list_spans (list_span before ts) us
list_spans_both before [] us = refl
list_spans_both before (t ∷ ts) us = ap (λ w. tree_span before t ∷ w) (list_spans_both (tree_span before t) ts us)

-- the start of the last tree is that of the span before what comes next
last_start_is : (before : Extent) (ts : List (Tree LexemeFacts)) → last_start before.start (list_spans before ts) ≡ (list_span before ts).start
last_start_is before [] = refl
last_start_is before (t ∷ ts) = last_start_is (tree_span before t) ts

-- trees side by side keep the order of their starts
pub trees_rise : {X : Type 0} (facts : X → LexemeFacts)
    → KeepsRising (λ x. (facts x).span.start) (λ x e. e ≡ Leaf (facts x)) (λ p before es e. e ≡ Branch p (forest_of es)) (λ es n. TreesRise es n)
trees_rise facts = record {
  with_none = omega arith;
  by_leaf = λ es n x e rise low is.
      rw is (rw (list_spans_both nowhere es (Leaf (facts x) ∷ []))
      (rise_one 0 n (list_spans nowhere es) (facts x).span (facts x).span.start rise low (omega arith)));
  by_node = λ kept es n p e rise is.
      let before = list_span nowhere kept in
      let own = list_spans before es in
      let whole : Rise 0 (list_spans nowhere kept ++ own) n = rw (list_spans_both nowhere kept es) at rise in
      let front = rise_front 0 (list_spans nowhere kept) own n whole in
      let bounds = over_start (last_start 0 (list_spans nowhere kept)) before own n (last_start_is nowhere kept) (rise_back 0 (list_spans nowhere kept) own n whole) in
      let span = span_over_trees before p es in
      rw is (rw (list_spans_both nowhere kept (Branch p (forest_of es) ∷ []))
      (rise_one 0 (last_start 0 (list_spans nowhere kept)) (list_spans nowhere kept) (tree_span before (Branch p (forest_of es))) n front
      (rw span at bounds.0) (rw span at bounds.1)));
}
