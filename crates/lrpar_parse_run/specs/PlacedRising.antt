-- Entries with their spans keep the order of their starts.
use Rattle.std.proofs.Common.{◌≡◌, ◌≤◌, ℕ, List, [], ◌∷◌, ◌++◌, None, Option, Some, arith, refl}
use Rattle.std.specs.List.{last_or}
use Rattle.lrpar_grammar_places.specs.Span.{Extent}
use Rattle.lrpar_parse_lexemes.specs.PlacedSpans.{Rise, span_before, span_over, spans_of}
use Rattle.lrpar_parse_lexemes.specs.RisingSpans.{last_start, rise_back, rise_front, spans_both}
use Rattle.lrpar_parse_lexemes.specs.declared.placed.Placed.{Placed}
use Rattle.lrpar_parse_run.specs.Placed.{IsPlacedLexeme, IsPlacedValue}
use Rattle.lrpar_parse_run.specs.Rising.{KeepsRising}
use Rattle.lrpar_parse_run.specs.declared.values.AStackType.{AStackType}

-- parts that rise can be joined
rise_both : (low mid : ℕ) (xs ys : List Extent) (high : ℕ) → Rise low xs mid → (last_start low xs ≤ mid → Rise (last_start low xs) ys high) → Rise low (xs ++ ys) high
rise_both low mid [] ys high front back = back front
rise_both low mid (x ∷ xs) ys high front back = (front.0, rise_both x.start mid xs ys high front.1 back)

-- the bounds of parts that rise
rise_within : (low : ℕ) (xs : List Extent) (high : ℕ) → Rise low xs high → low ≤ high
rise_within low [] high rise = rise
rise_within low (x ∷ xs) high rise =
    let first : low ≤ x.start = rise.0 in
    let rest : x.start ≤ high = rise_within x.start xs high rise.1 in
    omega arith

-- one part more at the end
pub rise_one : (low mid : ℕ) (xs : List Extent) (y : Extent) (high : ℕ) → Rise low xs mid → mid ≤ y.start → y.start ≤ high → Rise low (xs ++ y ∷ []) high
rise_one low mid xs y high front above below = rise_both low mid xs (y ∷ []) high front (λ least. (omega arith, below))

-- the start of the last entry is that of the span before what comes next
last_start_is : {T : Type 0} (before : Option (Placed T)) (kept : List (Placed T)) → last_start (span_before before).start (spans_of kept) ≡ (span_before (last_or before kept)).start
last_start_is before [] = refl
last_start_is before (e ∷ es) = last_start_is (Some e) es

-- the span of a node starts no earlier than the span before it, and no later than the bound
pub over_start : (mid : ℕ) (before : Extent) (parts : List Extent) (high : ℕ) → mid ≡ before.start → Rise mid parts high → (mid ≤ (span_over before parts).start) × ((span_over before parts).start ≤ high)
over_start mid before [] high is rise = (omega (arith, is), omega (arith, is, rise))
over_start mid before (x ∷ xs) high is rise = (rise.0, rise_within x.start xs high rise.1)

-- entries with their spans keep the order of their starts
pub placed_rise : {X V : Type 0} (span : X → Extent) (acts : ℕ → Extent → List (AStackType X V) → V → Type 0)
    → KeepsRising (λ x. (span x).start) (λ x e. IsPlacedLexeme span x e) (λ p before es e. IsPlacedValue {X = X} {V = V} (acts p) before es e) (λ es n. Rise 0 (spans_of es) n)
placed_rise {X} {V} span acts = record {
  with_none = omega arith;
  by_leaf = λ es n x e rise low is.
      rw (spans_both es (e ∷ []))
      (rise_one 0 n (spans_of es) e.span (span x).start rise (rw is.lies low) (rw is.lies (omega arith)));
  by_node = λ kept es n p e rise is.
      let whole : Rise 0 (spans_of kept ++ spans_of es) n = rw (spans_both kept es) at rise in
      let front = rise_front 0 (spans_of kept) (spans_of es) n whole in
      let bounds = over_start (last_start 0 (spans_of kept)) (span_before (last_or None kept)) (spans_of es) n (last_start_is None kept) (rise_back 0 (spans_of kept) (spans_of es) n whole) in
      rw (spans_both kept (e ∷ []))
      (rise_one 0 (last_start 0 (spans_of kept)) (spans_of kept) e.span n front (rw is.lies bounds.0) (rw is.lies bounds.1));
}
