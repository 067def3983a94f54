-- Spans of arguments, and of productions over them.
use Rattle.std.specs.Prelude.{◌≤◌, ◌++◌, ℕ, List, [], ◌∷◌, map, None, Option}
use Rattle.std.specs.List.{last_or}
use Rattle.std.specs.Option.{option_map_or}
use Rattle.lrpar_grammar_places.specs.Span.{Extent, nowhere}
use Rattle.lrpar_parse_lexemes.specs.declared.placed.Placed.{Placed}

-- the last of a part and the parts after it
abbrev pub last_part : Extent → List Extent → Extent
last_part part [] = part
last_part part (next ∷ parts) = last_part next parts

-- the span of a node whose children have these spans, after the span `before`
abbrev pub span_over : Extent → List Extent → Extent
span_over before [] = before
span_over before (first ∷ others) = record { start = first.start; end = (last_part first others).end }

-- the starts of these parts don't decrease; they are at least `low` and at most `high`
abbrev pub Rise : ℕ → List Extent → ℕ → Type 0
Rise low [] high = low ≤ high
Rise low (part ∷ parts) high = (low ≤ part.start) × Rise part.start parts high

-- the spans of entries
abbrev pub spans_of : {T : Type 0} → List (Placed T) → List Extent
spans_of es = map (λ e. e.span) es

-- the arguments of entries
abbrev pub arguments_of : {T : Type 0} → List (Placed T) → List T
arguments_of es = map (λ e. e.argument) es

-- the span of an entry; 0..0 for none
abbrev pub span_before : {T : Type 0} → Option (Placed T) → Extent
span_before before = option_map_or (λ e. e.span) before nowhere

-- the spans of entries, and of those to their right, don't go back
abbrev pub RiseBeside : {T : Type 0} → List (Placed T) → List (Placed T) → Type 0
RiseBeside before own = (start : ℕ) × Rise 0 (spans_of (before ++ own)) start

-- the span of a production over its own entries, to the right of others
abbrev pub span_beside : {T : Type 0} → List (Placed T) → List (Placed T) → Extent
span_beside before own = span_over (span_before (last_or None before)) (spans_of own)
