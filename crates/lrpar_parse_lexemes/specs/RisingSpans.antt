-- Spans that rise can be cut in two, and both parts rise.
use Rattle.std.proofs.Common.{◌≡◌, ℕ, List, [], ◌∷◌, ◌++◌, ap, arith, refl}
use Rattle.lrpar_grammar_places.specs.Span.{Extent}
use Rattle.lrpar_parse_lexemes.specs.PlacedSpans.{Rise, spans_of}
use Rattle.lrpar_parse_lexemes.specs.declared.placed.Placed.{Placed}

-- the start of the last of these parts; the bound, if there is none
abbrev pub last_start : ℕ → List Extent → ℕ
last_start low [] = low
last_start low (part ∷ parts) = last_start part.start parts

-- parts that rise can be cut: those before the cut rise to the start of their last one
pub rise_front : (low : ℕ) (xs ys : List Extent) (high : ℕ) → Rise low (xs ++ ys) high → Rise low xs (last_start low xs)
rise_front low [] ys high rise = omega arith
rise_front low (x ∷ xs) ys high rise = (rise.0, rise_front x.start xs ys high rise.1)

-- the parts after a cut rise from the start of the last one before it
pub rise_back : (low : ℕ) (xs ys : List Extent) (high : ℕ) → Rise low (xs ++ ys) high → Rise (last_start low xs) ys high
rise_back low [] ys high rise = rise
rise_back low (x ∷ xs) ys high rise = rise_back x.start xs ys high rise.1

-- the spans of two lists of entries
pub spans_both : {T : Type 0} (xs ys : List (Placed T)) → spans_of (xs ++ ys) ≡ spans_of xs ++ spans_of ys
spans_both [] ys = refl
spans_both (x ∷ xs) ys = ap (λ w. x.span ∷ w) (spans_both xs ys)
