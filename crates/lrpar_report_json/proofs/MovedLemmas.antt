-- Bytes and parts of a text that are moved to boundaries of characters: there is one place for each.
use Rattle.std.proofs.Common.{◌≡◌, ◌∷◌, ◌∙◌, ℕ, zero, suc, [], List, length, Bool, true, false, inl, inr, refl, ap, arith}
use Rattle.std.specs.Prelude.{if◌then◌else◌}
use Rattle.std.specs.Str.{IsCharBoundary}
use Rattle.std.proofs.lemmas.Bool.{cases_lt}
use Rattle.lrpar_grammar_places.specs.Span.{Extent}
use Rattle.lrpar_report_lines.specs.Places.{IsNextBoundary}
use Rattle.lrpar_report_json.specs.Places.{goes_on, moved_byte, moved_part}

-- a byte that goes on with a character begins none
inside : (b : ℕ) (bs : List ℕ) → goes_on b ≡ true → IsCharBoundary (b ∷ bs) zero → ⊥
inside b bs on boundary = let begins = boundary.1 in grind (arith, begins)

-- a byte that doesn't go on with a character begins one
outside : (b : ℕ) (bs : List ℕ) → goes_on b ≡ false → IsCharBoundary (b ∷ bs) zero
outside b bs on = (omega arith, λ _ high. grind (arith, high, on))

-- a boundary is one byte earlier without the first byte
earlier : (b : ℕ) (bs : List ℕ) (i : ℕ) → IsCharBoundary (b ∷ bs) (suc i) → IsCharBoundary bs i
earlier b bs i boundary = let within = boundary.0 in (omega (arith, within), λ below. boundary.1 (omega arith))

-- and one byte later with it
later : (b : ℕ) (bs : List ℕ) (i : ℕ) → IsCharBoundary bs i → IsCharBoundary (b ∷ bs) (suc i)
later b bs i boundary = let within = boundary.0 in (omega (arith, within), λ below. boundary.1 (omega arith))

-- so is the next boundary from a byte on
shifted : (b : ℕ) (bs : List ℕ) (byte next : ℕ) → IsNextBoundary (b ∷ bs) (suc byte) (suc next) → IsNextBoundary bs byte next
shifted b bs byte next moved = record {
  boundary = earlier b bs next moved.boundary;
  onward = λ within. let on = moved.onward (omega arith) in omega (arith, on);
  nearest = λ i low high at. moved.nearest (suc i) (omega arith) (omega arith) (later b bs i at);
  beyond = λ past. let end = moved.beyond (omega arith) in omega (arith, end);
}

-- and the one from the first byte on, if that isn't one
shifted_first : (b : ℕ) (bs : List ℕ) (next : ℕ) → IsNextBoundary (b ∷ bs) zero (suc next) → IsNextBoundary bs zero next
shifted_first b bs next moved = record {
  boundary = earlier b bs next moved.boundary;
  onward = λ _. omega arith;
  nearest = λ i low high at. moved.nearest (suc i) (omega arith) (omega arith) (later b bs i at);
  beyond = λ past. absurd (omega arith);
}

-- the next boundary from the first byte on
from_first : (b : ℕ) (bs : List ℕ) (next : ℕ) (on : Bool) → goes_on b ≡ on → ((n : ℕ) → IsNextBoundary bs zero n → n ≡ moved_byte bs zero)
    → IsNextBoundary (b ∷ bs) zero next → next ≡ (if on then suc (moved_byte bs zero) else zero)
from_first b bs zero true is rest moved = absurd (inside b bs is moved.boundary)
from_first b bs (suc n) true is rest moved = ap suc (rest n (shifted_first b bs n moved))
from_first b bs zero false is rest moved = refl
from_first b bs (suc n) false is rest moved = absurd (moved.nearest zero (omega arith) (omega arith) (outside b bs is))

-- the next boundary of a byte
moved_byte_is : (text : List ℕ) (byte next : ℕ) → IsNextBoundary text byte next → next ≡ moved_byte text byte
moved_byte_is [] byte next moved = let within = moved.boundary.0 in omega (arith, within)
moved_byte_is (b ∷ bs) zero next moved = from_first b bs next (goes_on b) refl (λ n. moved_byte_is bs zero n) moved
moved_byte_is (b ∷ bs) (suc byte) zero moved =
    elim (cases_lt (length (b ∷ bs)) (suc byte)) [
      | inl past ↦ let end = moved.beyond past in absurd (omega (arith, end))
      | inr within ↦ let on = moved.onward within in absurd (omega (arith, on))
    ]
moved_byte_is (b ∷ bs) (suc byte) (suc n) moved = ap suc (moved_byte_is bs byte n (shifted b bs byte n moved))

-- the place to which a part is moved
pub moved_part_is : (text : List ℕ) (span place : Extent) → IsNextBoundary text span.start place.start → IsNextBoundary text span.end place.end
    → place ≡ moved_part text span
moved_part_is text span place start end =
    let first : place ≡ record { start = moved_byte text span.start; end = place.end } =
    ap {B = Extent} (λ s. record { start = s; end = place.end }) (moved_byte_is text span.start place.start start) in
    let second : record { start = moved_byte text span.start; end = place.end } ≡ moved_part text span =
    ap {B = Extent} (λ e. record { start = moved_byte text span.start; end = e }) (moved_byte_is text span.end place.end end) in
    first ∙ second
