-- Lines of a text by their numbers.
use Rattle.std.proofs.Common.{◌≡◌, ◌≤◌, ◌∷◌, ℕ, List, [], ap, arith, cond, take}
use Rattle.std.proofs.lemmas.List.{take-take}
use Rattle.std.proofs.lemmas.List.Sums.{sum_by-take-drop}
use Rattle.std.specs.List.{count_by}
use Rattle.lrpar_grammar_places.specs.Lines.{is_line_feed, line_of}
use Rattle.lrpar_grammar_places.specs.Span.{Extent}
use Rattle.lrpar_report.specs.FaultPlaces.{IsOnLine, IsOne, IsWithin}

-- a later byte is on no earlier line
pub line_of_later : (text : List ℕ) (a b : ℕ) → a ≤ b → line_of text a ≤ line_of text b
line_of_later text a b later =
    let split = sum_by-take-drop (λ x. cond (is_line_feed x) 1 0) (take b text) a in
    let front : count_by is_line_feed (take a (take b text)) ≡ count_by is_line_feed (take a text) =
    ap (count_by is_line_feed) (take-take a b text later) in
    omega (arith, split, front)

-- what is between two bytes of one line is on that line
line_between : (text : List ℕ) (number a b i : ℕ) → a ≤ i → i ≤ b → line_of text a ≡ number → line_of text b ≡ number → line_of text i ≡ number
line_between text number a b i after before first last =
    omega (arith, line_of_later text a i after, line_of_later text i b before, first, last)

-- a part of a line is on that line
pub within_on_line : (text : List ℕ) (number : ℕ) (line span : Extent) → IsOnLine text number line → IsWithin line span → IsOnLine text number span
within_on_line text number line span on within = record {
  start = λ has. line_between text number line.start line.end span.start within.start (omega (arith, within.ordered, within.end)) (on.start has) (on.end has);
  end = λ has. line_between text number line.start line.end span.end (omega (arith, within.ordered, within.start)) within.end (on.start has) (on.end has);
}

-- so is a part of such a part
pub spans_on_line : (text : List ℕ) (number : ℕ) (line core : Extent) (spans : List Extent) → IsOnLine text number line → IsWithin line core
    → IsOne (IsWithin core) spans → IsOne (IsOnLine text number) spans
spans_on_line text number line core spans on within one =
    let on_core = within_on_line text number line core on within in
    (one.0, one.1, within_on_line text number core one.0 on_core one.2)

pub core_on_line : (text : List ℕ) (number : ℕ) (line core : Extent) (spans : List Extent) → IsOnLine text number line → IsWithin line core
    → spans ≡ core ∷ [] → IsOne (IsOnLine text number) spans
core_on_line text number line core spans on within is = (core, is, within_on_line text number line core on within)
