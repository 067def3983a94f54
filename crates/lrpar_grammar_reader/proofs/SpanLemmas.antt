-- The places of the first and the last of some words.
use Rattle.std.proofs.Common.{◌≡◌, ◌<◌, ◌≤◌, ◌-◌, ℕ, List, length, map, get_or, Option, Some, option_map, ap, sym, subst, ◌∙◌, inl, inr, arith}
use Rattle.std.specs.List.{slice_get}
use Rattle.std.proofs.lemmas.Bool.{cases_lt}
use Rattle.std.proofs.lemmas.Option.{get_or_from_slice_get, same_Some, slice_get-get_or, slice_get-map, slice_get_within}
use Rattle.lrpar_grammar_places.specs.Span.{Extent}
use Rattle.lrpar_grammar_words.specs.declared.words.Word.{Word}
use Rattle.lrpar_grammar_words.specs.Words.{PlacedWord, placed}
use Rattle.lrpar_grammar_words.specs.Outline.{AreWordsInOrder, TextAlternative}
use Rattle.lrpar_grammar_reader.specs.Spells.{alternative_span, span_between}

-- a word of the code is one of the mapped list
pub placed_at : (words items : List Word) (k j : ℕ) (w : Word) → items ≡ words → k ≡ j → ◌≡◌ {A = Option Word} (Some w) (slice_get items k)
    → ◌≡◌ {A = Option PlacedWord} (slice_get (map placed words) j) (Some (placed w))
placed_at words items k j w same place is =
    slice_get-map placed words j ∙ ap (option_map placed) (ap (slice_get words) (sym place) ∙ ap (λ s. slice_get s k) (sym same) ∙ sym is)

-- the same, by index
pub placed_index : (words items : List Word) (k : ℕ) (w : Word) → items ≡ words → k < length items → w ≡ get_or items k w
    → ◌≡◌ {A = Option PlacedWord} (slice_get (map placed words) k) (Some (placed w))
placed_index words items k w same within is =
    placed_at words items k k w same (λ _. k) (ap (λ x. Some x) is ∙ sym (slice_get-get_or items k w within))

-- the first of words in order begins no later than the last one ends
pub ordered_ends : (ws : List PlacedWord) (a b : PlacedWord) → AreWordsInOrder ws → slice_get ws 0 ≡ Some a → slice_get ws (length ws - 1) ≡ Some b
    → a.span.start ≤ a.span.end → b.span.start ≤ b.span.end → a.span.start ≤ b.span.end
ordered_ends ws a b order first last one other =
    elim (cases_lt 0 (length ws - 1)) [
      | inl apart ↦
          let is_first : get_or ws 0 a ≡ a = get_or_from_slice_get ws 0 a a first in
          let is_last : get_or ws (length ws - 1) a ≡ b = get_or_from_slice_get ws (length ws - 1) b a last in
          let between : (get_or ws 0 a).span.end ≤ (get_or ws (length ws - 1) a).span.start = order 0 (length ws - 1) a apart (slice_get_within ws (length ws - 1) b last) in
          let between' : a.span.end ≤ b.span.start = subst (λ w. w.span.end ≤ b.span.start) is_first (subst (λ w. (get_or ws 0 a).span.end ≤ w.span.start) is_last between) in
          omega arith
      | inr one_word ↦
          let place : length ws - 1 ≡ 0 = omega arith in
          let same : b ≡ a = same_Some b a (sym last ∙ ap (slice_get ws) place ∙ first) in
          subst (λ w. a.span.start ≤ w.span.end) (sym same) one
    ]

-- the place from the start of an alternative's first symbol to the end of its last
pub between_ends : (x : TextAlternative) (a b : PlacedWord) (span : Extent) → slice_get x.symbols 0 ≡ Some a → slice_get x.symbols (length x.symbols - 1) ≡ Some b
    → span.start ≡ a.span.start → span.end ≡ b.span.end → span ≡ alternative_span x
between_ends x a b span first last start end =
    let none : Extent = record { start = x.end.span.start; end = x.end.span.start } in
    ap (λ s. record { start = s; end = span.end }) start ∙ ap (λ e. record { start = a.span.start; end = e }) end
    ∙ sym (ap (λ (r : Option PlacedWord). span_between r (slice_get x.symbols (length x.symbols - 1)) none) first ∙ ap (λ (r : Option PlacedWord). span_between (Some a) r none) last)
