-- Where the lexemes of a valid list start.
use Rattle.std.proofs.Common.{◌≡◌, ◌≤◌, ◌+◌, ◌-◌, ℕ, zero, suc, List, [], ◌∷◌, None, Option, Some, length, ap, arith, refl}
use Rattle.std.proofs.lemmas.Option.{slice_get_within}
use Rattle.std.specs.List.{slice_get}
use Rattle.std.specs.Option.{option_map_or}
use Rattle.lrpar_grammar.specs.Grammar.{Grammar}
use Rattle.lrpar_grammar.specs.Sentence.{IsValidList, LexemeFacts}
use Rattle.lrpar_parse_lexemes.specs.Lexemes.{last_end, start_at}
use Rattle.lrpar_parse_run.specs.Moves.{StartsRise}

-- a place without an element is past the end
pub none_past : {A : Type 0} (xs : List A) (i : ℕ) → slice_get xs i ≡ None → length xs ≤ i
none_past [] i none = omega arith
none_past (x ∷ xs) zero none = absurd (let no : ⊥ = cc in no)
none_past (x ∷ xs) (suc i) none = let rest : length xs ≤ i = none_past xs i none in omega arith

-- the starts don't decrease, and the last one ends no earlier than it starts, if that holds for the last one alone
pub starts_rise : (g : Grammar) (lexemes : List LexemeFacts) → IsValidList g lexemes
    → ((x : LexemeFacts) → slice_get lexemes (length lexemes - 1) ≡ Some x → x.span.start ≤ x.span.end) → StartsRise lexemes
starts_rise g lexemes valid ordered i within = by_places (slice_get lexemes i) (slice_get lexemes (i + 1)) refl refl
  where
    at : (j : ℕ) (o : Option LexemeFacts) → slice_get lexemes j ≡ o → start_at lexemes j ≡ option_map_or (λ x. x.span.start) o (last_end lexemes)
    at j o is = ap (λ (p : Option LexemeFacts). option_map_or (λ x. x.span.start) p (last_end lexemes)) is

    by_places : (o p : Option LexemeFacts) → slice_get lexemes i ≡ o → slice_get lexemes (i + 1) ≡ p → start_at lexemes i ≤ start_at lexemes (i + 1)
    by_places None p here next = absurd (omega (arith, none_past lexemes i here, within))
    by_places (Some x) (Some y) here next =
        let order : x.span.start ≤ y.span.start = valid.starts i x y (slice_get_within lexemes (i + 1) y next) here next in
        let first : start_at lexemes i ≡ x.span.start = at i (Some x) here in
        let second : start_at lexemes (i + 1) ≡ y.span.start = at (i + 1) (Some y) next in
        omega (arith, first, second, order)
    by_places (Some x) None here next =
        let past : length lexemes ≤ i + 1 = none_past lexemes (i + 1) next in
        let place : length lexemes - 1 ≡ i = omega (arith, past, within) in
        let last : slice_get lexemes (length lexemes - 1) ≡ Some x = rw place here in
        let first : start_at lexemes i ≡ x.span.start = at i (Some x) here in
        let second : start_at lexemes (i + 1) ≡ last_end lexemes = at (i + 1) None next in
        let end : last_end lexemes ≡ x.span.end = ap (λ (o : Option LexemeFacts). option_map_or (λ x. x.span.end) o 0) last in
        let order : x.span.start ≤ x.span.end = ordered x last in
        omega (arith, first, second, end, order)
