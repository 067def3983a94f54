-- Where lexemes start and end, read from their list.
use Rattle.std.proofs.Common.{◌≡◌, ◌-◌, ◌∙◌, ℕ, List, None, Option, Some, length, map, ap, sym}
use Rattle.std.specs.List.{slice_get}
use Rattle.std.specs.Option.{option_map, option_map_or}
use Rattle.std.proofs.lemmas.List.{length-map}
use Rattle.std.proofs.lemmas.Option.{slice_get-map}
use Rattle.lrpar_grammar_places.specs.Facts.{LexemeFacts}
use Rattle.lrpar_parse_lexemes.specs.Lexemes.{last_end, start_at}

-- where lexeme i starts
pub start_at_is : {X : Type 0} (facts : X → LexemeFacts) (lexemes : List X) (i : ℕ) (x : X) → slice_get lexemes i ≡ Some x
    → start_at (map facts lexemes) i ≡ (facts x).span.start
start_at_is facts lexemes i x is =
    ap (λ (o : Option LexemeFacts). option_map_or (λ x. x.span.start) o (last_end (map facts lexemes))) (slice_get-map facts lexemes i ∙ ap (option_map facts) is)

-- the last of a list, mapped, is the last of the list that it is mapped to
pub last_mapped : {A B : Type 0} (f : A → B) (xs : List A) (o : Option A) → o ≡ slice_get xs (length xs - 1) → slice_get (map f xs) (length (map f xs) - 1) ≡ option_map f o
last_mapped f xs o is =
    let place : length (map f xs) - 1 ≡ length xs - 1 = ap (λ n. n - 1) (length-map xs f) in
    ap (slice_get (map f xs)) place ∙ (slice_get-map f xs (length xs - 1) ∙ ap (option_map f) (sym is))

-- so this is where the last lexeme ends
pub last_end_is : {X : Type 0} (facts : X → LexemeFacts) (xs : List X) (o : Option X) → o ≡ slice_get xs (length xs - 1)
    → last_end (map facts xs) ≡ option_map_or (λ x. (facts x).span.end) o 0
last_end_is facts xs None is = ap (λ (o : Option LexemeFacts). option_map_or (λ x. x.span.end) o 0) (last_mapped facts xs None is)
last_end_is facts xs (Some x) is = ap (λ (o : Option LexemeFacts). option_map_or (λ x. x.span.end) o 0) (last_mapped facts xs (Some x) is)

-- past the last lexeme the start is where that one ends
pub start_at_none : {X : Type 0} (facts : X → LexemeFacts) (xs : List X) (i : ℕ) → slice_get xs i ≡ None → start_at (map facts xs) i ≡ last_end (map facts xs)
start_at_none facts xs i is =
    ap (λ (o : Option LexemeFacts). option_map_or (λ x. x.span.start) o (last_end (map facts xs))) (slice_get-map facts xs i ∙ ap (option_map facts) is)
