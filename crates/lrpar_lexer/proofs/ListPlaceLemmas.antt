-- Answers of a list that fit a text, one after the other.
use Rattle.std.proofs.Common.{◌≡◌, ℕ, ◌+◌, ◌<◌, ◌≤◌, List, length, take, get_or, Result, refl, subst}
use Rattle.std.specs.List.{All}
use Rattle.std.proofs.lemmas.List.{take_all}
use Rattle.std.proofs.lemmas.List.Elements.{All-more}
use Rattle.std.proofs.lemmas.Option.{slice_get_read}
use Rattle.lrpar_lexer.specs.ListPlaces.{FitsText, IsFirstMisplaced}
use Rattle.lrpar_lexer.specs.declared.token.Token.{Token}
use Rattle.lrpar_lexer.specs.declared.token.NoToken.{NoToken}

module _ {S : Type 0} (text : List ℕ) (answers : List (Result (Token S) NoToken)) (i : ℕ) where
  -- one more fits
  pub fit_more : (answer : Result (Token S) NoToken) → i < length answers → answer ≡ get_or answers i answer → FitsText text answer
      → All (FitsText text) (take i answers) → All (FitsText text) (take (i + 1) answers)
  fit_more answer within is fits so_far =
      All-more (FitsText text) answers i answer within so_far (subst (FitsText text) is fits)

  -- the first that doesn't fit
  pub first_here : (answer : Result (Token S) NoToken) → i < length answers → answer ≡ get_or answers i answer → ¬ (FitsText text answer)
      → All (FitsText text) (take i answers) → IsFirstMisplaced text answers i
  first_here answer within is misplaced so_far =
      record { answer = answer; is = slice_get_read answers (length answers) i answer refl within is; misplaced = misplaced; before = so_far }

  -- all fit
  pub fit_all : length answers ≤ i → All (FitsText text) (take i answers) → All (FitsText text) answers
  fit_all end so_far = subst (All (FitsText text)) (take_all i answers end) so_far
