-- The tokens of moves.
use Rattle.std.specs.Prelude.{◌≡◌, ℕ, List, [], ◌∷◌, map}
use Rattle.lrpar_grammar_places.specs.declared.span.TIdx.{TIdx}
use Rattle.lrpar_table_sentences.specs.Moves.{Makes, MoveOf, Takes}

-- the tokens that moves shift, in order
abbrev pub tokens_in : List MoveOf → List ℕ
tokens_in [] = []
tokens_in (Takes t ∷ moves) = t ∷ tokens_in moves
tokens_in (Makes p ∷ moves) = tokens_in moves

-- the numbers of the code's tokens
abbrev pub token_numbers : {S : Type 0} → (S → ℕ) → List (TIdx S) → List ℕ
token_numbers index tokens = map (λ t. index t.0) tokens

-- the moves begin with this one
abbrev pub BeginsBy : MoveOf → List MoveOf → Type 0
BeginsBy next moves = (later : List MoveOf) × (moves ≡ next ∷ later)

-- the first token that the moves shift is this one
abbrev pub ShiftsFirst : ℕ → List MoveOf → Type 0
ShiftsFirst token moves = (rest : List ℕ) × (tokens_in moves ≡ token ∷ rest)
