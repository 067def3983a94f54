-- Changes of one lexeme, by the tokens of a text.
use Rattle.std.specs.Prelude.{◌≢◌, ◌<◌, ◌≤◌, ◌+◌, ℕ, List, [], ◌∷◌, ◌++◌, drop, length, slice_get, take, Some}
use Rattle.lrpar_grammar.specs.Grammar.{Grammar, end_token}

-- a change of the lexeme at a place: it is left out, a token comes before it, or a token takes its place
pub data PlainChange : Type 0 where
  PlainDelete : PlainChange
  PlainInsert : (token : ℕ) → PlainChange
  PlainReplace : (token : ℕ) → PlainChange

-- the tokens that the change puts in
abbrev pub put_in : PlainChange → List ℕ
put_in PlainDelete = []
put_in (PlainInsert t) = t ∷ []
put_in (PlainReplace t) = t ∷ []

-- the number of tokens that the change takes out
abbrev pub taken_out : PlainChange → ℕ
taken_out PlainDelete = 1
taken_out (PlainInsert t) = 0
taken_out (PlainReplace t) = 1

-- the tokens of a text after the change at place p
abbrev pub changed : List ℕ → ℕ → PlainChange → List ℕ
changed tokens p change = take p tokens ++ put_in change ++ drop (p + taken_out change) tokens

-- the change can be made at place p: a lexeme that goes is there, a token that comes is one of the grammar other than the end token, and it
-- isn't the one that it replaces
abbrev pub IsChangeAt : Grammar → List ℕ → ℕ → PlainChange → Type 0
IsChangeAt g tokens p PlainDelete = p < length tokens
IsChangeAt g tokens p (PlainInsert t) = (p ≤ length tokens) × (t < end_token g)
IsChangeAt g tokens p (PlainReplace t) = (p < length tokens) × (t < end_token g) × (slice_get tokens p ≢ Some t)

-- the number of the change among those of one lexeme: Delete comes first, then insertions by ascending token, then replacements
abbrev pub rank : Grammar → PlainChange → ℕ
rank g PlainDelete = 0
rank g (PlainInsert t) = t + 1
rank g (PlainReplace t) = t + end_token g + 1
