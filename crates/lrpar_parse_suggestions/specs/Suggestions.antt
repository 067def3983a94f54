-- Which changes of one lexeme help at an error, and how far a run comes after each. The run is over the tokens of a text, from the start
-- state on, and stops at the error's place.
use Rattle.std.specs.Prelude.{◌≡◌, ◌<◌, ◌≤◌, ◌+◌, ◌-◌, ◌↔◌, ◌⊎◌, ℕ, Bool, IsTrue, List, length, min, slice_get, take, Some}
use Rattle.lrpar_grammar.specs.Grammar.{Grammar}
use Rattle.lrpar_table_rows.specs.Table.{Table}
use Rattle.lrpar_table_stacks.specs.Expected.{AcceptsAtEnd}
use Rattle.lrpar_table_stacks.specs.Reduction.{Feeds}
use Rattle.lrpar_table_check.specs.ExpectedRuns.{FeedsFront}
use Rattle.lrpar_parse_suggestions.specs.Changed.{PlainChange, IsChangeAt, changed, rank, taken_out}

-- the run from the start feeds all of these tokens, which gives this stack
abbrev pub FeedsTokens : Grammar → Table → List ℕ → List ℕ → Type 0
FeedsTokens g table tokens st = FeedsFront (λ t. t) g table tokens (length tokens) st

-- token t can't be fed at the stack
abbrev pub CannotFeed : Grammar → Table → ℕ → List ℕ → Type 0
CannotFeed g table t st = (prods after : List ℕ) → ¬ (Feeds g table t st prods after)

-- the place up to which a run is followed, in a text of n lexemes: twelve places past the error, or the end
abbrev pub last_place : ℕ → ℕ → ℕ
last_place n place = min (place + 12) n

-- place p is that of the error, or one or two before it, and the error is in the text or at its end
pub record IsNear (n place p : ℕ) : Type 0 where
  pub before : p ≤ place
  pub near : place ≤ p + 2
  pub within : place ≤ n

-- The run over the changed tokens comes to place q of the text, with this stack. It feeds all tokens before q, changed. It is followed no
-- further, or the token at q can't be fed.
pub record ComesTo (g : Grammar) (table : Table) (tokens : List ℕ) (place p : ℕ) (change : PlainChange) (q : ℕ) (st : List ℕ) : Type 0 where
  pub after : p + taken_out change ≤ q
  pub followed : q ≤ last_place (length tokens) place
  pub fed : FeedsTokens g table (changed (take q tokens) p change) st
  pub stops : q < last_place (length tokens) place → (t : ℕ) → slice_get tokens q ≡ Some t → CannotFeed g table t st

-- a change, the place of the lexeme that it is about, how far past the error a run then comes, and whether it accepts
pub record PlainSuggestion : Type 0 where
  pub place : ℕ
  pub change : PlainChange
  pub reach : ℕ
  pub accepts : Bool

-- The suggestion is one for the error at the place: its change can be made near the error, a run then comes as far as it says, and accepts
-- as it says. The change helps: the run accepts; or it comes past the error, and feeds a token of the text after the change.
pub record IsSuggestion (g : Grammar) (table : Table) (tokens : List ℕ) (place : ℕ) (s : PlainSuggestion) : Type 0 where
  pub near : IsNear (length tokens) place s.place
  pub can : IsChangeAt g tokens s.place s.change
  pub stop : ℕ
  pub stack : List ℕ
  pub comes : ComesTo g table tokens place s.place s.change stop stack
  pub reach : s.reach ≡ stop - place
  pub accepts : IsTrue s.accepts ↔ ((stop ≡ length tokens) × AcceptsAtEnd g table stack)
  pub helps : IsTrue s.accepts ⊎ ((place < stop) × (s.place + taken_out s.change < stop))

-- suggestion a comes before b: its place is later, or at the same place its change comes first
abbrev pub ComesBefore : Grammar → PlainSuggestion → PlainSuggestion → Type 0
ComesBefore g a b = (b.place < a.place) ⊎ ((a.place ≡ b.place) × (rank g a.change < rank g b.change))
