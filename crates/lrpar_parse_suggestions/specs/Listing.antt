-- Suggestions while they are listed: places come one by one, the last one first, and at each place the changes by their numbers.
use Rattle.std.specs.Prelude.{◌≡◌, ◌<◌, ◌≤◌, ◌↔◌, ◌⊎◌, ℕ, AllPairs, Contains, List}
use Rattle.lrpar_grammar.specs.Grammar.{Grammar, end_token}
use Rattle.lrpar_table_rows.specs.Table.{Table}
use Rattle.lrpar_parse_suggestions.specs.Changed.{PlainChange, PlainDelete, PlainInsert, PlainReplace, rank}
use Rattle.lrpar_parse_suggestions.specs.Suggestions.{PlainSuggestion, ComesBefore, IsSuggestion}

-- the list has exactly those suggestions for the error at the place that have P, in order
pub record ListsSuggestions (g : Grammar) (table : Table) (tokens : List ℕ) (place : ℕ) (P : PlainSuggestion → Type 0) (list : List PlainSuggestion) : Type 0 where
  pub ordered : AllPairs (ComesBefore g) list
  pub exact : (s : PlainSuggestion) → Contains list s ↔ (IsSuggestion g table tokens place s × P s)

-- the suggestion is at place p or after it
abbrev pub IsFrom : ℕ → PlainSuggestion → Type 0
IsFrom p s = p ≤ s.place

-- the suggestion is after place p, or it is there and its change has a number below k
abbrev pub IsAheadOf : Grammar → ℕ → ℕ → PlainSuggestion → Type 0
IsAheadOf g p k s = (p < s.place) ⊎ ((s.place ≡ p) × (rank g s.change < k))

-- a token that the change puts in is one of the grammar other than the end token
abbrev pub PutsInToken : Grammar → PlainChange → Type 0
PutsInToken g PlainDelete = Unit {0}
PutsInToken g (PlainInsert t) = t < end_token g
PutsInToken g (PlainReplace t) = t < end_token g
