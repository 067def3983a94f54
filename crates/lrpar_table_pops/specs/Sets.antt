-- Sets of tokens, one for each rule.
use Rattle.std.specs.Prelude.{◌≡◌, ◌⊎◌, ℕ, Bool, IsTrue, List, [], set, slice_index_or, sum_by}
use Rattle.std.specs.List.{Contains}
use Rattle.lrpar_grammar.specs.Tokens.{has, missing}

-- the tokens of rule r
abbrev pub tokens_by : List (List Bool) → ℕ → List Bool
tokens_by sets r = slice_index_or sets r []

-- no rule has a token
abbrev pub HaveNoTokens : List (List Bool) → Type 0
HaveNoTokens sets = (r t : ℕ) → ¬ (IsTrue (has (tokens_by sets r) t))

-- each token is an old one, or one of the others
abbrev pub AddsOnlyTokens : List Bool → List Bool → List Bool → Type 0
AddsOnlyTokens old new others = (t : ℕ) → IsTrue (has new t) → IsTrue (has old t) ⊎ IsTrue (has others t)

-- each token is an old one, or this one
abbrev pub AddsOnlyToken : List Bool → List Bool → ℕ → Type 0
AddsOnlyToken old new token = (t : ℕ) → IsTrue (has new t) → IsTrue (has old t) ⊎ (t ≡ token)

-- a set of tokens for each rule
pub record RuleTokens : Type 0 where
  pub items : List (List Bool)

-- each rule that has a token is one of these, unless some are left out
abbrev pub HaveTokensAlone : List (List Bool) → List ℕ → Bool → Type 0
HaveTokensAlone sets rules short = (r t : ℕ) → IsTrue (has (tokens_by sets r) t) → Contains rules r ⊎ IsTrue short

-- the tokens of the rule are replaced by others, with P
abbrev pub ReplacesTokens : (List Bool → List Bool → Type 0) → ℕ → List (List Bool) → List (List Bool) → Type 0
ReplacesTokens P rule old new = (bits : List Bool) × (new ≡ set old rule bits) × P (tokens_by old rule) bits

-- for how many tokens there is still room
abbrev pub room_in : List (List Bool) → ℕ
room_in sets = sum_by missing sets
