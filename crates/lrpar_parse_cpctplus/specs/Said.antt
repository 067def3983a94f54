-- What a function says that tokens cost.
use Rattle.std.specs.Prelude.{◌≡◌, ◌<◌, ℕ, List, length}
use Rattle.lrpar_grammar_places.specs.declared.span.TIdx.{TIdx}
use Rattle.lrpar_parse_cpctplus.specs.Costs.{token_cost}

-- what the function returns for tokens, by their numbers
abbrev pub said_by : {S : Type 0} → (S → ℕ) → (TIdx S → ℕ → Type 0) → ℕ → ℕ → Type 0
said_by {S} index answers t cost = (token : TIdx S) × (index token.0 ≡ t) × answers token cost

-- the list has `count` tokens, and each costs what the function says
pub record AreSaid (says : ℕ → ℕ → Type 0) (count : ℕ) (costs : List ℕ) : Type 0 where
  pub long : length costs ≡ count
  pub each : (t : ℕ) → t < count → says t (token_cost costs t)
