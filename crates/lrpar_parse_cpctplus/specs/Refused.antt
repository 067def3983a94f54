-- Why costs are refused.
use Rattle.std.specs.Prelude.{◌≡◌, ◌<◌, ℕ, List, length}
use Rattle.lrpar_grammar_places.specs.declared.span.TIdx.{TIdx}
use Rattle.lrpar_grammar.specs.Grammar.{Grammar, tokens_len}
use Rattle.lrpar_parse_cpctplus.specs.Costs.{token_cost}
use Rattle.lrpar_parse_cpctplus.specs.Said.{AreSaid, said_by}
use Rattle.lrpar_parse_cpctplus.specs.declared.fault.CostFault.{CostFault}
use Rattle.lrpar_parse_cpctplus.specs.declared.fault.CostFault.TheVariants.{CostsNothing, Memory}

-- the token is the first one of the list that costs nothing
pub record IsFirstFree (costs : List ℕ) (token : ℕ) : Type 0 where
  pub within : token < length costs
  pub free : token_cost costs token ≡ 0
  pub first : (t : ℕ) → t < token → 0 < token_cost costs t

-- the fault names the first token of the list that costs nothing
abbrev pub IsFreeToken : List ℕ → CostFault → Type 0
IsFreeToken costs (CostsNothing token) = IsFirstFree costs token
IsFreeToken costs Memory = ⊥

-- the fault names the first of the first `count` tokens that costs nothing, as a function says what they cost; or it is `Memory`
abbrev pub IsFreeBy : (ℕ → ℕ → Type 0) → ℕ → CostFault → Type 0
IsFreeBy says count (CostsNothing token) = (costs : List ℕ) × AreSaid says count costs × IsFirstFree costs token
IsFreeBy says count Memory = Unit {0}

-- the fault names the first token of a grammar that costs nothing, as a function says what they cost; or it is `Memory`. `index` gives the
-- number of a value of the storage type.
abbrev pub IsFreeTokenBy : {S : Type 0} → (S → ℕ) → (TIdx S → ℕ → Type 0) → Grammar → CostFault → Type 0
IsFreeTokenBy index says g = λ fault. IsFreeBy (said_by index says) (tokens_len g) fault
