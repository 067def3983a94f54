-- Rules with start states, as they are stored. `index` gives the number of a value of the storage type.
use Rattle.std.specs.Prelude.{◌≡◌, ℕ, List, Option, None, Vec, map, option_map}
use Rattle.lrpar_grammar_places.specs.declared.span.TIdx.{TIdx}
use Rattle.lrpar_lexer.specs.Matchers.{programs_of}
use Rattle.lrpar_lexer.specs.Rules.{anchored_of, number_of}
use Rattle.lrpar_lexer.specs.declared.matching.Matchers.{Matchers}
use Rattle.lrpar_lexer_lrlex.specs.declared.rules.LrlexRules.{LrlexRules}
use Rattle.lrpar_lexer_lrlex.specs.declared.states.Target as code
use Rattle.lrpar_lexer_lrlex.specs.StateRules.{active, plain_state_rules, target_at, token_at}
use Rattle.lrpar_lexer_lrlex.specs.States.{plain_target}

module _ {S : Type 0} (index : S → ℕ) (rules : LrlexRules S) where
  -- the rule with this number has this target, or none
  abbrev pub HasTargetAt : ℕ → Option code.Target → Type 0
  HasTargetAt rule target = option_map plain_target target ≡ target_at (plain_state_rules index rules) rule

  -- the rule with this number has this token, or none
  abbrev pub HasTokenAt : ℕ → Option (TIdx S) → Type 0
  HasTokenAt rule token = number_of index token ≡ token_at (plain_state_rules index rules) rule

  -- these are the numbers of the rules that are active in the state
  abbrev pub AreActive : {A : Type 0} → ℕ → Vec ℕ A → Type 0
  AreActive state numbers = numbers.items ≡ active (plain_state_rules index rules) state

  -- if there is no target, these are the numbers of the rules that are active in the state
  abbrev pub AreActiveWithout : {A : Type 0} → Option code.Target → ℕ → Vec ℕ A → Type 0
  AreActiveWithout target state numbers = option_map plain_target target ≡ None → AreActive state numbers

  -- the searches are those for the patterns of the rules, and the numbers are those of the rules that are active in the state
  pub record AreReady (state : ℕ) (matchers : Matchers) (numbers : List ℕ) : Type 0 where
    pub programs : programs_of matchers ≡ map anchored_of rules.rules.items
    pub active : numbers ≡ active (plain_state_rules index rules) state
