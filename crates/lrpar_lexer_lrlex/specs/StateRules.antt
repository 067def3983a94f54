-- Rules with start states, and those that are active in a state.
use Rattle.std.specs.Prelude.{◌≡◌, ℕ, ◌+◌, ◌-◌, ◌==◌, Bool, false, not, List, [], ◌∷◌, ◌++◌, length, map, take, get_or, Option, Some, None, Vec, option_map, if◌then◌else◌}
use Rattle.std.specs.List.{list_any}
use Rattle.lrpar_lexer.specs.Rules as plain
use Rattle.lrpar_lexer.specs.Rules.{Rule}
use Rattle.lrpar_lexer_lrlex.specs.declared.rules.LrlexRules.{LrlexRules}
use Rattle.lrpar_lexer_lrlex.specs.declared.states.Starts as code
use Rattle.lrpar_lexer_lrlex.specs.States.{Target, alone, plain_target, pop, push}

-- the states in front of a rule, and its target
pub record Starts : Type 0 where
  pub states : List ℕ
  pub target : Option Target

abbrev pub plain_starts : code.Starts → Starts
plain_starts start = record { states = start.states.items; target = option_map plain_target start.target }

-- for each state whether it is exclusive; the rules, and their states and targets in the same order
pub record StateRules : Type 0 where
  pub exclusive : List Bool
  pub rules : List Rule
  pub starts : List Starts

abbrev pub plain_state_rules : {S : Type 0} → (S → ℕ) → LrlexRules S → StateRules
plain_state_rules index rules = record {
  exclusive = rules.exclusive.items;
  rules = plain.plain_rules index rules.rules.items;
  starts = map plain_starts rules.starts.items;
}

-- A rule with states in front is active in these. One without is active in each state that isn't exclusive. The flag says whether this one
-- is.
abbrev pub is_active : Bool → ℕ → Starts → Bool
is_active exclusive state start = if length start.states == 0 then not exclusive else list_any (λ s. s == state) start.states

-- the numbers of the rules that are active in a state, in order; the first rule has the number `from`
abbrev pub active_from : ℕ → Bool → ℕ → List Starts → List ℕ
active_from from exclusive state [] = []
active_from from exclusive state (start ∷ starts) =
    if is_active exclusive state start then from ∷ active_from (from + 1) exclusive state starts else active_from (from + 1) exclusive state starts

abbrev pub active : StateRules → ℕ → List ℕ
active rules state = active_from 0 (get_or rules.exclusive state false) state rules.starts

abbrev pub token_at : StateRules → ℕ → Option ℕ
token_at rules rule = get_or (map (λ r. r.token) rules.rules) rule None

abbrev pub target_at : StateRules → ℕ → Option Target
target_at rules rule = get_or (map (λ s. s.target) rules.starts) rule None

-- A stack of states is the one on top and those below it, of which the last is the nearest. A target makes another stack of it, or none if
-- it pops the last state.
abbrev pub moved : Option Target → ℕ → List ℕ → Option (ℕ × List ℕ)
moved None top below = Some (top, below)
moved (Some (push state)) top below = Some (state, below ++ top ∷ [])
moved (Some (alone state)) top below = Some (state, [])
moved (Some pop) top below =
    if length below == 0 then None else Some (get_or below (length below - 1) 0, take (length below - 1) below)

-- these are the numbers of the rules with these states in front that are active in a state, in order
abbrev pub AreActiveOf : {A : Type 0} → List Bool → List code.Starts → ℕ → Vec ℕ A → Type 0
AreActiveOf exclusive starts state numbers =
    numbers.items ≡ active_from 0 (get_or exclusive state false) state (map plain_starts starts)

-- the number of the rule was appended, if the rule is active
abbrev pub AppendsIf : {A : Type 0} → Bool → ℕ → Vec ℕ A → Vec ℕ A → Type 0
AppendsIf is_active rule old new = new.items ≡ old.items ++ (if is_active then rule ∷ [] else [])
