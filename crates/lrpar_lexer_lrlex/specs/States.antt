-- Start states.
use Rattle.std.specs.Prelude.{◌≡◌, ℕ, ◌==◌, ◌||◌, ◌&&◌, Bool, false, List, [], ◌∷◌, map, Option, Vec, bytes_eq, position}
use Rattle.std.specs.List.{list_all}
use Rattle.std.specs.Char.{is_ascii_alphabetic, is_ascii_alphanumeric}
use Rattle.lrpar_lexer_lrlex.specs.declared.states.StateName as code
use Rattle.lrpar_lexer_lrlex.specs.declared.states.Target as code_target

-- the name of a start state, and whether it is exclusive
pub record StateName : Type 0 where
  pub name : List ℕ
  pub exclusive : Bool

abbrev pub plain_names : List code.StateName → List StateName
plain_names states = map (λ state. record { name = state.name.now; exclusive = state.exclusive }) states

-- the number of the first state with that name
abbrev pub state_named : List StateName → List ℕ → Option ℕ
state_named states name = position (λ state. bytes_eq state.name name) states

-- an ASCII letter, a digit, `_` or `.`
abbrev pub is_in_name : ℕ → Bool
is_in_name byte = is_ascii_alphanumeric byte || byte == 95 || byte == 46

-- an ASCII letter, and then letters, digits, `_` and `.`
abbrev pub is_state_name : List ℕ → Bool
is_state_name [] = false
is_state_name (first ∷ rest) = is_ascii_alphabetic first && list_all is_in_name rest

-- what a match does to the stack of states: it pushes a state, pops one, or leaves one state alone
pub data Target : Type 0 where
  push : ℕ → Target
  pop : Target
  alone : ℕ → Target

abbrev pub plain_target : code_target.Target → Target
plain_target (code_target.TheVariants.Push state) = push state
plain_target code_target.TheVariants.Pop = pop
plain_target (code_target.TheVariants.Set state) = alone state

-- for each state whether it is exclusive
abbrev pub AreExclusive : {A : Type 0} → List code.StateName → Vec Bool A → Type 0
AreExclusive states exclusive = exclusive.items ≡ map (λ s. s.exclusive) (plain_names states)
