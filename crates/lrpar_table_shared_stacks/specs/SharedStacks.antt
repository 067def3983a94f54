-- Stacks of states that share their lower states, by numbers.
use Rattle.std.specs.Prelude.{◌≡◌, ◌<◌, ◌≤◌, ◌+◌, ◌-◌, ℕ, List, [], ◌∷◌, ◌++◌, length, slice_get, slice_index_or, take, Some}
use Rattle.lrpar_grammar_places.specs.declared.span.StIdx.{StIdx}
use Rattle.lrpar_table_stacks.specs.Stack.{Pushes, Replaces}
use Rattle.lrpar_table_shared_stacks.specs.declared.shared_stacks.Top.{Top}

-- the stacks by their numbers; and of the current one the number of the stack that it begins with, and its states above that
pub record Shared : Type 0 where
  pub stacks : List (List ℕ)
  pub below : ℕ
  pub above : List ℕ

-- the stack with a number
abbrev pub stack_at : List (List ℕ) → ℕ → List ℕ
stack_at stacks n = slice_index_or stacks n []

-- the current stack
abbrev pub current_stack : Shared → List ℕ
current_stack s = stack_at s.stacks s.below ++ s.above

-- no two numbers have the same stack
abbrev pub AreApart : List (List ℕ) → Type 0
AreApart stacks = (m n : ℕ) → m < length stacks → n < length stacks → stack_at stacks m ≡ stack_at stacks n → m ≡ n

-- there are more stacks, perhaps, and those that were there have their numbers
abbrev pub Extends : Shared → Shared → Type 0
Extends old new = (more : List (List ℕ)) × (new.stacks ≡ old.stacks ++ more)

-- the number of a stack means the same stack from then on
abbrev pub NumberedStacksStay : Type 0
NumberedStacksStay =
    (old new : Shared) (n : ℕ) → Extends old new → n < length old.stacks → (n < length new.stacks) × (stack_at new.stacks n ≡ stack_at old.stacks n)

-- the stack with this number has the states of a numbered one, without this number of its top states
abbrev pub IsBelow : List (List ℕ) → ℕ → ℕ → ℕ → Type 0
IsBelow stacks number count below = stack_at stacks below ≡ take (length (stack_at stacks number) - count) (stack_at stacks number)

-- the number is one of the stacks, and means this one
pub record IsNumberOf (stack : List ℕ) (stacks : List (List ℕ)) (number : ℕ) : Type 0 where
  pub within : number < length stacks
  pub means : stack_at stacks number ≡ stack

-- the number means the stack that has the state of code on top of a numbered one
abbrev pub IsNumberOfPushed : {S : Type 0} → (S → ℕ) → ℕ → StIdx S → Shared → Shared → ℕ → Type 0
IsNumberOfPushed index below state old new number = IsNumberOf (stack_at old.stacks below ++ index state.0 ∷ []) new.stacks number

-- a numbered stack with this number of states of the current one's list is the current one without so many of its top states
abbrev pub IsPartLeft : Shared → ℕ → ℕ → ℕ → Type 0
IsPartLeft s count below left = stack_at s.stacks below ++ take left s.above ≡ take (length (current_stack s) - count) (current_stack s)

-- the state of code was pushed onto the current stack
abbrev pub PushesCurrent : {S : Type 0} → (S → ℕ) → StIdx S → Shared → Shared → Type 0
PushesCurrent index state old new = Pushes index state (current_stack old) (current_stack new)

-- this number of states of the current stack was dropped, and the state of code was pushed
abbrev pub ReplacesCurrent : {S : Type 0} → (S → ℕ) → ℕ → StIdx S → Shared → Shared → Type 0
ReplacesCurrent index symbols state old new = Replaces index symbols state (current_stack old) (current_stack new)

-- the stack that has a state on top of a numbered one
abbrev pub stack_of : List (List ℕ) → Top → List ℕ
stack_of stacks top = stack_at stacks top.below ++ top.state ∷ []

-- the stacks of these tops, in order, after others
abbrev pub stacks_after : List (List ℕ) → List Top → List (List ℕ)
stacks_after stacks [] = stacks
stacks_after stacks (top ∷ tops) = stacks_after (stacks ++ stack_of stacks top ∷ []) tops

-- the stacks of these tops by their numbers: number 0 is the empty stack, and top i is that of stack i + 1
abbrev pub stacks_of : List Top → List (List ℕ)
stacks_of tops = stacks_after ([] ∷ []) tops

-- a top that is on one of the first i + 1 stacks, and has the height of its own
pub record IsTop (stacks : List (List ℕ)) (i : ℕ) (top : Top) : Type 0 where
  pub below : top.below ≤ i
  pub height : top.height ≡ length (stack_at stacks top.below) + 1

-- each top is on an earlier stack, and has the height of its own
abbrev pub AreTops : List Top → Type 0
AreTops tops = (i : ℕ) (top : Top) → slice_get tops i ≡ Some top → IsTop (stacks_of tops) i top

-- each top is one of a stack, with a state below the limit; no two stacks are the same; and this number is that of one
pub record AreShared (limit : ℕ) (tops : List Top) (number : ℕ) : Type 0 where
  pub each : AreTops tops
  pub fits : (i : ℕ) (top : Top) → slice_get tops i ≡ Some top → top.state < limit
  pub apart : AreApart (stacks_of tops)
  pub within : number < length (stacks_of tops)
