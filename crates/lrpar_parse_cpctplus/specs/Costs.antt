-- What repair sequences cost.
use Rattle.std.specs.Prelude.{◌<◌, ◌≤◌, ◌+◌, ℕ, List, [], ◌∷◌, Option, Some, None, Vec, slice_index_or}
use Rattle.lrpar_grammar.specs.Grammar.{Grammar}
use Rattle.lrpar_table_stacks.specs.Run.{token_at}
use Rattle.lrpar_parse_repair.specs.Sequences.{PlainStep, PlainInsert, PlainDelete, PlainShift}

-- what a list keeps; nothing if there is no list
abbrev pub items_of : {T A : Type 0} → Option (Vec T A) → List T
items_of None = []
items_of (Some list) = list.items

-- what a token costs
abbrev pub token_cost : List ℕ → ℕ → ℕ
token_cost costs t = slice_index_or costs t 1

-- each token costs something, and at most 255
abbrev pub AreCosts : List ℕ → Type 0
AreCosts costs = (t : ℕ) → (0 < token_cost costs t) × (token_cost costs t ≤ 255)

-- the place after a step at place i
abbrev pub place_after : ℕ → PlainStep → ℕ
place_after i (PlainInsert t) = i
place_after i PlainDelete = i + 1
place_after i PlainShift = i + 1

module _ {X : Type 0} (token : X → ℕ) (g : Grammar) (lexemes : List X) (costs : List ℕ) where
  -- what a step costs at place i: an Insert what its token does, a Delete what that of lexeme i does, a Shift nothing
  abbrev pub step_cost : ℕ → PlainStep → ℕ
  step_cost i (PlainInsert t) = token_cost costs t
  step_cost i PlainDelete = token_cost costs (token_at token g lexemes i)
  step_cost i PlainShift = 0

  -- what steps cost from place i on
  abbrev pub steps_cost : ℕ → List PlainStep → ℕ
  steps_cost i [] = 0
  steps_cost i (step ∷ steps) = step_cost i step + steps_cost (place_after i step) steps
