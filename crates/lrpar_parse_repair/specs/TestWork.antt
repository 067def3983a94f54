-- How many reductions the test of a sequence makes, and those of several.
use Rattle.std.specs.Prelude.{◌≡◌, ◌<◌, ◌≤◌, ◌+◌, ◌*◌, ◌⊎◌, ℕ, zero, suc, List, [], ◌∷◌, ◌++◌, length}
use Rattle.std.specs.List.{sum_by}
use Rattle.lrpar_grammar.specs.Grammar.{Grammar, GrammarSymbol, end_token}
use Rattle.lrpar_table_rows.specs.Table.{Table}
use Rattle.lrpar_table_stacks.specs.Chain.{IsBounded}
use Rattle.lrpar_table_stacks.specs.Path.{IsPath, NeverSticks}
use Rattle.lrpar_table_stacks.specs.Reduction.{Feeds, Settles}
use Rattle.lrpar_table_stacks.specs.Run.{token_at}
use Rattle.lrpar_parse_repair.specs.Sequences.{PlainStep, PlainInsert, PlainDelete, PlainShift, StepsTo}

module _ {X : Type 0} (token : X → ℕ) (g : Grammar) (table : Table) (lexemes : List X) where
  -- from the stack at place i at most this number of lexemes are fed, with these reductions: all of them; or those before the one at
  -- which the test ends, after all reductions at its token
  abbrev pub GoesOnBy : ℕ → List ℕ → ℕ → List ℕ → Type 0
  GoesOnBy zero st i prods = prods ≡ []
  GoesOnBy (suc k) st i prods =
      ((first next rest : List ℕ) × Feeds g table (token_at token g lexemes i) st first next × GoesOnBy k next (i + 1) rest × (prods ≡ first ++ rest))
      ⊎ ((settled : List ℕ) × Settles g table (token_at token g lexemes i) st prods settled)

  -- the test ends at the step, with these reductions: those at its token, or none
  abbrev pub EndsBy : List ℕ → ℕ → PlainStep → List ℕ → Type 0
  EndsBy st i (PlainInsert t) prods = (prods ≡ []) ⊎ ((settled : List ℕ) × (t < end_token g) × Settles g table t st prods settled)
  EndsBy st i PlainDelete prods = prods ≡ []
  EndsBy st i PlainShift prods = (prods ≡ []) ⊎ ((settled : List ℕ) × Settles g table (token_at token g lexemes i) st prods settled)

  -- from the stack at place i the test of the sequence makes these reductions: those of each step that is taken, and then those of the
  -- lexemes that are fed after the sequence, or of the step at which the test ends
  abbrev pub TestedBy : ℕ → List ℕ → ℕ → List PlainStep → List ℕ → Type 0
  TestedBy k st i [] prods = GoesOnBy k st i prods
  TestedBy k st i (step ∷ steps) prods =
      ((first next rest : List ℕ) × (j : ℕ) × StepsTo token g table lexemes st i step first next j × TestedBy k next j steps rest × (prods ≡ first ++ rest))
      ⊎ EndsBy st i step prods

-- how many reductions the test of a sequence with this number of steps makes at most, from a stack of this height, if k lexemes must
-- follow a repair
abbrev pub most_tested : ℕ → ℕ → ℕ → ℕ → ℕ
most_tested cap height steps k = cap * (height + (steps + k + 1) * (cap + 3))

-- how many reductions the tests of these sequences make at most, each from a stack of this height, if k lexemes must follow a repair
abbrev pub most_listed : ℕ → ℕ → ℕ → List (List PlainStep) → ℕ
most_listed cap height k sequences = sum_by (λ steps. most_tested cap height (length steps) k) sequences

-- if runs over the table never stick and its reductions are bounded, the test of a sequence is bounded
abbrev pub BoundsTests : Type 0 → Type 0
BoundsTests X =
    (token : X → ℕ) (g : Grammar) (table : Table) (cap : ℕ) (lexemes : List X) (symbols : List GrammarSymbol) (k : ℕ) (st : List ℕ) (i : ℕ) (steps : List PlainStep) (prods : List ℕ)
    → NeverSticks g table → IsBounded g table cap → ((j : ℕ) → token_at token g lexemes j < table.tokens) → end_token g < table.tokens
    → IsPath table symbols st → TestedBy token g table lexemes k st i steps prods
    → length prods ≤ most_tested cap (length st) (length steps) k
