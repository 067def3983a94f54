-- How the nearest place is found: the stacks after the first tokens, and what is known of the places that were tried.
use Rattle.std.specs.Prelude.{◌≡◌, ◌<◌, ◌≤◌, ◌+◌, ℕ, Bool, true, false, List, All, Some, Vec, length, map, slice_get, take}
use Rattle.lrpar_grammar_places.specs.declared.span.StIdx.{StIdx}
use Rattle.lrpar_grammar.specs.Grammar.{Grammar, end_token}
use Rattle.lrpar_table_rows.specs.Table.{Table}
use Rattle.lrpar_table_stacks.specs.Reduction.{Feeds}
use Rattle.lrpar_table_stacks.specs.Stack.{IsStack, states_of}
use Rattle.lrpar_parse_repair.specs.Asked.{Asked}
use Rattle.lrpar_parse_completion.specs.Nearest.{FeedsAll, GoesOnAt}

-- the states of each of these stacks
abbrev pub stacks_of : {S A : Type 0} → (S → ℕ) → List (Vec (StIdx S) A) → List (List ℕ)
stacks_of index stacks = map (λ stack. states_of index stack.items) stacks

-- the token is one of the grammar other than the end token, and was fed; or it is no such token, or can't be fed
abbrev pub IsInserted : Grammar → Table → ℕ → List ℕ → List ℕ → Bool → Type 0
IsInserted g table t st after true = (t < end_token g) × ((prods : List ℕ) × Feeds g table t st prods after)
IsInserted g table t st after false = t < end_token g → (prods next : List ℕ) → ¬ (Feeds g table t st prods next)

-- the stacks after none, one, two, .. of the tokens: at most `most` of them, as long as they can be fed
pub record AreTried (g : Grammar) (table : Table) (st : List ℕ) (most : ℕ) (tokens : List ℕ) (stacks : List (List ℕ)) : Type 0 where
  pub are : All (IsStack table) stacks
  pub few : length stacks ≤ most + 1
  pub some : length stacks ≤ length tokens + 1
  pub fed : (m : ℕ) (after : List ℕ) → slice_get stacks m ≡ Some after → FeedsAll g table st (take m tokens) after
  pub all : (m : ℕ) (after : List ℕ) → m ≤ length tokens → m ≤ most → FeedsAll g table st (take m tokens) after → m < length stacks

-- the parse can go on at the place after no number of the tokens
abbrev pub NeverGoesOn : {X : Type 0} → (X → ℕ) → Asked X → List ℕ → ℕ → Type 0
NeverGoesOn token at tokens j = (m : ℕ) → m ≤ length tokens → ¬ (GoesOnAt token at tokens j m)

-- the parse can go on at the place after m of the tokens, and not after fewer
pub record IsFewest {X : Type 0} (token : X → ℕ) (at : Asked X) (tokens : List ℕ) (j m : ℕ) : Type 0 where
  pub some : m ≤ length tokens
  pub goes_on : GoesOnAt token at tokens j m
  pub fewest : (n : ℕ) → n < m → ¬ (GoesOnAt token at tokens j n)
