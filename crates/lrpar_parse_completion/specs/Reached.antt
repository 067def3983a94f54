-- Stacks that are reached from a stack by tokens, as a search finds them; and tokens that finish a stack.
use Rattle.std.specs.Prelude.{◌≡◌, ◌<◌, ◌++◌, ℕ, List, MatchOption, Option, Some, Vec, map, slice_get}
use Rattle.lrpar_grammar.specs.Grammar.{Grammar, end_token}
use Rattle.lrpar_table_rows.specs.Table.{Table}
use Rattle.lrpar_table_stacks.specs.Expected.{AcceptsAtEnd, tokens_of}
use Rattle.lrpar_table_stacks.specs.Reduction.{Feeds}
use Rattle.lrpar_table_stacks.specs.Stack.{IsStack, states_of}
use Rattle.lrpar_grammar_places.specs.declared.span.TIdx.{TIdx}
use Rattle.lrpar_parse_completion.specs.Nearest.{FeedsAll}
use Rattle.lrpar_parse_completion.specs.declared.finder.Reached.{Reached}

-- the tokens finish the stack: they are fed in turn, and then the stack accepts
abbrev pub Finishes : Grammar → Table → List ℕ → List ℕ → Type 0
Finishes g table st tokens = (after : List ℕ) × FeedsAll g table st tokens after × AcceptsAtEnd g table after

-- tokens, and the stack to which they lead
pub record ReachedOf : Type 0 where
  pub tokens : List ℕ
  pub stack : List ℕ

abbrev pub reached_of : {S : Type 0} → (S → ℕ) → Reached S → ReachedOf
reached_of index reached = record { tokens = tokens_of index reached.tokens.items; stack = states_of index reached.stack.items }

abbrev pub all_reached : {S A : Type 0} → (S → ℕ) → Vec (Reached S) A → List ReachedOf
all_reached index found = map (reached_of index) found.items

-- from the stack the tokens lead to the other one, which is a stack of the table
pub record IsReached (g : Grammar) (table : Table) (st : List ℕ) (reached : ReachedOf) : Type 0 where
  pub fed : FeedsAll g table st reached.tokens reached.stack
  pub stack : IsStack table reached.stack

-- each of these is reached
abbrev pub AreReached : Grammar → Table → List ℕ → List ReachedOf → Type 0
AreReached g table st all = (i : ℕ) (reached : ReachedOf) → slice_get all i ≡ Some reached → IsReached g table st reached

-- the stack is among them
abbrev pub HasReached : List ReachedOf → List ℕ → Type 0
HasReached all st = (i : ℕ) × (reached : ReachedOf) × (slice_get all i ≡ Some reached) × (reached.stack ≡ st)

-- the stack doesn't accept; and each one that a token leads to from it is among these
pub record IsLeft (g : Grammar) (table : Table) (all : List ReachedOf) (st : List ℕ) : Type 0 where
  pub refuses : ¬ (AcceptsAtEnd g table st)
  pub next : (t : ℕ) (prods next : List ℕ) → t < end_token g → Feeds g table t st prods next → HasReached all next

-- more were added at the end; they are reached, if the earlier ones are
pub record AddsReached (g : Grammar) (table : Table) (old new : List ReachedOf) : Type 0 where
  pub more : List ReachedOf
  pub grown : new ≡ old ++ more
  pub reached : (st : List ℕ) → AreReached g table st old → AreReached g table st new

-- what finishes a stack, after the tokens that lead to it; or it doesn't accept
abbrev pub FinishesAfter : {S A : Type 0} → (S → ℕ) → Grammar → Table → ReachedOf → Option (Vec (TIdx S) A) → Type 0
FinishesAfter index g table reached found =
    MatchOption found (¬ (AcceptsAtEnd g table reached.stack))
    (λ tokens. (st : List ℕ) → IsReached g table st reached → Finishes g table st (tokens_of index tokens.items))
