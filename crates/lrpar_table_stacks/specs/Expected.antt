-- The tokens that may come next at a stack: those that can be fed, and the end token, if the stack accepts.
use Rattle.std.specs.Prelude.{◌≡◌, ◌≢◌, ◌↔◌, ◌⊎◌, ℕ, List, [], Contains, length, map}
use Rattle.std.specs.List.Sorted.{IsStrictlyIncreasing}
use Rattle.lrpar_grammar_places.specs.declared.span.TIdx.{TIdx}
use Rattle.lrpar_grammar.specs.Grammar.{Grammar, end_token}
use Rattle.lrpar_table_rows.specs.Table.{Table, Accepts}
use Rattle.lrpar_table_stacks.specs.Overlay.{IsShortOfMemoryOver, Overlaid}
use Rattle.lrpar_table_stacks.specs.Reduction.{Feeds, Settles, top_action}

-- after all reductions at the end token the top accepts
pub record AcceptsAtEnd (g : Grammar) (table : Table) (st : List ℕ) : Type 0 where
  pub prods : List ℕ
  pub settled : List ℕ
  pub settles : Settles g table (end_token g) st prods settled
  pub action : top_action table (end_token g) settled ≡ Accepts

-- token t may come next at the stack: it can be fed; or it is the end token, and the stack accepts
abbrev pub IsExpected : Grammar → Table → List ℕ → ℕ → Type 0
IsExpected g table st t =
    ((t ≢ end_token g) × ((prods after : List ℕ) × Feeds g table t st prods after)) ⊎ ((t ≡ end_token g) × AcceptsAtEnd g table st)

-- these are the tokens that may come next, ascending
pub record AreExpected (g : Grammar) (table : Table) (st tokens : List ℕ) : Type 0 where
  pub ascending : IsStrictlyIncreasing tokens
  pub exact : (t : ℕ) → Contains tokens t ↔ IsExpected g table st t

-- the numbers of these tokens
abbrev pub tokens_of : {S : Type 0} → (S → ℕ) → List (TIdx S) → List ℕ
tokens_of index tokens = map (λ t. index t.0) tokens

-- the stack as an overlay, with no states above it, and with room for this number of states there
abbrev pub laid_over : List ℕ → ℕ → Overlaid
laid_over st room = record { base = st; kept = length st; tail = []; room = room }

-- the overlay has its whole base, no states above it, and the room that it had
abbrev pub IsSetBack : Overlaid → Overlaid → Type 0
IsSetBack old new = new ≡ laid_over old.base old.room

-- An allocation failed when token t was tried: for the states that the token's reductions push over the stack. The overlay had
-- this room for them at first, and is then full.
pub record IsTriedShortOfMemory (g : Grammar) (table : Table) (t : ℕ) (st : List ℕ) : Type 0 where
  pub room : ℕ
  pub new : Overlaid
  pub short : IsShortOfMemoryOver g table t (laid_over st room) new

-- an allocation failed: for the list, with a token that may come next; or for the reductions under some token
abbrev pub IsListShortOfMemory : Grammar → Table → List ℕ → Type 0
IsListShortOfMemory g table st = (t : ℕ) × (IsExpected g table st t ⊎ IsTriedShortOfMemory g table t st)
