-- Stacks after all reductions at a token, and after the token's shift.
use Rattle.std.specs.Prelude.{◌≡◌, ◌≢◌, ◌≤◌, ◌+◌, ℕ, List, Bool, true, false, length}
use Rattle.lrpar_grammar.specs.Grammar.{Grammar, prod_len}
use Rattle.lrpar_table_stacks.specs.Chain.{most_reductions}
use Rattle.lrpar_table_stacks.specs.Reduction.{Reduces, ReducesBy, Settles, Feeds, top_action}
use Rattle.lrpar_table_stacks.specs.Stack.{IsStack}
use Rattle.lrpar_table_rows.specs.Table.{Table, ShiftTo}

-- At token t the stack makes all reductions, which give the stack `after`; `count` is their number. They are at most `cap` for
-- each state that the stack had; and at most `cap` for each state that it lost, and for `cap + 2` more.
pub record IsSettledBy (g : Grammar) (table : Table) (cap t : ℕ) (st : List ℕ) (count : ℕ) (after : List ℕ) : Type 0 where
  pub prods : List ℕ
  pub settles : Settles g table t st prods after
  pub counted : count ≡ length prods
  pub stack : IsStack table after
  pub by_height : length prods ≤ most_reductions cap (length st)
  pub by_loss : length prods + most_reductions cap (length after) ≤ most_reductions cap (length st + cap + 2)

-- at token t the stack makes all reductions, and then shifts the token, which gives the stack `after`; or the top doesn't
-- shift it
abbrev pub IsFedBy : Grammar → Table → ℕ → ℕ → List ℕ → Bool → List ℕ → Type 0
IsFedBy g table cap t st true after = (prods : List ℕ) × Feeds g table t st prods after
IsFedBy g table cap t st false after =
    ((count : ℕ) × IsSettledBy g table cap t st count after) × ((next : ℕ) → top_action table t after ≢ ShiftTo next)

-- An allocation failed for a list that had room for `room` states, and then has room for `room_after`. At token t the stack
-- makes the first reductions, which give the stack `after`; the next one is due, by a production without symbols; the room
-- didn't shrink; and `after` fills it.
pub record IsShortOfMemory (g : Grammar) (table : Table) (t : ℕ) (st : List ℕ) (room : ℕ) (after : List ℕ) (room_after : ℕ) : Type 0 where
  pub prods : List ℕ
  pub reduced : ReducesBy g table t st prods after
  pub prod : ℕ
  pub next : List ℕ
  pub due : Reduces g table t after prod next
  pub empty : prod_len g prod ≡ 0
  pub grown : room ≤ room_after
  pub full : room_after ≤ length after

-- An allocation failed for a list that had room for `room` states, and then has room for `room_after`. At token t the stack
-- makes all reductions, which give the stack `after`; its top shifts the token; the room didn't shrink; and `after` fills
-- it.
pub record IsShiftShortOfMemory (g : Grammar) (table : Table) (cap t : ℕ) (st : List ℕ) (room : ℕ) (after : List ℕ) (room_after : ℕ) : Type 0 where
  pub count : ℕ
  pub settled : IsSettledBy g table cap t st count after
  pub next : ℕ
  pub due : top_action table t after ≡ ShiftTo next
  pub grown : room ≤ room_after
  pub full : room_after ≤ length after
