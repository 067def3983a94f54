-- States of two tables to which the same paths of shifts and gotos lead, and the pairs of states that are found.
use Rattle.std.specs.Prelude.{◌≡◌, ◌<◌, ◌≤◌, ◌+◌, ◌*◌, ◌==◌, ◌↔◌, ℕ, Bool, IsTrue, List, [], ◌∷◌, ◌++◌, All, Contains, Option, Some, None, false, length, map, nat_eq, slice_index_or, slice_set}
use Rattle.std.specs.List.{IsDistinct, flat_map, list_any}
use Rattle.std.specs.declared.vec.Vec.{Vec}
use Rattle.lrpar_grammar_places.specs.declared.span.RIdx.{RIdx}
use Rattle.lrpar_grammar_places.specs.declared.span.StIdx.{StIdx}
use Rattle.lrpar_grammar_places.specs.declared.span.TIdx.{TIdx}
use Rattle.lrpar_table_rows.specs.PlainRows.{plain_action}
use Rattle.lrpar_table_rows.specs.declared.rows.Action.{Action}
use Rattle.lrpar_table_rows.specs.Table.{IsClosed, Table, TableAction, ShiftTo, action_of, goto_of, states_len}
use Rattle.lrpar_conflict_examples.specs.declared.paired.Pairs.{Pairs}

-- one step of both tables by the same symbol: from states s and q to states next and beside
pub data IsPairStep (one other : Table) (s q next beside : ℕ) : Type 0 where
  BothShift : (t : ℕ) → action_of one s t ≡ ShiftTo next → action_of other q t ≡ ShiftTo beside → IsPairStep one other s q next beside
  BothGo : (r : ℕ) → goto_of one s r ≡ Some next → goto_of other q r ≡ Some beside → IsPairStep one other s q next beside

-- states s of one table and q of the other to which one path leads: the least set of pairs that has the two starts and, with a pair,
-- each one that a step of both tables leads to
pub data ArePaired (one other : Table) : ℕ → ℕ → Type 0 where
  BothStart : ArePaired one other one.start other.start
  BothStep : (s q next beside : ℕ) → ArePaired one other s q → IsPairStep one other s q next beside → ArePaired one other next beside

-- what is found: for each state of one table those of the other, and the pairs in order
pub record PairLists : Type 0 where
  pub rows : List (List ℕ)
  pub found : List (ℕ × ℕ)

-- whether the rows have states s and q as a pair
abbrev pub has_pair : List (List ℕ) → ℕ → ℕ → Bool
has_pair rows s q = list_any (λ x. x == q) (slice_index_or rows s [])

-- the rows have some pair with state q
abbrev pub HasSomePair : List (List ℕ) → ℕ → Type 0
HasSomePair rows q = (s : ℕ) × IsTrue (has_pair rows s q)

-- the rows have the pairs of both tables, and no others. No more pairs were found than there are states of one table times states of the other
pub record AreAllPairs (one other : Table) (x : PairLists) : Type 0 where
  pub exact : (s q : ℕ) → IsTrue (has_pair x.rows s q) ↔ ArePaired one other s q
  pub bound : length x.found ≤ states_len one * states_len other

-- the number of a pair of states, if the second one is below m
abbrev pub pair_number : ℕ → ℕ × ℕ → ℕ
pair_number m pair = m * pair.0 + pair.1

-- pairs of both tables are found so far, each once; and steps of the tables lead to states of theirs
pub record AreFound (one other : Table) (x : PairLists) : Type 0 where
  pub first : IsClosed one
  pub second : IsClosed other
  pub states : length x.rows ≡ states_len one
  pub same : (s q : ℕ) → IsTrue (has_pair x.rows s q) ↔ Contains x.found (s, q)
  pub sound : (s q : ℕ) → Contains x.found (s, q) → ArePaired one other s q
  pub once : IsDistinct nat_eq (map (pair_number (states_len other)) x.found)

-- the pair was added, unless it was there
pub data AddsPair (s q : ℕ) (old new : PairLists) : Type 0 where
  WasThere : IsTrue (has_pair old.rows s q) → new ≡ old → AddsPair s q old new
  WasNew : has_pair old.rows s q ≡ false → new.rows ≡ slice_set old.rows s (slice_index_or old.rows s [] ++ q ∷ []) → new.found ≡ old.found ++ (s, q) ∷ [] → AddsPair s q old new

-- these are pairs of both tables
abbrev pub AllPaired : Table → Table → List (ℕ × ℕ) → Type 0
AllPaired one other pairs = (s q : ℕ) → Contains pairs (s, q) → ArePaired one other s q

-- pairs come after those that were found, and these are among all
pub record HasFound (one other : Table) (pairs : List (ℕ × ℕ)) (old new : PairLists) : Type 0 where
  pub found : AreFound one other new
  pub more : List (ℕ × ℕ)
  pub grown : new.found ≡ old.found ++ more
  pub all : (s q : ℕ) → Contains pairs (s, q) → Contains new.found (s, q)

-- if pairs of both tables are found so far, and these are pairs of both, they are found then
abbrev pub AddsPairs : List (ℕ × ℕ) → PairLists → PairLists → Type 0
AddsPairs pairs old new =
    (one other : Table) → AreFound one other old → AllPaired one other pairs → HasFound one other pairs old new

-- each pair to which one step of both tables leads from this one is found
abbrev pub IsFollowed : Table → Table → List (ℕ × ℕ) → ℕ × ℕ → Type 0
IsFollowed one other found pair = (next beside : ℕ) → IsPairStep one other pair.0 pair.1 next beside → Contains found (next, beside)

-- what the code's pairs are in plain lists
abbrev pub pairs_in : Pairs → PairLists
pairs_in pairs = record { rows = map (λ row. row.items) pairs.rows.items; found = pairs.found.items }

abbrev pub rows_in : Pairs → List (List ℕ)
rows_in pairs = map (λ row. row.items) pairs.rows.items

abbrev pub HasAllPairs : Table → Table → Pairs → Type 0
HasAllPairs one other = λ pairs. AreAllPairs one other (pairs_in pairs)

abbrev pub AddsOne : ℕ → ℕ → Pairs → Pairs → Type 0
AddsOne s q old new = AddsPair s q (pairs_in old) (pairs_in new)

abbrev pub AddsAll : List (ℕ × ℕ) → Pairs → Pairs → Type 0
AddsAll pairs old new = AddsPairs pairs (pairs_in old) (pairs_in new)

-- the first state of each pair is below n
abbrev pub AreBelow : ℕ → List (ℕ × ℕ) → Type 0
AreBelow n pairs = All (λ pair. pair.0 < n) pairs

-- this number of rows, all empty
pub record AreEmptyRows (n : ℕ) (rows : List (List ℕ)) : Type 0 where
  pub len : length rows ≡ n
  pub none : (s : ℕ) → slice_index_or rows s [] ≡ []

abbrev pub HasEmptyRows : {A B : Type 0} → ℕ → Vec (Vec ℕ A) B → Type 0
HasEmptyRows n = λ rows. AreEmptyRows n (map (λ row. row.items) rows.items)

-- the pair to which actions at one token lead, if both are shifts, and the one to which gotos by one rule lead
abbrev pub shift_pair : TableAction → TableAction → List (ℕ × ℕ)
shift_pair (ShiftTo next) (ShiftTo beside) = (next, beside) ∷ []
shift_pair first second = []

abbrev pub goto_pair : ℕ → Option ℕ → List (ℕ × ℕ)
goto_pair next (Some beside) = (next, beside) ∷ []
goto_pair next None = []

-- the pairs to which one step of both tables leads from states s and q
abbrev pub shift_pairs : Table → ℕ → List (ℕ × TableAction) → List (ℕ × ℕ)
shift_pairs other q entries = flat_map (λ entry. shift_pair entry.1 (action_of other q entry.0)) entries

abbrev pub goto_pairs : Table → ℕ → List (ℕ × ℕ) → List (ℕ × ℕ)
goto_pairs other q entries = flat_map (λ entry. goto_pair entry.1 (goto_of other q entry.0)) entries

-- the pairs are exactly those to which one step of both tables leads from states s and q
abbrev pub AreNextPairs : {A : Type 0} → Table → Table → ℕ → ℕ → Vec (ℕ × ℕ) A → Type 0
AreNextPairs one other s q = λ pairs. (next beside : ℕ) → Contains pairs.items (next, beside) ↔ IsPairStep one other s q next beside

-- the pair by the code's actions at a token was appended, and the one by its gotos by a rule
abbrev pub AppendsShiftPair : {S A : Type 0} → (S → ℕ) → Table → StIdx S → TIdx S → Action S → Vec (ℕ × ℕ) A → Vec (ℕ × ℕ) A → Type 0
AppendsShiftPair index other q t action old new =
    new.items ≡ old.items ++ shift_pair (plain_action index action) (action_of other (index q.0) (index t.0))

abbrev pub AppendsGotoPair : {S A : Type 0} → (S → ℕ) → Table → StIdx S → RIdx S → StIdx S → Vec (ℕ × ℕ) A → Vec (ℕ × ℕ) A → Type 0
AppendsGotoPair index other q r next old new = new.items ≡ old.items ++ goto_pair (index next.0) (goto_of other (index q.0) (index r.0))
