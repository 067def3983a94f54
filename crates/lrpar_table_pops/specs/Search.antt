-- What is said of the stacks of a search over an automaton's table.
use Rattle.std.specs.Prelude.{◌≡◌, ℕ, Bool, List, length}
use Rattle.lrpar_grammar_places.specs.declared.span.StIdx.{StIdx}
use Rattle.lrpar_table_rows.specs.Table.{Table}
use Rattle.lrpar_table_rows.specs.declared.rows.Action.{Action}
use Rattle.lrpar_table_pops.specs.Automaton.{AreAllPopsIn}
use Rattle.lrpar_table_pops.specs.Parts.{Parts}
use Rattle.lrpar_table_pops.specs.Searched.{AreAllGood, AreDone, AreReductionsAt, AreStacks, CompletesAt, GoesOnAllGood, IsGoneOnAt, IsJoinedAt, IsMetAt, IsShiftMetAt, KeepsAllGood, KeepsStacks, ShiftsFrom}
use Rattle.lrpar_table_pops.specs.StoredPops.{any_of}
use Rattle.lrpar_table_pops.specs.Stuck.{IsFaultIf}
use Rattle.lrpar_table_pops.specs.declared.fault.Incompletable.{Incompletable}
use Rattle.lrpar_table_pops.specs.declared.pops.StateExits.{StateExits}
use Rattle.lrpar_table_pops.specs.declared.searched.Searched.{Searched}

-- the first stack of the search is the start state alone, each other one is on top of an earlier one, and the tops are states of the table
abbrev pub HasStacks : {S : Type 0} → (S → ℕ) → Parts → Searched S → Type 0
HasStacks index parts searched = AreStacks index parts.grammar parts.table searched.stacks.items

-- the exits of each stack of the search are all that are good over the states below its top
abbrev pub HasAllGood : {S : Type 0} → (S → ℕ) → Parts → Searched S → Type 0
HasAllGood index parts searched = AreAllGood index parts.grammar parts.graph parts.table searched.stacks.items

-- each stack of the search can be completed by these exits, and was gone on from
abbrev pub IsAllDone : {S : Type 0} → (S → ℕ) → Parts → List StateExits → Searched S → Type 0
IsAllDone index parts pops searched = AreDone index parts.grammar parts.table (any_of pops) searched.stacks.items (length searched.stacks.items)

-- the search's stack at the place can be completed by these exits
abbrev pub CompletesBy : {S : Type 0} → (S → ℕ) → List StateExits → Searched S → ℕ → Type 0
CompletesBy index pops searched place = CompletesAt index (any_of pops) searched.stacks.items place

-- the reductions are good on top of the search's stack at the place, by its good exits
abbrev pub HasReductionsAt : {S : Type 0} → (S → ℕ) → Parts → Searched S → ℕ → List (List Bool) → Type 0
HasReductionsAt index parts searched place reduced = AreReductionsAt index parts.grammar parts.table searched.stacks.items place reduced

-- a shift or a goto leads from the top of the search's stack at the place to state `next`
abbrev pub GoesTo : {S : Type 0} → (S → ℕ) → Parts → Searched S → ℕ → StIdx S → Type 0
GoesTo index parts searched place next = IsJoinedAt index parts.table searched.stacks.items place (index next.0)

-- if the action is a shift, it leads from the top of the search's stack at the place to its state
abbrev pub ShiftsAt : {S : Type 0} → (S → ℕ) → Parts → Searched S → ℕ → Action S → Type 0
ShiftsAt index parts searched place action = ShiftsFrom index parts.table searched.stacks.items place action

-- with state `next` on top of the search's stack at the place, some stack is known
abbrev pub Meets : {S : Type 0} → (S → ℕ) → Parts → Searched S → ℕ → StIdx S → Type 0
Meets index parts searched place next = IsMetAt index parts.grammar parts.table searched.stacks.items place (index next.0)

-- if the action is a shift, some stack is known with its state on top of the search's stack at the place
abbrev pub MeetsShift : {S : Type 0} → (S → ℕ) → Parts → Searched S → ℕ → Action S → Type 0
MeetsShift index parts searched place action = IsShiftMetAt index parts.grammar parts.table searched.stacks.items place action

-- a search has added stacks on top of the one at the place: they are stacks of the table, and the old ones are kept; if the exits of each old
-- stack were all that are good over it, and the reductions are all that are good on top of the stack at the place, the exits of each new
-- stack are all that are good over it
pub record AddsAt {S : Type 0} (index : S → ℕ) (parts : Parts) (place : ℕ) (reduced : List (List Bool)) (old new : Searched S) : Type 0 where
  pub stacks : HasStacks index parts new
  pub keeps : KeepsStacks old.stacks.items new.stacks.items
  pub all_good : KeepsAllGood index parts.grammar parts.graph parts.table place reduced old.stacks.items new.stacks.items

-- a search has gone on from the stack at the place: its stacks are those of the table, and the old ones are kept; if the part is the whole
-- table, runs can leave states by these exits alone, and the exits of each old stack were all that are good over it, those of each new one are
pub record GoesOnAt {S : Type 0} (index : S → ℕ) (parts : Parts) (part : Table) (pops : List StateExits) (place : ℕ) (old new : Searched S) : Type 0 where
  pub stacks : HasStacks index parts new
  pub keeps : KeepsStacks old.stacks.items new.stacks.items
  pub all_good : GoesOnAllGood index parts.grammar parts.graph parts.table part pops old.stacks.items new.stacks.items
  pub gone_on : IsGoneOnAt index parts.grammar parts.table new.stacks.items place

-- if the part is the whole table, and runs can leave states by these exits alone, the states of `Stuck` are a stack that can't be completed
abbrev pub IsFaultIfWhole : {S : Type 0} → (S → ℕ) → Parts → Table → List StateExits → Incompletable S → Type 0
IsFaultIfWhole index parts part pops fault =
    IsFaultIf index parts.grammar parts.table ((part ≡ parts.table) × AreAllPopsIn parts pops) fault

-- if the part is the whole table, runs can leave states by these exits alone, and the exits of each stack of the search are all that are good
-- over the states below its top, the states of `Stuck` are a stack that can't be completed
abbrev pub IsFaultIfAllGood : {S : Type 0} → (S → ℕ) → Parts → Table → List StateExits → Searched S → Incompletable S → Type 0
IsFaultIfAllGood index parts part pops searched fault =
    IsFaultIf index parts.grammar parts.table ((part ≡ parts.table) × AreAllPopsIn parts pops × HasAllGood index parts searched) fault
