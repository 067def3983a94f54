-- The stacks that a search over a table tells apart: each by its top, and by exits of the top that are good over the states below. One such
-- place is for many stacks of the table: it is for each stack with this top over whose states below the exits are good.
use Rattle.std.specs.Prelude.{◌≡◌, ◌<◌, ◌≤◌, ℕ, Bool, List, [], ◌∷◌, Some, length, slice_get}
use Rattle.lrpar_grammar.specs.Grammar.{Grammar}
use Rattle.lrpar_table_rows.specs.PlainRows.{plain_action}
use Rattle.lrpar_table_rows.specs.Table.{ShiftTo, Table, states_len}
use Rattle.lrpar_table_rows.specs.declared.rows.Action.{Action}
use Rattle.lrpar_table_stacks.specs.Stack.{IsJoined}
use Rattle.lrpar_table_pops.specs.Exits.{HaveAllExits, HaveExitInCommon}
use Rattle.lrpar_table_rows.specs.Graph.{Graph}
use Rattle.lrpar_table_pops.specs.AllGood.{AreAllGoodOver, LeadToAll}
use Rattle.lrpar_table_pops.specs.Closed.{AreAllPopsOf}
use Rattle.lrpar_table_pops.specs.Growth.{HasLookahead}
use Rattle.lrpar_table_pops.specs.declared.exits.Way.{Way}
use Rattle.lrpar_table_pops.specs.Good.{AreGoodOver, LeadToExits, LeadToReductions}
use Rattle.lrpar_table_pops.specs.declared.exits.Exit.{Exit}
use Rattle.lrpar_table_pops.specs.declared.pops.StateExits.{StateExits}
use Rattle.lrpar_table_pops.specs.declared.searched.Stack.{Stack}

-- the stack is at this place
abbrev pub IsStackAt : {S : Type 0} → List (Stack S) → ℕ → Stack S → Type 0
IsStackAt stacks place stack = slice_get stacks place ≡ Some stack

-- a stack with this top has no good exits but these
abbrev pub IsCovered : {S : Type 0} → (S → ℕ) → List (Stack S) → ℕ → List Exit → Type 0
IsCovered {S} index stacks top good =
    (place : ℕ) × (known : Stack S) × IsStackAt stacks place known × (index known.top.0 ≡ top) × HaveAllExits good known.good

-- with state `next` on top of the stack, some stack is known: where the stack's exits are good, that one's are good on top of it
abbrev pub IsMet : {S : Type 0} → (S → ℕ) → Grammar → Table → List (Stack S) → Stack S → ℕ → Type 0
IsMet {S} index g table stacks stack next =
    (place : ℕ) × (above : Stack S) × IsStackAt stacks place above × (index above.top.0 ≡ next) × LeadToExits g table (index stack.top.0) stack.good above.good

-- each state is met to which a shift or a goto leads from the stack's top
abbrev pub IsGoneOn : {S : Type 0} → (S → ℕ) → Grammar → Table → List (Stack S) → Stack S → Type 0
IsGoneOn index g table stacks stack = (next : ℕ) → IsJoined table (index stack.top.0) next → IsMet index g table stacks stack next

-- a run can leave the stack's top by a good one of the top's exits
abbrev pub CanComplete : {S : Type 0} → (S → ℕ) → (ℕ → List Exit) → Stack S → Type 0
CanComplete index exits stack = HaveExitInCommon (exits (index stack.top.0)) stack.good

-- the stack at the place can be completed so
abbrev pub CompletesAt : {S : Type 0} → (S → ℕ) → (ℕ → List Exit) → List (Stack S) → ℕ → Type 0
CompletesAt {S} index exits stacks place = (stack : Stack S) → IsStackAt stacks place stack → CanComplete index exits stack

-- the stack at the place was gone on from
abbrev pub IsGoneOnAt : {S : Type 0} → (S → ℕ) → Grammar → Table → List (Stack S) → ℕ → Type 0
IsGoneOnAt {S} index g table stacks place = (stack : Stack S) → IsStackAt stacks place stack → IsGoneOn index g table stacks stack

-- each of the first stacks can be completed, and was gone on from
pub record AreDone {S : Type 0} (index : S → ℕ) (g : Grammar) (table : Table) (exits : ℕ → List Exit) (stacks : List (Stack S)) (done : ℕ) : Type 0 where
  pub completes : (place : ℕ) → place < done → CompletesAt index exits stacks place
  pub gone_on : (place : ℕ) → place < done → IsGoneOnAt index g table stacks place

-- a shift or a goto leads from the top of the stack at the place to state `next`
abbrev pub IsJoinedAt : {S : Type 0} → (S → ℕ) → Table → List (Stack S) → ℕ → ℕ → Type 0
IsJoinedAt {S} index table stacks place next = (stack : Stack S) → IsStackAt stacks place stack → IsJoined table (index stack.top.0) next

-- if the action is a shift, it leads from the top of the stack at the place to its state
abbrev pub ShiftsFrom : {S : Type 0} → (S → ℕ) → Table → List (Stack S) → ℕ → Action S → Type 0
ShiftsFrom index table stacks place action = (next : ℕ) → plain_action index action ≡ ShiftTo next → IsJoinedAt index table stacks place next

-- the reductions are good on top of the stack at the place, by its good exits
abbrev pub AreReductionsAt : {S : Type 0} → (S → ℕ) → Grammar → Table → List (Stack S) → ℕ → List (List Bool) → Type 0
AreReductionsAt {S} index g table stacks place reduced =
    (stack : Stack S) → IsStackAt stacks place stack → LeadToReductions g table (index stack.top.0) stack.good reduced

-- with state `next` on top of the stack at the place, some stack is known
abbrev pub IsMetAt : {S : Type 0} → (S → ℕ) → Grammar → Table → List (Stack S) → ℕ → ℕ → Type 0
IsMetAt {S} index g table stacks place next = (stack : Stack S) → IsStackAt stacks place stack → IsMet index g table stacks stack next

-- if the action is a shift, so it is with its state
abbrev pub IsShiftMetAt : {S : Type 0} → (S → ℕ) → Grammar → Table → List (Stack S) → ℕ → Action S → Type 0
IsShiftMetAt index g table stacks place action = (next : ℕ) → plain_action index action ≡ ShiftTo next → IsMetAt index g table stacks place next

-- the first stack is the start state alone
abbrev pub HasStart : {S : Type 0} → (S → ℕ) → Grammar → Table → List (Stack S) → Type 0
HasStart {S} index g table stacks = (first : Stack S) × IsStackAt stacks 0 first × (index first.top.0 ≡ table.start) × AreGoodOver g table [] first.good

-- a shift or a goto leads to the stack's top from that of an earlier stack
abbrev pub IsOnEarlier : {S : Type 0} → (S → ℕ) → Table → List (Stack S) → ℕ → Stack S → Type 0
IsOnEarlier {S} index table stacks place stack =
    (below : Stack S) × (stack.below < place) × IsStackAt stacks stack.below below × IsJoined table (index below.top.0) (index stack.top.0)

-- the first is the start state alone, each other one is on top of an earlier one, and the tops are states of the table
pub record AreStacks {S : Type 0} (index : S → ℕ) (g : Grammar) (table : Table) (stacks : List (Stack S)) : Type 0 where
  pub start : HasStart index g table stacks
  pub on : (place : ℕ) (stack : Stack S) → 0 < place → IsStackAt stacks place stack → IsOnEarlier index table stacks place stack
  pub within : (place : ℕ) (stack : Stack S) → IsStackAt stacks place stack → index stack.top.0 < states_len table

-- the old stacks are kept, and others may have come after them
pub record KeepsStacks {S : Type 0} (old new : List (Stack S)) : Type 0 where
  pub more : length old ≤ length new
  pub same : (place : ℕ) → place < length old → slice_get new place ≡ slice_get old place

-- these states, top first, lie below the top of the stack at the place: the top of the stack at the place that it names, and so on
pub data LiesOn {S : Type 0} (index : S → ℕ) (stacks : List (Stack S)) : ℕ → List ℕ → Type 0 where
  bottom : LiesOn index stacks 0 []
  upon : (place : ℕ) (stack below : Stack S) (rest : List ℕ) → 0 < place → IsStackAt stacks place stack → IsStackAt stacks stack.below below
      → LiesOn index stacks stack.below rest → LiesOn index stacks place (index below.top.0 ∷ rest)

-- the exits of each stack are all that are good over the states below its top
abbrev pub AreAllGood : {S : Type 0} → (S → ℕ) → Grammar → Graph → Table → List (Stack S) → Type 0
AreAllGood {S} index g graph table stacks =
    (place : ℕ) (stack : Stack S) (below : List ℕ) → IsStackAt stacks place stack → LiesOn index stacks place below
    → AreAllGoodOver g graph table (index stack.top.0) below stack.good

-- by its good exits, the reductions are all that are good on top of the stack at the place
abbrev pub AreAllReductionsAt : {S : Type 0} → (S → ℕ) → Grammar → Graph → Table → List (Stack S) → ℕ → List (List Bool) → Type 0
AreAllReductionsAt {S} index g graph table stacks place reduced =
    (stack : Stack S) → IsStackAt stacks place stack → LeadToAll g graph table (index stack.top.0) stack.good reduced

-- if the exits of each old stack were all that are good over it, and the reductions are all that are good on top of the stack at the place,
-- the exits of each new stack are all that are good over it
abbrev pub KeepsAllGood : {S : Type 0} → (S → ℕ) → Grammar → Graph → Table → ℕ → List (List Bool) → List (Stack S) → List (Stack S) → Type 0
KeepsAllGood index g graph table place reduced old new =
    AreAllGood index g graph table old → AreAllReductionsAt index g graph table old place reduced → AreAllGood index g graph table new

-- if the part is the whole table, runs can leave states by the exits in `pops` alone, and the exits of each old stack were all that are good
-- over it, those of each new stack are
abbrev pub GoesOnAllGood : {S : Type 0} → (S → ℕ) → Grammar → Graph → Table → Table → List StateExits → List (Stack S) → List (Stack S) → Type 0
GoesOnAllGood index g graph table part pops old new =
    part ≡ table → AreAllPopsOf g table pops → AreAllGood index g graph table old → AreAllGood index g graph table new

-- these states, top first, are the stack at the place
abbrev pub IsTopFirst : {S : Type 0} → (S → ℕ) → List (Stack S) → ℕ → List ℕ → Type 0
IsTopFirst {S} index stacks place states =
    (stack : Stack S) × (below : List ℕ) × IsStackAt stacks place stack × LiesOn index stacks place below × (states ≡ index stack.top.0 ∷ below)

-- none of these exits of the stack's top is good
abbrev pub HasNoneGood : {S : Type 0} → (S → ℕ) → (ℕ → List Exit) → Stack S → Type 0
HasNoneGood {S} index exits stack = (way : Way) (t : ℕ) → HasLookahead (exits (index stack.top.0)) way t → ¬ (HasLookahead stack.good way t)

-- none of these exits of the top of the stack at the place is good
abbrev pub HasNoneGoodAt : {S : Type 0} → (S → ℕ) → (ℕ → List Exit) → List (Stack S) → ℕ → Type 0
HasNoneGoodAt {S} index exits stacks place = (stack : Stack S) → IsStackAt stacks place stack → HasNoneGood index exits stack
