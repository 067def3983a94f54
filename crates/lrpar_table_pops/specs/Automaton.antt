-- What is said of an automaton, which is a grammar, its item sets and a table: of exits of its states, and of how they are added to.
use Rattle.std.specs.Prelude.{◌≡◌, ◌⊎◌, ◌<◌, ℕ, Bool, IsTrue, List, [], None, Some, slice_index_or}
use Rattle.std.specs.declared.alloc.Global.{Global}
use Rattle.std.specs.declared.vec.Vec.{Vec}
use Rattle.lrpar_grammar_places.specs.declared.span.StIdx.{StIdx}
use Rattle.lrpar_grammar_places.specs.declared.span.TIdx.{TIdx}
use Rattle.lrpar_grammar.specs.Grammar.{Grammar}
use Rattle.lrpar_grammar.specs.Tokens.{has}
use Rattle.lrpar_grammar.specs.declared.token_set.TokenSet.{TokenSet}
use Rattle.lrpar_table_rows.specs.Graph.{graph_len}
use Rattle.lrpar_table_rows.specs.PlainRows.{plain_action}
use Rattle.lrpar_table_rows.specs.Table.{Table, action_of, states_len}
use Rattle.lrpar_table_rows.specs.declared.rows.Action.{Action}
use Rattle.lrpar_table_pops.specs.AllGood.{AreReductionsClosed, HasAllAbove, IsGoodControl, IsGoodExit, IsTokenClosed}
use Rattle.lrpar_table_pops.specs.Closed.{AreAllPopsOf, FollowsIn, IsKeptBy}
use Rattle.lrpar_table_pops.specs.FollowAll.{AreRightActions, FollowsAllFor}
use Rattle.lrpar_table_pops.specs.FoundAll.{AreExitsFor, FindsAll}
use Rattle.lrpar_table_pops.specs.Good.{AddsByGoto, KeepsReductions, LeadToReductions, ReadsOn}
use Rattle.lrpar_table_pops.specs.Growth.{HaveRoomFor}
use Rattle.lrpar_table_pops.specs.Parts.{IsPartOf, Parts}
use Rattle.lrpar_table_pops.specs.Pops.{Control, Dropping}
use Rattle.lrpar_table_pops.specs.Steps.{FollowsState, StaysRight}
use Rattle.lrpar_table_pops.specs.StoredAll.{AreClosedUnlessMarked, HaveAllWays, HaveWaysAt, IsClosedIf, IsClosedState, IsSoundTable, IsUntouched, SaturatesIf, SaturatesRound, SaturatesState, StartsFrom}
use Rattle.lrpar_table_pops.specs.StoredPops.{AcceptsAtEndAlone, ArePopsOf}
use Rattle.lrpar_table_pops.specs.declared.exits.Exit.{Exit}
use Rattle.lrpar_table_pops.specs.declared.exits.Way.{Way}
use Rattle.lrpar_table_pops.specs.declared.found.Found.{Found}
use Rattle.lrpar_table_pops.specs.declared.pops.StateExits.{StateExits}

-- the automaton's table is safe, shifts and gotos lead to its states, and it acts at tokens and goes by rules of the grammar alone
abbrev pub IsSound : Parts → Type 0
IsSound parts = IsSoundTable parts.grammar parts.graph parts.table

-- the automaton's table accepts at the end token alone
abbrev pub AcceptsAtEnd : Parts → Type 0
AcceptsAtEnd parts = AcceptsAtEndAlone parts.grammar parts.table

-- the automaton has item sets for the state
abbrev pub HasItemsOf : {S : Type 0} → (S → ℕ) → Parts → StIdx S → Type 0
HasItemsOf index parts s = index s.0 < graph_len parts.graph

-- the state is one of the automaton's table
abbrev pub HasState : {S : Type 0} → (S → ℕ) → Parts → StIdx S → Type 0
HasState index parts s = index s.0 < states_len parts.table

-- the automaton's table acts so in the state at the token
abbrev pub ActsSo : {S : Type 0} → (S → ℕ) → Parts → StIdx S → TIdx S → Action S → Type 0
ActsSo index parts s token action = action_of parts.table (index s.0) (index token.0) ≡ plain_action index action

-- a run of the automaton can leave each state by these exits
abbrev pub ArePopsIn : Parts → List StateExits → Type 0
ArePopsIn parts pops = ArePopsOf parts.grammar parts.table pops

-- a run of the automaton can leave each state by these exits alone; and a state that a goto leads to, at a token, in these controls alone
abbrev pub AreAllPopsIn : Parts → List StateExits → Type 0
AreAllPopsIn parts pops = AreAllPopsOf parts.grammar parts.table pops

-- the part is the automaton's table, but for some actions, which are errors in it; and a run of the automaton can leave each state by these
-- exits
pub record IsPartWith (whole : Parts) (table : Table) (states : List StateExits) : Type 0 where
  pub part : IsPartOf whole.table table
  pub pops : ArePopsIn whole states

-- the exits are those of the state, one for each core with a symbol before the dot, and one for a run that has accepted, with room for all
-- tokens
abbrev pub AreExitsIn : {S : Type 0} → (S → ℕ) → Parts → StIdx S → List Exit → Type 0
AreExitsIn index parts s exits = AreExitsFor parts.grammar parts.graph (index s.0) exits

-- there is room for all exits of the automaton's states that are kept
abbrev pub HaveAllWaysIn : Parts → List StateExits → Type 0
HaveAllWaysIn parts states = HaveAllWays parts.grammar parts.graph parts.table states

-- the state shifts the token with this number, or reduces at it by a production without symbols
abbrev pub IsKeptAt : {S : Type 0} → (S → ℕ) → Parts → StIdx S → ℕ → Type 0
IsKeptAt index parts s number = IsKeptBy parts.grammar (action_of parts.table (index s.0) number)

-- there is room for the exits of the state; and for those at the tokens at which they are kept, if gotos lead to it
abbrev pub HaveWaysFor : {S : Type 0} → (S → ℕ) → Parts → StIdx S → Bool → StateExits → Type 0
HaveWaysFor index parts s is_goto exits = HaveWaysAt parts.grammar parts.graph parts.table (index s.0) is_goto exits

-- if gotos lead to the state, there is room for its exits at the tokens at which they are kept
abbrev pub HaveWaysAtTokens : {S : Type 0} → (S → ℕ) → Parts → StIdx S → Bool → List (List Exit) → Type 0
HaveWaysAtTokens index parts s is_goto at =
    IsTrue is_goto → (t : ℕ) → IsKeptBy parts.grammar (action_of parts.table (index s.0) t)
    → AreExitsFor parts.grammar parts.graph (index s.0) (slice_index_or at t [])

-- each state is closed, unless it is marked, or one is that a shift or a goto leads to from it
abbrev pub AreClosedUnless : Parts → List StateExits → List Bool → Type 0
AreClosedUnless parts states marks = AreClosedUnlessMarked parts.grammar parts.graph parts.table states marks

-- what is found of the state, for any first lookahead, stays right, if the exits of other states are right and the table accepts at the end
-- token alone
abbrev pub StaysRightAtAny : {S : Type 0} → (S → ℕ) → Parts → List StateExits → StIdx S → Found → Found → Type 0
StaysRightAtAny index parts pops s old new = StaysRight parts.grammar parts.table pops (index s.0) None old new

-- if each action of the automaton's table is one of a safe table, what the state leads to in one step, at a token at which it acts, is found
abbrev pub StartsAllAtAny : {S : Type 0} → (S → ℕ) → Parts → List StateExits → StIdx S → Found → Found → Type 0
StartsAllAtAny index parts pops s old new =
    AreRightActions parts.grammar parts.table → FindsAll parts.grammar (StartsFrom parts.grammar parts.table pops (index s.0)) old new

-- what is found of the automaton's state stays right, for each first lookahead and for any, if the exits of other states are right and the
-- table accepts at the end token alone
abbrev pub FollowsStateIn : {S : Type 0} → (S → ℕ) → Parts → List StateExits → StIdx S → Found → Found → Type 0
FollowsStateIn index parts pops s old new = FollowsState index parts.grammar parts.table pops s old new

-- if each action of the automaton's table is one of a safe table, what was found of the state is kept, and so is the room; and what the gotos
-- that were followed lead to is found, if it was
abbrev pub FollowsAllIn : {S : Type 0} → (S → ℕ) → Parts → List StateExits → StIdx S → Found → Found → Type 0
FollowsAllIn index parts pops s old new = FollowsAllFor index parts.grammar parts.table pops s old new

-- what is found of the state at the token is added to what is stored for it, if there is room for all of it; if nothing was new, what follows
-- there from other states is stored
abbrev pub SaturatesAt : {S : Type 0} → (S → ℕ) → Parts → StIdx S → TIdx S → Bool → List StateExits → List StateExits → Found → Found → Type 0
SaturatesAt index parts s token grown old new before after =
    SaturatesIf parts.grammar parts.graph parts.table (index s.0) grown
    (IsClosedIf parts.grammar parts.graph parts.table old (index s.0) (Some (index token.0))) old new before after

-- what is found of the state at each token is added to what is stored for it, if there is room for all of it; if nothing was new, what
-- follows at tokens from other states is stored
abbrev pub SaturatesTokens : {S : Type 0} → (S → ℕ) → Parts → StIdx S → Bool → List StateExits → List StateExits → Found → Found → Type 0
SaturatesTokens index parts s grown old new before after =
    SaturatesIf parts.grammar parts.graph parts.table (index s.0) grown
    ((t : ℕ) → IsClosedIf parts.grammar parts.graph parts.table old (index s.0) (Some t)) old new before after

-- what is found of the state at any lookahead is added to what is stored for it, if there is room for all of it; if nothing was new, what
-- follows at any from other states is stored
abbrev pub SaturatesAny : {S : Type 0} → (S → ℕ) → Parts → StIdx S → Bool → List StateExits → List StateExits → Found → Found → Type 0
SaturatesAny index parts s grown old new before after =
    SaturatesIf parts.grammar parts.graph parts.table (index s.0) grown (IsClosedIf parts.grammar parts.graph parts.table old (index s.0) None)
    old new before after

-- what is found of the state is added to what is stored for it, if there is room for all of it; if nothing was new, what follows for it from
-- other states is stored
abbrev pub SaturatesWhole : {S : Type 0} → (S → ℕ) → Parts → StIdx S → List StateExits → List StateExits → Found → Found → Bool → Type 0
SaturatesWhole index parts s old new before after grown =
    SaturatesState parts.grammar parts.graph parts.table (index s.0) grown (IsClosedState parts.grammar parts.graph parts.table old (index s.0))
    old new before after

-- what is found of state s is added to what is stored for it, if there is room for all of it; if nothing was new, what follows for it from
-- other states is stored, or neither s is marked, nor a state that a shift or a goto leads to from it
abbrev pub SaturatesMarked : Parts → List Bool → ℕ → List StateExits → List StateExits → Found → Found → Bool → Type 0
SaturatesMarked parts marks s old new before after grown =
    SaturatesState parts.grammar parts.graph parts.table s grown
    (IsUntouched parts.table marks s ⊎ IsClosedState parts.grammar parts.graph parts.table old s) old new before after

-- what follows for each state of the automaton was added, round after round
abbrev pub SaturatesAll : Parts → List StateExits → List Bool → Found → Bool → Type 0
SaturatesAll parts new changed after grown = SaturatesRound parts.grammar parts.graph parts.table grown new changed after

-- the sets have room for each token of the automaton's grammar, for each of its rules
abbrev pub HaveRoomIn : Parts → Vec TokenSet Global → Type 0
HaveRoomIn parts sets = HaveRoomFor parts.grammar sets.items

-- the control is that of a run that reduces by the production, and drops this number of states first, at one of these tokens
abbrev pub ReducesBy : ℕ → ℕ → List Bool → Control → Type 0
ReducesBy prod symbols tokens q = (t : ℕ) × IsTrue (has tokens t) × (q ≡ Dropping prod symbols t)

-- the tokens are all at which an exit of the state above this way is good
abbrev pub AreAllGoodTokens : Grammar → List Exit → List (List Bool) → Way → List Bool → Type 0
AreAllGoodTokens g good reduced way tokens = (t : ℕ) → IsGoodExit g good reduced way t → IsTrue (has tokens t)

-- at no token is an exit of the state above this way good
abbrev pub IsNeverGood : Grammar → List Exit → List (List Bool) → Way → Type 0
IsNeverGood g good reduced way = (t : ℕ) → ¬ (IsGoodExit g good reduced way t)

-- a run that reads the token with state `next` on top takes that state off, and goes on by the good exits or the good reductions
abbrev pub ReadsOnIn : {S : Type 0} → (S → ℕ) → Parts → List Exit → List (List Bool) → StIdx S → TIdx S → Type 0
ReadsOnIn index parts good reduced next token = ReadsOn parts.grammar parts.table good reduced (index next.0) (index token.0)

-- if a run with state `next` on top, which acts so at the token, takes that off and goes on by the good exits or reductions, the result is true
abbrev pub FindsGood : {S : Type 0} → (S → ℕ) → Parts → List StateExits → StIdx S → TIdx S → Action S → List Exit → List (List Bool) → Bool → Type 0
FindsGood index parts pops next token action good reduced result =
    (q : Control) → FollowsIn parts.grammar pops (index next.0) (index token.0) (plain_action index action) q
    → IsGoodControl parts.grammar good reduced q → IsTrue result

-- exits that are good over a stack lead to reductions that are good on top of it with the state
abbrev pub LeadToReductionsIn : {S : Type 0} → (S → ℕ) → Parts → StIdx S → List Exit → Vec TokenSet Global → Type 0
LeadToReductionsIn index parts s good reduced = LeadToReductions parts.grammar parts.table (index s.0) good reduced.items

-- if exits that are good over a stack lead to the old reductions on top of it with the state, they lead to the new ones
abbrev pub KeepsReductionsIn : {S : Type 0} → (S → ℕ) → Parts → StIdx S → List Exit → Vec TokenSet Global → Vec TokenSet Global → Type 0
KeepsReductionsIn index parts s good old new = KeepsReductions parts.grammar parts.table (index s.0) good old.items new.items

-- in a state that has a goto to state `next` by the rule, the reductions that were added are right
abbrev pub AddsByGotoIn : {S : Type 0} → (S → ℕ) → Parts → List Exit → ℕ → StIdx S → Vec TokenSet Global → Vec TokenSet Global → Type 0
AddsByGotoIn index parts good rule next old new = AddsByGoto parts.grammar parts.table good rule (index next.0) old.items new.items

-- by the actions of the part, each token is closed for each goto of the state: what a run that reads it there leads to is among the reductions
abbrev pub AreReductionsClosedIn : {S : Type 0} → (S → ℕ) → Parts → Table → List StateExits → StIdx S → List Exit → Vec TokenSet Global → Type 0
AreReductionsClosedIn index parts part pops s good reduced = AreReductionsClosed parts.grammar part pops (index s.0) good reduced.items

-- by the actions of the part, each token is closed for the goto by the rule to state `next`: what a run that reads it there leads to is among
-- the reductions
abbrev pub AreTokensClosedIn : {S : Type 0} → (S → ℕ) → Parts → Table → List StateExits → List Exit → ℕ → StIdx S → Vec TokenSet Global → Type 0
AreTokensClosedIn index parts part pops good rule next reduced =
    (t : ℕ) → IsTokenClosed parts.grammar part pops good rule (index next.0) reduced.items t

-- the token is closed for the goto by the rule to state `next`: what a run that reads it there leads to is among the reductions
abbrev pub IsTokenClosedIn : {S : Type 0} → (S → ℕ) → Parts → List StateExits → List Exit → ℕ → StIdx S → TIdx S → Vec TokenSet Global → Type 0
IsTokenClosedIn index parts pops good rule next token reduced =
    IsTokenClosed parts.grammar parts.table pops good rule (index next.0) reduced.items (index token.0)

-- each control in which a run can leave state `next`, and go on by the exits or the reductions, is that of one of the exits above
abbrev pub HasAllAboveIn : {S : Type 0} → (S → ℕ) → Parts → StIdx S → List Exit → List (List Bool) → List Exit → Type 0
HasAllAboveIn index parts next good reduced above = HasAllAbove parts.grammar parts.graph (index next.0) good reduced above
