-- The states that a parse can meet if precedences resolve conflicts: those that lie on a path of shifts and gotos from the start, without
-- the shifts that precedences take away.
use Rattle.std.specs.Prelude.{◌≡◌, ◌<◌, ◌↔◌, ◌&&◌, ◌||◌, ◌==◌, ℕ, All, Bool, true, false, Contains, IsTrue, List, [], ◌∷◌, ◌++◌, Option, Some, None, filter, length, map, not, if◌then◌else◌}
use Rattle.std.specs.List.{flat_map, list_any, range_with_len}
use Rattle.std.specs.Option.{is_none}
use Rattle.std.specs.declared.vec.Vec.{Vec}
use Rattle.lrpar_grammar_places.specs.declared.span.PIdx.{PIdx}
use Rattle.lrpar_grammar_places.specs.declared.span.StIdx.{StIdx}
use Rattle.lrpar_grammar_places.specs.declared.span.TIdx.{TIdx}
use Rattle.lrpar_grammar.specs.Grammar.{Grammar}
use Rattle.lrpar_grammar.specs.Tokens.{has}
use Rattle.lrpar_grammar.specs.declared.token_set.TokenSet.{TokenSet}
use Rattle.lrpar_table_first.specs.FirstRows.{HoldNothing, row_at, rows_of}
use Rattle.lrpar_table_precedence.specs.Precedence.{PrecedenceLists, resolution_of}
use Rattle.lrpar_table_precedence.specs.declared.precedence.Resolution.{Resolution}
use Rattle.lrpar_table_precedence.specs.declared.precedence.Resolution.TheVariants.{Shift, Reduce, Error}
use Rattle.lrpar_table_rows.specs.Graph.{Graph}
use Rattle.lrpar_table_rows.specs.declared.rows.Action.{Action}
use Rattle.lrpar_table_rows.specs.PlainConflicts.{shift_reduce_of}
use Rattle.lrpar_table_rows.specs.PlainRows.{plain_action}
use Rattle.lrpar_table_rows.specs.Table.{ConflictLists, ShiftReduce, Table, TableAction, ShiftTo, ReduceBy, Accepts, Fails, action_of, actions_at, goto_of, gotos_at, states_len}
use Rattle.lrpar_table_build.specs.BuilderLaws.{lists_in}
use Rattle.lrpar_table_items.specs.Resolution.{unresolved}
use Rattle.lrpar_table_sentences.specs.Moves.{MoveOf, Makes, Takes}
use Rattle.lrpar_table_sentences.specs.Reachable.{is_marked, unmarked}
use Rattle.lrpar_conflict_examples.specs.Conflicts.{AreExamplesOf, ConflictOf, of_reductions, of_shift, unmet_in}
use Rattle.lrpar_conflict_examples.specs.declared.unresolved.ConflictsLeft.{ConflictsLeft}
use Rattle.lrpar_conflict_examples.specs.declared.unresolved.UnmetConflict.{UnmetConflict}

-- how a conflict is resolved: the shift isn't made
abbrev pub loses_shift : Option Resolution → Bool
loses_shift None = false
loses_shift (Some Shift) = false
loses_shift (Some Reduce) = true
loses_shift (Some Error) = true

-- the conflict is in state s at token t, and precedences take its shift away
abbrev pub loses_shift_at : PrecedenceLists → ℕ → ℕ → ShiftReduce → Bool
loses_shift_at precedences s t x = loses_shift (resolution_of precedences x.prod x.token) && ((x.state == s) && (x.token == t))

-- whether precedences take away the shift of token t in state s, by one of these conflicts
abbrev pub shift_is_lost : PrecedenceLists → List ShiftReduce → ℕ → ℕ → Bool
shift_is_lost precedences conflicts s t = list_any (loses_shift_at precedences s t) conflicts

-- whether precedences take away the shift of token t in state s
abbrev pub is_shift_lost : PrecedenceLists → Table → ℕ → ℕ → Bool
is_shift_lost precedences table s t = shift_is_lost precedences (lists_in table.conflicts).shift_reduce s t

-- a step from state s to state next: a shift that precedences leave, or a goto
pub data IsStep (precedences : PrecedenceLists) (table : Table) (s next : ℕ) : Type 0 where
  Shifts : (t : ℕ) → action_of table s t ≡ ShiftTo next → is_shift_lost precedences table s t ≡ false → IsStep precedences table s next
  Goes : (r : ℕ) → goto_of table s r ≡ Some next → IsStep precedences table s next

-- the least set of states that has the start and, with a state, each one that a step leads to
pub data IsMet (precedences : PrecedenceLists) (table : Table) : ℕ → Type 0 where
  Starts : IsMet precedences table table.start
  Steps : (s next : ℕ) → IsMet precedences table s → IsStep precedences table s next → IsMet precedences table next

-- marks of a table's states: the start is marked, and only states that can be met are
pub record AreMarks (precedences : PrecedenceLists) (table : Table) (marks : List Bool) : Type 0 where
  pub states : length marks ≡ states_len table
  pub start : IsTrue (is_marked marks table.start)
  pub met : (s : ℕ) → IsTrue (is_marked marks s) → IsMet precedences table s

-- the start is marked, and only states that can be met are, whatever the precedences are
abbrev pub AreMarksByAny : Table → List Bool → Type 0
AreMarksByAny table marks = (precedences : PrecedenceLists) → AreMarks precedences table marks

-- the states that can be met are marked, and no others
pub record AreMet (precedences : PrecedenceLists) (table : Table) (marks : List Bool) : Type 0 where
  pub states : length marks ≡ states_len table
  pub exact : (s : ℕ) → IsTrue (is_marked marks s) ↔ IsMet precedences table s

-- the vector marks the states that can be met, and no others
abbrev pub MarksMet : {A : Type 0} → PrecedenceLists → Table → Vec Bool A → Type 0
MarksMet precedences table = λ marks. AreMet precedences table marks.items

-- the vector marks the start state, and no state that can't be met, whatever the precedences are
abbrev pub MarksStart : {A : Type 0} → Table → Vec Bool A → Type 0
MarksStart table = λ marks. AreMarksByAny table marks.items

-- fewer states are left without a mark
abbrev pub MarksMore : List Bool → List Bool → Type 0
MarksMore old new = unmarked new < unmarked old

-- a step between two states of the table
pub record IsStepOf (precedences : PrecedenceLists) (table : Table) (edge : ℕ × ℕ) : Type 0 where
  pub from : edge.0 < states_len table
  pub next : edge.1 < states_len table
  pub step : IsStep precedences table edge.0 edge.1

-- the steps of a table, and no others
pub record AreSteps (precedences : PrecedenceLists) (table : Table) (edges : List (ℕ × ℕ)) : Type 0 where
  pub sound : (edge : ℕ × ℕ) → Contains edges edge → IsStepOf precedences table edge
  pub all : (s next : ℕ) → s < states_len table → IsStep precedences table s next → Contains edges (s, next)

-- the vector has the steps of the table, and no others
abbrev pub HasSteps : {A : Type 0} → PrecedenceLists → Table → Vec (ℕ × ℕ) A → Type 0
HasSteps precedences table = λ edges. AreSteps precedences table edges.items

-- if these are a table's steps, and the old list has marks of its states, so does the new one
abbrev pub KeepsMarks : List (ℕ × ℕ) → List Bool → List Bool → Type 0
KeepsMarks edges old new =
    (precedences : PrecedenceLists) (table : Table) → AreSteps precedences table edges → AreMarks precedences table old → AreMarks precedences table new

-- if a table has the step from s to `next`, and the old list has marks of its states, so does the new one
abbrev pub StepKeepsMarks : ℕ → ℕ → List Bool → List Bool → Type 0
StepKeepsMarks s next old new =
    (precedences : PrecedenceLists) (table : Table) → AreMarks precedences table old → IsStep precedences table s next → AreMarks precedences table new

-- a step whose first state is marked leads to a marked one
abbrev pub MarksNext : List Bool → ℕ × ℕ → Type 0
MarksNext marks edge = IsTrue (is_marked marks edge.0) → IsTrue (is_marked marks edge.1)

-- if state s is marked, so is state next
abbrev pub MarksStep : ℕ → ℕ → List Bool → Type 0
MarksStep s next marks = MarksNext marks (s, next)

-- each of these steps whose first state is marked leads to a marked one
abbrev pub AreClosed : List (ℕ × ℕ) → List Bool → Type 0
AreClosed edges marks = All (MarksNext marks) edges

-- both ends of the step are below n
abbrev pub IsWithin : ℕ → ℕ × ℕ → Type 0
IsWithin n edge = (edge.0 < n) × (edge.1 < n)

-- both ends of each step are below n
abbrev pub AreWithin : ℕ → List (ℕ × ℕ) → Type 0
AreWithin n edges = All (λ edge. (edge.0 < n) × (edge.1 < n)) edges

-- the rows are as long as before
abbrev pub HasRoomOf : List (List Bool) → List (List Bool) → Type 0
HasRoomOf old new = map (λ row. length row) new ≡ map (λ row. length row) old

-- the rows have what they had, and each token that passes the test for its row
abbrev pub AddsTokens : List (List Bool) → List (List Bool) → (ℕ → ℕ → Bool) → Type 0
AddsTokens old new test = (s t : ℕ) → t < length (row_at old s) → has (row_at new s) t ≡ (has (row_at old s) t || test s t)

-- there is this number of sets
abbrev pub HasSets : {A : Type 0} → ℕ → Vec TokenSet A → Type 0
HasSets len = λ sets. length sets.items ≡ len

-- each set has room for this number of tokens
abbrev pub HaveRoom : {A : Type 0} → ℕ → Vec TokenSet A → Type 0
HaveRoom tokens = λ sets. All (λ row. length row ≡ tokens) (rows_of sets.items)

-- each set is empty
abbrev pub AreEmpty : {A : Type 0} → Vec TokenSet A → Type 0
AreEmpty = λ sets. HoldNothing (rows_of sets.items)

-- this token was added to the set of this state
abbrev pub AddsToken : ℕ → ℕ → List TokenSet → List TokenSet → Type 0
AddsToken state token old new = AddsTokens (rows_of old) (rows_of new) (λ s t. (state == s) && (token == t))

-- the tokens of the conflicts whose shift precedences take away were added to the sets of their states
abbrev pub AddsLostShifts : {S : Type 0} → (S → ℕ) → PrecedenceLists → List (TIdx S × PIdx S × StIdx S) → List TokenSet → List TokenSet → Type 0
AddsLostShifts index precedences conflicts old new =
    AddsTokens (rows_of old) (rows_of new) (shift_is_lost precedences (map (shift_reduce_of index) conflicts))

-- for each state the tokens whose shift precedences take away
pub record AreLostShifts (precedences : PrecedenceLists) (table : Table) (rows : List (List Bool)) : Type 0 where
  pub states : length rows ≡ states_len table
  pub exact : (s t : ℕ) → s < states_len table → t < table.tokens → has (row_at rows s) t ≡ is_shift_lost precedences table s t

-- the vector has for each state the set of the tokens whose shift precedences take away
abbrev pub HasLostShifts : {A : Type 0} → PrecedenceLists → Table → Vec TokenSet A → Type 0
HasLostShifts precedences table = λ sets. AreLostShifts precedences table (rows_of sets.items)

-- the step by an action at a token, if it is a shift that isn't taken away
abbrev pub shift_step : List Bool → ℕ → ℕ → TableAction → List (ℕ × ℕ)
shift_step taken s t (ShiftTo next) = if has taken t then [] else (s, next) ∷ []
shift_step taken s t (ReduceBy p) = []
shift_step taken s t Accepts = []
shift_step taken s t Fails = []

-- the steps by a state's shifts, and by its gotos
abbrev pub shift_steps : List Bool → ℕ → List (ℕ × TableAction) → List (ℕ × ℕ)
shift_steps taken s entries = flat_map (λ entry. shift_step taken s entry.0 entry.1) entries

abbrev pub goto_steps : ℕ → List (ℕ × ℕ) → List (ℕ × ℕ)
goto_steps s entries = flat_map (λ entry. (s, entry.1) ∷ []) entries

abbrev pub shift_steps_of : List Bool → Table → ℕ → List (ℕ × ℕ)
shift_steps_of taken table s = shift_steps taken s (actions_at table s)

abbrev pub goto_steps_of : Table → ℕ → List (ℕ × ℕ)
goto_steps_of table s = goto_steps s (gotos_at table s)

abbrev pub steps_of : List Bool → Table → ℕ → List (ℕ × ℕ)
steps_of taken table s = shift_steps_of taken table s ++ goto_steps_of table s

-- the step by the code's action was appended, and so were all steps of a state
abbrev pub AppendsShift : {S A : Type 0} → (S → ℕ) → TokenSet → ℕ → ℕ → Action S → Vec (ℕ × ℕ) A → Vec (ℕ × ℕ) A → Type 0
AppendsShift index taken s t action old new = new.items ≡ old.items ++ shift_step taken s t (plain_action index action)

abbrev pub AppendsSteps : {S A : Type 0} → (S → ℕ) → TokenSet → Table → StIdx S → Vec (ℕ × ℕ) A → Vec (ℕ × ℕ) A → Type 0
AppendsSteps index taken table s old new = new.items ≡ old.items ++ steps_of taken table (index s.0)

-- all steps of the states below n, state by state
abbrev pub steps_at : Table → List (List Bool) → ℕ → List (ℕ × ℕ)
steps_at table rows s = steps_of (row_at rows s) table s

abbrev pub steps_below : Table → List (List Bool) → ℕ → List (ℕ × ℕ)
steps_below table rows n = flat_map (steps_at table rows) (range_with_len 0 n)

-- the conflicts that precedences don't resolve, those between two reductions first
abbrev pub conflicts_left : PrecedenceLists → ConflictLists → List ConflictOf
conflicts_left precedences lists =
    map of_reductions lists.reduce_reduce ++ map of_shift (unresolved precedences lists.shift_reduce)

-- the conflicts in states that are marked
abbrev pub marked_ones : List Bool → List ConflictOf → List ConflictOf
marked_ones marks conflicts = filter (λ (x : ConflictOf). is_marked marks x.state) conflicts

-- the conflicts in states that aren't marked
abbrev pub other_ones : List Bool → List ConflictOf → List ConflictOf
other_ones marks conflicts = filter (λ (x : ConflictOf). not (is_marked marks x.state)) conflicts

-- precedences don't resolve the conflict: it is one between two reductions, or they have no answer
abbrev pub is_unresolved_between : PrecedenceLists → MoveOf → MoveOf → Bool
is_unresolved_between precedences (Makes p) (Takes t) = is_none (resolution_of precedences p t)
is_unresolved_between precedences (Makes p) (Makes q) = true
is_unresolved_between precedences (Takes t) second = true

abbrev pub is_unresolved : PrecedenceLists → ConflictOf → Bool
is_unresolved precedences x = is_unresolved_between precedences x.first x.second

-- the conflicts that precedences leave are in two lists: those in states that are marked, and the others
pub record AreParted {S : Type 0} (index : S → ℕ) (precedences : PrecedenceLists) (table : Table) (marks : List Bool) (first second : List (UnmetConflict S)) : Type 0 where
  pub met : unmet_in index first ≡ marked_ones marks (conflicts_left precedences (lists_in table.conflicts))
  pub unmet : unmet_in index second ≡ other_ones marks (conflicts_left precedences (lists_in table.conflicts))

-- two vectors have the conflicts that precedences leave: those in states that are marked, and the others
abbrev pub ArePartedBy : {S A : Type 0} → (S → ℕ) → PrecedenceLists → Table → List Bool → Vec (UnmetConflict S) A × Vec (UnmetConflict S) A → Type 0
ArePartedBy index precedences table marks = λ lists. AreParted index precedences table marks lists.0.items lists.1.items

-- the conflicts that precedences leave: a counterexample of each in a state that can be met, and the others
pub record AreConflictsLeft {S : Type 0} (index : S → ℕ) (g : Grammar) (precedences : PrecedenceLists) (graph : Graph) (table : Table) (bound : ℕ)
    (left : ConflictsLeft S) : Type 0 where
  pub marks : List Bool
  pub met : AreMet precedences table marks
  pub examples : AreExamplesOf g graph bound (marked_ones marks (conflicts_left precedences (lists_in table.conflicts))) left.examples.items
  pub unmet : unmet_in index left.unmet.items ≡ other_ones marks (conflicts_left precedences (lists_in table.conflicts))
