-- Access strings as they are worked out: the steps of a table with the lengths of their symbols, and what is kept of states.
use Rattle.std.specs.Prelude.{◌≡◌, ◌≢◌, ◌<◌, ◌≤◌, ◌↔◌, ℕ, Contains, List, [], ◌∷◌, ◌++◌, All, MatchOption, Option, Some, None, count_by, length, map, option_map, slice_set}
use Rattle.std.specs.List.{flat_map, range_with_len}
use Rattle.std.specs.Option.{is_none}
use Rattle.std.specs.declared.vec.Vec.{Vec}
use Rattle.std.below.core.specs.declared.int.usize.TheConstants.{MAX}
use Rattle.lrpar_grammar_places.specs.declared.span.StIdx.{StIdx}
use Rattle.lrpar_grammar_places.specs.declared.span.Symbol.{Symbol}
use Rattle.lrpar_grammar_places.specs.declared.span.TIdx.{TIdx}
use Rattle.lrpar_grammar.specs.Grammar.{GrammarSymbol, Nonterminal, Terminal}
use Rattle.lrpar_grammar.specs.Symbols.{symbol_of}
use Rattle.lrpar_table_rows.specs.PlainRows.{plain_action}
use Rattle.lrpar_table_rows.specs.Safe.{GoesBy}
use Rattle.lrpar_table_rows.specs.Table.{Table, TableAction, ShiftTo, ReduceBy, Accepts, Fails, action_of, actions_at, goto_of, gotos_at, states_len}
use Rattle.lrpar_table_sentences.specs.Choices.{ChoiceOf}
use Rattle.lrpar_table_sentences.specs.Lens.{added, len_at, sum_of_lens}
use Rattle.lrpar_table_rows.specs.declared.rows.Action.{Action}
use Rattle.lrpar_table_sentences.specs.AccessStrings.{GoBack, StepOf, AccessOf, step_of, symbols_in, access_at, accesses_of}
use Rattle.lrpar_table_sentences.specs.declared.transitions.Access.{Access}
use Rattle.lrpar_table_sentences.specs.declared.transitions.Edge.{Edge}
use Rattle.lrpar_table_sentences.specs.declared.transitions.Step.{Step}

-- a step, the state that it leads to, and the length of its symbol
pub record EdgeOf : Type 0 where
  pub step : StepOf
  pub next : ℕ
  pub len : ℕ

-- edges as they are stored, with numbers for their steps and states
abbrev pub edge_of : {S : Type 0} → (S → ℕ) → Edge S → EdgeOf
edge_of index x = record { step = step_of index x.step; next = index x.next.0; len = x.len }

abbrev pub edges_of : {S : Type 0} → (S → ℕ) → List (Edge S) → List EdgeOf
edges_of index edges = map (edge_of index) edges

-- the step, if its symbol has a length
abbrev pub edge_if : Option ℕ → ℕ → GrammarSymbol → ℕ → List EdgeOf
edge_if None s x next = []
edge_if (Some len) s x next = record { step = record { from = s; symbol = x }; next = next; len = len } ∷ []

-- the step of an action at a token, if it is a shift
abbrev pub shift_edge : List (Option ChoiceOf) → ℕ → ℕ → TableAction → List EdgeOf
shift_edge choices s t (ShiftTo next) = edge_if (len_at choices (Terminal t)) s (Terminal t) next
shift_edge choices s t (ReduceBy p) = []
shift_edge choices s t Accepts = []
shift_edge choices s t Fails = []

-- the steps of a state's shifts, and of its gotos
abbrev pub shift_edges : List (Option ChoiceOf) → ℕ → List (ℕ × TableAction) → List EdgeOf
shift_edges choices s entries = flat_map (λ entry. shift_edge choices s entry.0 entry.1) entries

abbrev pub goto_edges : List (Option ChoiceOf) → ℕ → List (ℕ × ℕ) → List EdgeOf
goto_edges choices s entries = flat_map (λ entry. edge_if (len_at choices (Nonterminal entry.0)) s (Nonterminal entry.0) entry.1) entries

-- the steps of a table whose symbols have a length, and no others
pub record AreEdges (table : Table) (choices : List (Option ChoiceOf)) (edges : List EdgeOf) : Type 0 where
  pub sound : (e : EdgeOf) → Contains edges e
      → (e.step.from < states_len table) × GoesBy table e.step.from e.step.symbol e.next × (len_at choices e.step.symbol ≡ Some e.len)
  pub all : (s next len : ℕ) (x : GrammarSymbol) → s < states_len table → GoesBy table s x next → len_at choices x ≡ Some len
      → Contains edges (record { step = record { from = s; symbol = x }; next = next; len = len })

-- the actions that are stored for state s are its own, and so are the gotos
abbrev pub StoresActions : Table → ℕ → Type 0
StoresActions table s = (t : ℕ) (action : TableAction) → Contains (actions_at table s) (t, action) ↔ ((action_of table s t ≡ action) × (action ≢ Fails))

abbrev pub StoresGotos : Table → ℕ → Type 0
StoresGotos table s = (r next : ℕ) → Contains (gotos_at table s) (r, next) ↔ (goto_of table s r ≡ Some next)

-- the actions and the gotos that are stored for state s are its own
pub record IsStoredAt (table : Table) (s : ℕ) : Type 0 where
  pub actions : StoresActions table s
  pub gotos : StoresGotos table s

-- all steps of the states below n, state by state
abbrev pub edges_at : Table → List (Option ChoiceOf) → ℕ → List EdgeOf
edges_at table choices s = shift_edges choices s (actions_at table s) ++ goto_edges choices s (gotos_at table s)

abbrev pub edges_below : Table → List (Option ChoiceOf) → ℕ → List EdgeOf
edges_below table choices n = flat_map (edges_at table choices) (range_with_len 0 n)

-- by these symbols, the last one first, the table goes from its start to a state
pub data IsWalk (table : Table) : ℕ → List GrammarSymbol → Type 0 where
  Starts : IsWalk table table.start []
  Goes : (s next : ℕ) (x : GrammarSymbol) (path : List GrammarSymbol) → IsWalk table s path → s < states_len table → GoesBy table s x next
      → IsWalk table next (x ∷ path)

-- by these steps, the last one first, the table goes from its start to state s
abbrev pub LeadBack : Table → ℕ → List StepOf → Type 0
LeadBack table s [] = s ≡ table.start
LeadBack table s (step ∷ steps) = (step.from < states_len table) × GoesBy table step.from step.symbol s × LeadBack table step.from steps

-- what is kept of states is right as far as it goes: the start has an access string without tokens; no walk to a state has
-- symbols with fewer tokens than its access string; and the last steps that are kept lead back to the start by symbols with this
-- number of tokens, capped at `most`
pub record AreRightAccesses (table : Table) (most : ℕ) (choices : List (Option ChoiceOf)) (accesses : List (Option AccessOf)) : Type 0 where
  pub states : length accesses ≡ states_len table
  pub start : access_at accesses table.start ≡ Some (record { len = 0; last = None })
  pub least : (s len : ℕ) (access : AccessOf) (path : List GrammarSymbol) → access_at accesses s ≡ Some access → IsWalk table s path
      → sum_of_lens most choices path ≡ Some len → access.len ≤ len
  pub back : (s : ℕ) (access : AccessOf) → access_at accesses s ≡ Some access
      → (steps : List StepOf) × GoBack accesses s steps × LeadBack table s steps × (sum_of_lens most choices (symbols_in steps) ≡ Some access.len)

-- the length of a step plus that of the access string of the state that it goes from, if there is one; none if an access string
-- is kept already
abbrev pub access_open : ℕ → Option AccessOf → Option AccessOf → ℕ → Option ℕ
access_open most (Some kept) from len = None
access_open most None from len = added most (Some len) (option_map (λ access. access.len) from)

abbrev pub open_by : ℕ → List (Option AccessOf) → EdgeOf → Option ℕ
open_by most accesses e = access_open most (access_at accesses e.next) (access_at accesses e.step.from) e.len

-- no step is open
abbrev pub NoStepIsOpen : ℕ → List (Option AccessOf) → List EdgeOf → Type 0
NoStepIsOpen most accesses edges = (e : EdgeOf) → Contains edges e → open_by most accesses e ≡ None

-- some open step has the length
abbrev pub HasOpenStep : ℕ → List (Option AccessOf) → List EdgeOf → ℕ → Type 0
HasOpenStep most accesses edges len = (e : EdgeOf) × Contains edges e × (open_by most accesses e ≡ Some len)

-- no open step has less than this length
abbrev pub NoStepIsLess : ℕ → List (Option AccessOf) → List EdgeOf → ℕ → Type 0
NoStepIsLess most accesses edges len = (e : EdgeOf) (other : ℕ) → Contains edges e → open_by most accesses e ≡ Some other → len ≤ other

-- no walk to a state with nothing kept has symbols with fewer tokens
abbrev pub NoWalkIsBelow : Table → ℕ → List (Option ChoiceOf) → List (Option AccessOf) → ℕ → Type 0
NoWalkIsBelow table most choices accesses len =
    (s other : ℕ) (path : List GrammarSymbol) → access_at accesses s ≡ None → IsWalk table s path → sum_of_lens most choices path ≡ Some other → len ≤ other

-- how many states have nothing kept
abbrev pub open_accesses : List (Option AccessOf) → ℕ
open_accesses accesses = count_by is_none accesses

-- these are appended to the code's steps: all of state s, the step of one action at a token, and one step if its symbol has a length
abbrev pub AppendsSteps : {S A : Type 0} → (S → ℕ) → Table → List (Option ChoiceOf) → StIdx S → Vec (Edge S) A → Vec (Edge S) A → Type 0
AppendsSteps index table choices s old new = edges_of index new.items ≡ edges_of index old.items ++ edges_at table choices (index s.0)

abbrev pub AppendsShift : {S A : Type 0} → (S → ℕ) → List (Option ChoiceOf) → StIdx S → TIdx S → Action S → Vec (Edge S) A → Vec (Edge S) A → Type 0
AppendsShift index choices s token action old new =
    edges_of index new.items ≡ edges_of index old.items ++ shift_edge choices (index s.0) (index token.0) (plain_action index action)

abbrev pub AppendsStep : {S A : Type 0} → (S → ℕ) → List (Option ChoiceOf) → StIdx S → Symbol S → StIdx S → Vec (Edge S) A → Vec (Edge S) A → Type 0
AppendsStep index choices from symbol next old new =
    edges_of index new.items
    ≡ edges_of index old.items ++ edge_if (len_at choices (symbol_of index symbol)) (index from.0) (symbol_of index symbol) (index next.0)

-- the code's steps are those of the table
abbrev pub AreSteps : {S : Type 0} → (S → ℕ) → Table → List (Option ChoiceOf) → List (Edge S) → Type 0
AreSteps index table choices edges = AreEdges table choices (edges_of index edges)

-- each step leads to a state of which the code can keep something
abbrev pub LeadWithin : {S : Type 0} → (S → ℕ) → List (Edge S) → List (Option (Access S)) → Type 0
LeadWithin index edges accesses = All (λ edge. index edge.next.0 < length accesses) edges

-- the code keeps an access string of one state more, with this length and this last step
abbrev pub KeepsAt : {S : Type 0} → ℕ → ℕ → Step S → List (Option (Access S)) → List (Option (Access S)) → Type 0
KeepsAt state len step old new = new ≡ slice_set old state (Some (record { len = len; last = Some step }))

-- what the code keeps of states is right as far as it goes, with numbers of tokens capped at `usize::MAX`
abbrev pub AccessesAreRight : {S : Type 0} → (S → ℕ) → Table → List (Option ChoiceOf) → List (Option (Access S)) → Type 0
AccessesAreRight index table choices accesses = AreRightAccesses table MAX choices (accesses_of index accesses)

-- an access string without a step is kept of the start state, and nothing of all others
pub record OnlyStartIsKept {S : Type 0} (index : S → ℕ) (table : Table) (accesses : List (Option (Access S))) : Type 0 where
  pub states : length accesses ≡ states_len table
  pub start : access_at (accesses_of index accesses) table.start ≡ Some (record { len = 0; last = None })
  pub others : (s : ℕ) → s ≢ table.start → access_at (accesses_of index accesses) s ≡ None

-- the length of the access string by a step of the code, if it is open
abbrev pub open_step_len : {S : Type 0} → (S → ℕ) → List (Option (Access S)) → Edge S → Option ℕ
open_step_len index accesses edge = open_by MAX (accesses_of index accesses) (edge_of index edge)

-- no step of the code is open
abbrev pub AllStepsAreClosed : {S : Type 0} → (S → ℕ) → List (Option (Access S)) → List (Edge S) → Type 0
AllStepsAreClosed index accesses edges = NoStepIsOpen MAX (accesses_of index accesses) (edges_of index edges)

-- the least length of an open step, if there is one
abbrev pub IsLeastOpenStep : {S : Type 0} → (S → ℕ) → List (Option (Access S)) → List (Edge S) → Option ℕ → Type 0
IsLeastOpenStep index accesses edges least =
    MatchOption least (AllStepsAreClosed index accesses edges)
    (λ len. HasOpenStep MAX (accesses_of index accesses) (edges_of index edges) len
    × NoStepIsLess MAX (accesses_of index accesses) (edges_of index edges) len)

-- if what is kept is right, and no walk to an open state has fewer tokens than `len`, then it stays right
abbrev pub StayRight : {S : Type 0} → (S → ℕ) → List (Edge S) → List (Option (Access S)) → List (Option (Access S)) → ℕ → Type 0
StayRight index edges old new len =
    (table : Table) (choices : List (Option ChoiceOf)) → AreSteps index table choices edges → AccessesAreRight index table choices old
    → NoWalkIsBelow table MAX choices (accesses_of index old) len → AccessesAreRight index table choices new

-- if some open step has the length, fewer states have nothing kept than before
abbrev pub FewerAreOpen : {S : Type 0} → (S → ℕ) → List (Edge S) → List (Option (Access S)) → List (Option (Access S)) → ℕ → Type 0
FewerAreOpen index edges old new len =
    HasOpenStep MAX (accesses_of index old) (edges_of index edges) len
    → open_accesses (accesses_of index new) < open_accesses (accesses_of index old)
