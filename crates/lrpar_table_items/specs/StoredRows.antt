-- Facts of complete cores, actions and conflicts as the code stores them. `index` is the number that a storage number represents.
use Rattle.std.specs.Prelude.{◌≡◌, ◌<◌, ◌++◌, ◌==◌, ◌&&◌, ℕ, Bool, List, [], All, None, Option, Some, filter, map, nat_eq, not, slice_get}
use Rattle.std.specs.Borrow.{Bor}
use Rattle.std.specs.List.{AllZip}
use Rattle.std.specs.List.Sorted.{IsNonDecreasingBy, IsPermutation}
use Rattle.std.specs.Map.{keys_of, lookup}
use Rattle.std.specs.declared.vec.Vec.{Vec}
use Rattle.lrpar_grammar_places.specs.declared.span.PIdx.{PIdx}
use Rattle.lrpar_grammar_places.specs.declared.span.StIdx.{StIdx}
use Rattle.lrpar_grammar_places.specs.declared.span.TIdx.{TIdx}
use Rattle.lrpar_grammar.specs.Grammar.{Grammar, prod_len, prods_len, tokens_len}
use Rattle.lrpar_grammar.specs.Symbols.{prod_numbers}
use Rattle.lrpar_grammar.specs.Tokens.{has}
use Rattle.lrpar_table_precedence.specs.Precedence.{PrecedenceLists}
use Rattle.lrpar_table_precedence.specs.declared.precedence.Resolution.{Resolution}
use Rattle.lrpar_table_rows.specs.Ascending.{HaveSame}
use Rattle.lrpar_table_rows.specs.Graph.{ItemOf}
use Rattle.lrpar_table_rows.specs.PlainConflicts.{reduce_reduce_of, resolved_conflict_of, shift_reduce_of}
use Rattle.lrpar_table_rows.specs.PlainRows.{action_entry, plain_goto}
use Rattle.lrpar_table_rows.specs.Runs.{set_of_rows}
use Rattle.lrpar_table_rows.specs.Table.{ReduceReduce, ShiftReduce}
use Rattle.lrpar_table_rows.specs.declared.table.Action.{Action}
use Rattle.lrpar_table_items.specs.CompleteItems.{AreLookaheads, accepts_at, items_of_cores, prods_at}
use Rattle.lrpar_table_items.specs.Cores.{CoreSet, core_set}
use Rattle.lrpar_table_items.specs.Resolution.{AcceptsBeside, AreOnce, AscendFrom, HasAcceptReduce, IsAcceptReduce, IsRefusal, chosen, decides_at, entry_at, reduce_conflicts, reduce_conflicts_at, resolutions, shift_conflicts, shift_conflicts_at, shift_entry, resolved, resolved_row, unresolved}
use Rattle.lrpar_table_items.specs.StateRows.{item_rows}
use Rattle.lrpar_table_items.specs.States.{state_of}
use Rattle.lrpar_table_items.specs.declared.cores.CoreItems.{CoreItems}
use Rattle.lrpar_table_items.specs.declared.fault.BuildFault.{BuildFault}
use Rattle.lrpar_table_items.specs.declared.item_set.State.{State}
use Rattle.lrpar_table_items.specs.declared.resolution.FoundConflicts.{FoundConflicts}

-- what conflict resolution is for: cores of productions of the grammar, each core once, and shifts whose tokens ascend
pub record IsStateToResolve {S : Type 0} (index : S → ℕ) (g : Grammar) (cores : List (CoreItems S)) (shifts : List (TIdx S × StIdx S)) : Type 0 where
  pub prods : All (λ core. core.prod < prods_len g) (map (core_set index) cores)
  pub once : AreOnce (map (core_set index) cores)
  pub ascend : AscendFrom 0 (keys_of (map (shift_entry index) shifts))

-- no conflicts were found
pub record HasNoConflicts {S : Type 0} (found : FoundConflicts S) : Type 0 where
  pub reduce_reduce : found.reduce_reduce.items ≡ []
  pub shift_reduce : found.shift_reduce.items ≡ []
  pub decided : found.resolved.items ≡ []

-- these conflicts were added to those found: the reduce/reduce conflicts; of the shift/reduce conflicts those that the precedences don't
-- resolve; and those that they resolve, with how
pub record AddsConflicts {S : Type 0} (index : S → ℕ) (lists : PrecedenceLists) (reduces : List ReduceReduce) (shifts : List ShiftReduce)
    (old new : FoundConflicts S) : Type 0 where
  pub reduce_reduce : map (reduce_reduce_of index) new.reduce_reduce.items ≡ map (reduce_reduce_of index) old.reduce_reduce.items ++ reduces
  pub shift_reduce : map (shift_reduce_of index) new.shift_reduce.items ≡ map (shift_reduce_of index) old.shift_reduce.items ++ unresolved lists shifts
  pub decided : map (resolved_conflict_of index) new.resolved.items ≡ map (resolved_conflict_of index) old.resolved.items ++ resolutions lists shifts

-- what one token adds in state s: to the row the action that conflict resolution gives, unless it is an error; and to the conflicts found
-- those at the token, none of which is an accept/reduce conflict
pub record AppendsAt {S A B : Type 0} (index : S → ℕ) (lists : PrecedenceLists) (s t : ℕ) (shift : Option ℕ) (prods : List ℕ) (accepts : Bool)
    (before : Vec (TIdx S × Action S) A) (after : Vec (TIdx S × Action S) B) (old new : FoundConflicts S) : Type 0 where
  pub entry : map (action_entry index) after.items ≡ map (action_entry index) before.items ++ entry_at t (resolved (decides_at lists t) shift prods accepts)
  pub conflicts : AddsConflicts index lists (reduce_conflicts_at s t prods) (shift_conflicts_at s t shift prods) old new
  pub none : ¬ (AcceptsBeside shift prods accepts)

-- the row has the actions of state s at each token but errors, after conflict resolution by the precedences; its conflicts were added to
-- those found, and none of them is an accept/reduce conflict
pub record IsRowOf {S A : Type 0} (index : S → ℕ) (lists : PrecedenceLists) (g : Grammar) (s : ℕ) (cores : List CoreSet) (shifts : List (ℕ × ℕ))
    (old new : FoundConflicts S) (row : Vec (TIdx S × Action S) A) : Type 0 where
  pub entries : map (action_entry index) row.items ≡ resolved_row lists g cores shifts
  pub conflicts : AddsConflicts index lists (reduce_conflicts g cores s) (shift_conflicts g cores shifts s) old new
  pub none : (t : ℕ) → t < tokens_len g → ¬ (IsAcceptReduce g cores shifts t)

module _ {S : Type 0} (index : S → ℕ) where
  -- the productions of the cores are those of the grammar
  abbrev pub HaveProds : Grammar → List (CoreItems S) → Type 0
  HaveProds g cores = All (λ core. core.prod < prods_len g) (map (core_set index) cores)

  -- whether the dot is after all symbols
  abbrev pub is_at_end : Grammar → CoreItems S → Bool
  is_at_end g core = core.dot == prod_len g (index core.prod.0)

  -- the cores that references lead to
  abbrev pub cores_at : List (Bor (CoreItems S)) → List CoreSet
  cores_at cores = map (λ core. core_set index core.now) cores

  -- these are the complete ones of the cores, in any order
  abbrev pub AreComplete : {A : Type 0} → Grammar → List (CoreItems S) → Vec (Bor (CoreItems S)) A → Type 0
  AreComplete g cores complete =
      IsPermutation (filter (λ core. core.dot == prod_len g core.prod) (map (core_set index) cores)) (cores_at complete.items)

  -- the cores are in the order of their productions
  abbrev pub AscendByProd : {A : Type 0} → Vec (Bor (CoreItems S)) A → Type 0
  AscendByProd cores = IsNonDecreasingBy (λ core. index core.now.prod.0) cores.items

  -- the reductions that complete cores call for at the token, before conflict resolution
  abbrev pub AreReductions : {A : Type 0} → ℕ → List (Bor (CoreItems S)) → ℕ → Vec (PIdx S) A → Type 0
  AreReductions start complete token prods = prod_numbers index prods.items ≡ prods_at start (cores_at complete) token

  -- whether the core is of another production than the start production, and has the token as lookahead
  abbrev pub is_reduction : ℕ → CoreItems S → ℕ → Bool
  is_reduction start core token = not (index core.prod.0 == start) && has core.tokens token

  -- whether the core is of the start production, and has the token as lookahead
  abbrev pub is_accept : ℕ → CoreItems S → ℕ → Bool
  is_accept start core token = (index core.prod.0 == start) && has core.tokens token

  -- whether one of the complete cores calls for accept at the token
  abbrev pub calls_for_accept : ℕ → List (Bor (CoreItems S)) → ℕ → Bool
  calls_for_accept start complete token = accepts_at start (cores_at complete) token

  -- the items of the cores, by rows of lookaheads
  abbrev pub AreItemsOf : {A B : Type 0} → Grammar → List (CoreItems S) → Vec (PIdx S × ℕ × Vec (TIdx S) A) B → Type 0
  AreItemsOf g cores rows = set_of_rows index rows.items ≡ items_of_cores (tokens_len g) (map (core_set index) cores)

  -- the lookaheads of the core, ascending
  abbrev pub AreLookaheadsOf : {A : Type 0} → Grammar → CoreItems S → Vec (TIdx S) A → Type 0
  AreLookaheadsOf g core tokens = AreLookaheads index (tokens_len g) core tokens.items

  -- the lookaheads of the core at the place, ascending
  abbrev pub AreLookaheadsAt : {A : Type 0} → Grammar → List (CoreItems S) → ℕ → Vec (TIdx S) A → Type 0
  AreLookaheadsAt g cores place tokens = (core : CoreItems S) → slice_get cores place ≡ Some core → AreLookaheadsOf g core tokens

  -- the sets have the items of the states
  abbrev pub AreItemSets : {A : Type 0} → Grammar → List (State S) → Vec (List ItemOf) A → Type 0
  AreItemSets g states sets = AllZip HaveSame sets.items (item_rows g (map (state_of index) states))

  -- the tokens of the shifts ascend, and are at least n
  abbrev pub ShiftsAscendFrom : ℕ → List (TIdx S × StIdx S) → Type 0
  ShiftsAscendFrom n shifts = AscendFrom n (keys_of (map (shift_entry index) shifts))

  -- the state of the shift by the token; none if there is none
  abbrev pub IsShiftAt : List (TIdx S × StIdx S) → ℕ → Option (StIdx S) → Type 0
  IsShiftAt shifts token next = plain_goto index next ≡ lookup (nat_eq token) (map (shift_entry index) shifts)

  -- the rest has the shifts by the tokens after this one
  abbrev pub HasLaterShifts : ℕ → List (TIdx S × StIdx S) → List (TIdx S × StIdx S) → Type 0
  HasLaterShifts token shifts rest =
      (t : ℕ) → token < t → lookup (nat_eq t) (map (shift_entry index) rest) ≡ lookup (nat_eq t) (map (shift_entry index) shifts)

  -- the reduce/reduce conflicts at the token were appended: the first production with each later one
  abbrev pub AppendsConflicts : {A B : Type 0} → StIdx S → TIdx S → List (PIdx S) → Vec (TIdx S × PIdx S × PIdx S × StIdx S) A
      → Vec (TIdx S × PIdx S × PIdx S × StIdx S) B → Type 0
  AppendsConflicts state token prods old new =
      map (reduce_reduce_of index) new.items
      ≡ map (reduce_reduce_of index) old.items ++ reduce_conflicts_at (index state.0) (index token.0) (prod_numbers index prods)

  -- the action at the token was appended, unless it is an error: what conflict resolution gives by the precedences
  abbrev pub AppendsAction : {A B : Type 0} → PrecedenceLists → TIdx S → Option (StIdx S) → List (PIdx S) → Bool
      → Vec (TIdx S × Action S) A → Vec (TIdx S × Action S) B → Type 0
  AppendsAction lists token shift prods accepts old new =
      map (action_entry index) new.items
      ≡ map (action_entry index) old.items
      ++ entry_at (index token.0) (resolved (decides_at lists (index token.0)) (plain_goto index shift) (prod_numbers index prods) accepts)

  -- the action at a token with a shift was appended, unless it is an error: what conflict resolution gives by the precedences; accept
  -- doesn't matter
  abbrev pub AppendsShifted : {A B : Type 0} → PrecedenceLists → TIdx S → StIdx S → List (PIdx S) → Vec (TIdx S × Action S) A
      → Vec (TIdx S × Action S) B → Type 0
  AppendsShifted lists token next prods old new = (accepts : Bool) → AppendsAction lists token (Some next) prods accepts old new

  -- the action at a token without a shift was appended, unless it is an error: what conflict resolution gives, whatever precedences decide
  abbrev pub AppendsUnshifted : {A B : Type 0} → TIdx S → List (PIdx S) → Bool → Vec (TIdx S × Action S) A → Vec (TIdx S × Action S) B
      → Type 0
  AppendsUnshifted token prods accepts old new =
      (by : ℕ → Option Resolution) → map (action_entry index) new.items
      ≡ map (action_entry index) old.items ++ entry_at (index token.0) (resolved by None (prod_numbers index prods) accepts)

  -- the action that is chosen between a shift and a reduction was appended, unless it is an error
  abbrev pub AppendsChosen : {A B : Type 0} → TIdx S → Option Resolution → StIdx S → PIdx S → Vec (TIdx S × Action S) A
      → Vec (TIdx S × Action S) B → Type 0
  AppendsChosen token by next prod old new =
      map (action_entry index) new.items ≡ map (action_entry index) old.items ++ entry_at (index token.0) (chosen by (index next.0) (index prod.0))

  -- the shift/reduce conflict at the token was appended, if there is one that the precedences don't resolve
  abbrev pub AppendsUnresolved : {A B : Type 0} → PrecedenceLists → StIdx S → TIdx S → Option (StIdx S) → List (PIdx S)
      → Vec (TIdx S × PIdx S × StIdx S) A → Vec (TIdx S × PIdx S × StIdx S) B → Type 0
  AppendsUnresolved lists state token shift prods old new =
      map (shift_reduce_of index) new.items
      ≡ map (shift_reduce_of index) old.items
      ++ unresolved lists (shift_conflicts_at (index state.0) (index token.0) (plain_goto index shift) (prod_numbers index prods))

  -- the shift/reduce conflict at the token was appended, with how it is resolved, if there is one that the precedences resolve
  abbrev pub AppendsResolved : {A B : Type 0} → PrecedenceLists → StIdx S → TIdx S → Option (StIdx S) → List (PIdx S)
      → Vec (TIdx S × PIdx S × StIdx S × Resolution) A → Vec (TIdx S × PIdx S × StIdx S × Resolution) B → Type 0
  AppendsResolved lists state token shift prods old new =
      map (resolved_conflict_of index) new.items
      ≡ map (resolved_conflict_of index) old.items
      ++ resolutions lists (shift_conflicts_at (index state.0) (index token.0) (plain_goto index shift) (prod_numbers index prods))

  -- items call for accept and for a reduction, and for no shift
  abbrev pub CallsForBoth : Option (StIdx S) → List (PIdx S) → Bool → Type 0
  CallsForBoth shift prods accepts = AcceptsBeside (plain_goto index shift) (prod_numbers index prods) accepts

  -- a fault at the state: its items call for both, or an allocation failed
  abbrev pub IsRefusedFor : StIdx S → Option (StIdx S) → List (PIdx S) → Bool → BuildFault → Type 0
  IsRefusedFor state shift prods accepts = IsRefusal (index state.0) (CallsForBoth shift prods accepts)

  -- what the complete cores and the shift call for at the token was appended, to the row and to the conflicts found
  abbrev pub AppendsToken : {A B : Type 0} → PrecedenceLists → ℕ → List (Bor (CoreItems S)) → Option (StIdx S) → StIdx S → ℕ
      → Vec (TIdx S × Action S) A → Vec (TIdx S × Action S) B → FoundConflicts S → FoundConflicts S → Type 0
  AppendsToken lists start complete shift state token before after old new =
      AppendsAt index lists (index state.0) token (plain_goto index shift) (prods_at start (cores_at complete) token)
      (accepts_at start (cores_at complete) token) before after old new

  -- a fault at the state: the complete cores call for accept and for a reduction at the token, and there is no shift; or an allocation failed
  abbrev pub IsFaultAt : ℕ → List (Bor (CoreItems S)) → Option (StIdx S) → StIdx S → ℕ → BuildFault → Type 0
  IsFaultAt start complete shift state token =
      IsRefusal (index state.0)
      (AcceptsBeside (plain_goto index shift) (prods_at start (cores_at complete) token) (accepts_at start (cores_at complete) token))

  -- the row of the state with these cores and shifts, by the precedences, and its conflicts, which were added to those found
  abbrev pub IsStateRow : {A : Type 0} → PrecedenceLists → Grammar → StIdx S → List (CoreItems S) → List (TIdx S × StIdx S) → FoundConflicts S
      → FoundConflicts S → Vec (TIdx S × Action S) A → Type 0
  IsStateRow lists g state cores shifts old new row =
      IsRowOf index lists g (index state.0) (map (core_set index) cores) (map (shift_entry index) shifts) old new row

  -- a fault at the state: it has an accept/reduce conflict, or an allocation failed
  abbrev pub IsAcceptReduceFault : Grammar → StIdx S → List (CoreItems S) → List (TIdx S × StIdx S) → BuildFault → Type 0
  IsAcceptReduceFault g state cores shifts =
      IsRefusal (index state.0) (HasAcceptReduce g (map (core_set index) cores) (map (shift_entry index) shifts))
