-- The loops over states: what one more state adds to the rows, and the rows of all states together.
use Rattle.std.proofs.Common.{◌≡◌, ◌<◌, ◌+◌, ◌++◌, ◌∷◌, ◌∙◌, ℕ, List, [], All, Err, IfOk, Ok, Option, Result, sym, ap, arith, subst, get_or, length, map, take}
use Rattle.std.specs.Map.{keys_of}
use Rattle.std.specs.declared.vec.Vec.{Vec}
use Rattle.std.proofs.lemmas.List.{get_or-map, length-map, map-append, take_all}
use Rattle.lrpar_grammar.specs.Grammar.{Grammar, prods_len, rules_len, tokens_len}
use Rattle.lrpar_grammar_places.specs.declared.span.TIdx.{TIdx}
use Rattle.lrpar_grammar_places.proofs.ListLemmas.{map-take_more}
use Rattle.lrpar_table_precedence.specs.Precedence.{PrecedenceLists}
use Rattle.lrpar_table_rows.specs.PlainConflicts.{reduce_reduce_of, resolved_conflict_of, shift_reduce_of}
use Rattle.lrpar_table_rows.specs.PlainRows.{action_entry}
use Rattle.lrpar_table_rows.specs.Table.{ConflictLists, ResolvedOf, Table, TableAction}
use Rattle.lrpar_table_rows.specs.declared.rows.Action.{Action}
use Rattle.lrpar_table_items.specs.Cores.{CoreSet, core_set}
use Rattle.lrpar_table_items.specs.StateRows.{IsRefusalOf, action_rows, conflicts_of_states, goto_rows, reduce_conflicts_below, resolved_of_states, shift_conflicts_below, table_of_states, table_with, unless_empty}
use Rattle.lrpar_table_items.specs.States.{AreStateRows, StateOf, state_at, state_of}
use Rattle.lrpar_table_items.specs.StoredRows.{AddsConflicts, HasNoConflicts, IsRowOf, IsStateToResolve}
use Rattle.lrpar_table_items.specs.Resolution.{AreOnce, AscendFrom, IsAcceptReduce, IsRefusal, reduce_conflicts, resolutions, resolved_row, shift_conflicts, shift_entry, unresolved}
use Rattle.lrpar_table_items.specs.declared.fault.BuildFault.{BuildFault}
use Rattle.lrpar_table_items.specs.declared.fault.BuildFault.TheVariants.{AcceptReduceConflict, Memory, StorageTooSmall, TooManyStates}
use Rattle.lrpar_table_items.specs.declared.item_set.State.{State}
use Rattle.lrpar_table_items.specs.declared.resolution.FoundConflicts.{FoundConflicts}
use Rattle.lrpar_table_build.specs.Stored.{AreActionsOf, AreRowsOf}
use Rattle.lrpar_table_items.proofs.EntryLemmas.{adds_more, adds_none}
use Rattle.lrpar_table_items.proofs.StateRowLemmas.{below_next}

-- a state of the code is the one at its place
pub state_read : {X : Type 0} (f : X → StateOf) (xs : List X) (s : ℕ) (x : X) → s < length xs → x ≡ get_or xs s x → state_at (map f xs) s ≡ f x
state_read f xs s x within is = get_or-map f xs s x _ within ∙ ap f (sym is)

-- one more row
pub row_more : {X R Z : Type 0} (view : R → Z) (f : X → StateOf) (h : StateOf → Z) (xs : List X) (i : ℕ) (x : X) (made pushed : List R) (row : R)
    → i < length xs → x ≡ get_or xs i x → map view made ≡ map h (map f (take i xs)) → pushed ≡ made ++ row ∷ [] → view row ≡ h (f x)
    → map view pushed ≡ map h (map f (take (i + 1) xs))
row_more view f h xs i x made pushed row within is so_far more same =
    ap (map view) more ∙ map-append view made (row ∷ []) ∙ ap (λ s. s ++ view row ∷ []) so_far ∙ ap (λ z. map h (map f (take i xs)) ++ z ∷ []) same
    ∙ sym (ap (map h) (map-take_more f xs i x within is) ∙ map-append h (map f (take i xs)) (f x ∷ []))

-- what a state's row requires of its cores and its shifts
pub state_known : {S : Type 0} (index : S → ℕ) (g : Grammar) (stored : List (State S)) (s : ℕ) (state : State S)
    → AreStateRows g (map (state_of index) stored) → s < length stored → state_at (map (state_of index) stored) s ≡ state_of index state
    → IsStateToResolve index g state.items.items state.shifts.items
state_known index g stored s state are within is =
    let low : s < length (map (state_of index) stored) = omega (arith, within, length-map stored (state_of index)) in record {
      prods = subst (λ (st : StateOf). All (λ (core : CoreSet). core.prod < prods_len g) st.cores) is (λ n e known. (are.cores s low n e known).prod);
      once = subst (λ (st : StateOf). AreOnce st.cores) is (are.once s low);
      ascend = subst (λ (st : StateOf). AscendFrom 0 (keys_of st.shifts)) is (are.shifts_ascend s low);
    }

-- a refusal of a state is a refusal of the states
pub refusal_of : (len s n : ℕ) (reason : Type 0) (reasons : ℕ → Type 0) (fault : BuildFault) → s < len → n ≡ s → (reason → reasons s)
    → IsRefusal n reason fault → IsRefusalOf len reasons fault
refusal_of len s n reason reasons (AcceptReduceConflict m) below same is h =
    let at : s ≡ m = sym (h.0 ∙ same) in (subst (λ k. k < len) at below, subst reasons at (is h.1))
refusal_of len s n reason reasons Memory below same is h = tt
refusal_of len s n reason reasons TooManyStates below same is h = absurd h
refusal_of len s n reason reasons StorageTooSmall below same is h = absurd h

-- the rows and the conflicts of the states below n, none of which is refused
pub record AreRowsBelow {S A B : Type 0} (index : S → ℕ) (lists : PrecedenceLists) (g : Grammar) (stored : List (State S)) (old new : FoundConflicts S)
    (made : Vec (Vec (TIdx S × Action S) A) B) (n : ℕ) : Type 0 where
  pub actions : map (λ row. map (action_entry index) row.items) made.items ≡ action_rows lists g (map (state_of index) (take n stored))
  pub conflicts : AddsConflicts index lists (reduce_conflicts_below g (map (state_of index) stored) n)
      (shift_conflicts_below g (map (state_of index) stored) n) old new
  pub none : (s t : ℕ) → s < n → t < tokens_len g
      → ¬ (let state = state_at (map (state_of index) stored) s in IsAcceptReduce g state.cores state.shifts t)

module _ {S : Type 0} (index : S → ℕ) (lists : PrecedenceLists) (g : Grammar) (stored : List (State S)) where
  abbrev states : List StateOf
  states = map (state_of index) stored

  -- before the first state
  pub rows_begun : {A B : Type 0} (found : FoundConflicts S) (made : Vec (Vec (TIdx S × Action S) A) B) → made.items ≡ []
      → AreRowsBelow index lists g stored found found made 0
  rows_begun found made empty = record {
    actions = ap (map (λ row. map (action_entry index) row.items)) empty;
    conflicts = adds_none index lists found;
    none = λ s t low. absurd (omega (arith, low));
  }

  -- one more state
  pub rows_more : {A B C : Type 0} (old found new : FoundConflicts S) (before : Vec (Vec (TIdx S × Action S) A) B) (after : Vec (Vec (TIdx S × Action S) A) C)
      (row : Vec (TIdx S × Action S) A) (s n : ℕ) (state : State S) → s < length stored → state ≡ get_or stored s state → n ≡ s
      → AreRowsBelow index lists g stored old found before s
      → IsRowOf index lists g n (map (core_set index) state.items.items) (map (shift_entry index) state.shifts.items) found new row
      → after.items ≡ before.items ++ row ∷ [] → AreRowsBelow index lists g stored old new after (s + 1)
  rows_more old found new before after row s n state within at number so_far more pushed =
      let is = state_read (state_of index) stored s state within at in
      let here : IsRowOf index lists g s (state_at states s).cores (state_at states s).shifts found new row =
      subst (λ (st : StateOf). IsRowOf index lists g s st.cores st.shifts found new row) (sym is)
      (subst (λ k. IsRowOf index lists g k (map (core_set index) state.items.items) (map (shift_entry index) state.shifts.items) found new row) number more) in
      record {
        actions =
            row_more (λ row. map (action_entry index) row.items) (state_of index) (λ (st : StateOf). resolved_row lists g st.cores st.shifts) stored s state
            before.items after.items row within at so_far.actions pushed more.entries;
        conflicts =
            adds_more index lists (λ k. reduce_conflicts g (state_at states k).cores k)
            (λ k. shift_conflicts g (state_at states k).cores (state_at states k).shifts k) s old found new so_far.conflicts here.conflicts;
        none = λ k t below low.
            below_next (λ m. (u : ℕ) → u < tokens_len g → IsAcceptReduce g (state_at states m).cores (state_at states m).shifts u → ⊥) s
            (λ m early u. so_far.none m u early) here.none k below t low;
      }

  -- all states
  pub rows_all : {A B : Type 0} (old new : FoundConflicts S) (made : Vec (Vec (TIdx S × Action S) A) B) (n : ℕ) → n ≡ length stored
      → AreRowsBelow index lists g stored old new made n → AreRowsOf index lists g stored old new made
  rows_all old new made n full so_far =
      let whole = subst (AreRowsBelow index lists g stored old new made) full so_far in record {
        actions = whole.actions ∙ ap (λ xs. action_rows lists g (map (state_of index) xs)) (take_all (length stored) stored (omega arith));
        conflicts = whole.conflicts;
        none = whole.none;
      }

  -- with no conflicts found before, the lists are those of the states
  pub actions_are : {A B : Type 0} (old new : FoundConflicts S) (made : Vec (Vec (TIdx S × Action S) A) B) (conflicts : Option ConflictLists)
      (decided : List ResolvedOf) → HasNoConflicts old → AreRowsOf index lists g stored old new made
      → conflicts ≡ unless_empty (map (reduce_reduce_of index) new.reduce_reduce.items) (map (shift_reduce_of index) new.shift_reduce.items)
      → decided ≡ map (resolved_conflict_of index) new.resolved.items
      → AreActionsOf index lists g stored (made, conflicts, decided)
  actions_are old new made conflicts decided empty rows kept resolved =
      let len = length-map stored (state_of index) in
      let added = subst (λ n. AddsConflicts index lists (reduce_conflicts_below g states n) (shift_conflicts_below g states n) old new) (sym len) rows.conflicts in
      let reduces = added.reduce_reduce ∙ ap (λ xs. map (reduce_reduce_of index) xs ++ reduce_conflicts_below g states (length states)) empty.reduce_reduce in
      let shifts = shift_conflicts_below g states (length states) in
      let left = added.shift_reduce ∙ ap (λ xs. map (shift_reduce_of index) xs ++ unresolved lists shifts) empty.shift_reduce in record {
        actions = rows.actions;
        conflicts =
            kept ∙ ap (λ xs. unless_empty xs (map (shift_reduce_of index) new.shift_reduce.items)) reduces
            ∙ ap (unless_empty (reduce_conflicts_below g states (length states))) left;
        decided = resolved ∙ added.decided ∙ ap (λ xs. map (resolved_conflict_of index) xs ++ resolutions lists shifts) empty.decided;
        none = rows.none;
      }

-- a table of the states, by its parts
pub table_is : (g : Grammar) (states : List StateOf) (start len tokens rules : ℕ) (actions : List (List (ℕ × TableAction))) (gotos : List (List (ℕ × ℕ)))
    (conflicts : Option ConflictLists) → start ≡ 0 → len ≡ length states → tokens ≡ tokens_len g → rules ≡ rules_len g → gotos ≡ goto_rows states
    → ◌≡◌ {A = Table} (record {
      start = start;
      states = len;
      tokens = tokens;
      rules = rules;
      actions = actions;
      gotos = gotos;
      conflicts = conflicts;
      resolved = [];
    }) (table_with g states actions conflicts [])
table_is g states start len tokens rules actions gotos conflicts start_is len_is tokens_is rules_is gotos_are =
    let made : ℕ → ℕ → ℕ → ℕ → List (List (ℕ × ℕ)) → Table = λ a b c d f.
    record { start = a; states = b; tokens = c; rules = d; actions = actions; gotos = f; conflicts = conflicts; resolved = [] } in
    ap (λ a. made a len tokens rules gotos) start_is ∙ ap (λ b. made 0 b tokens rules gotos) len_is
    ∙ ap (λ c. made 0 (length states) c rules gotos) tokens_is ∙ ap (λ d. made 0 (length states) (tokens_len g) d gotos) rules_is
    ∙ ap (made 0 (length states) (tokens_len g) (rules_len g)) gotos_are

-- the table of the states by precedences, by what it has of them
pub table_by : (lists : PrecedenceLists) (g : Grammar) (states : List StateOf) (actions : List (List (ℕ × TableAction))) (conflicts : Option ConflictLists)
    (others : List ResolvedOf) → actions ≡ action_rows lists g states → conflicts ≡ conflicts_of_states lists g states → others ≡ resolved_of_states lists g states
    → table_with g states actions conflicts others ≡ table_of_states lists g states
table_by lists g states actions conflicts others actions_are kept resolved =
    ap (λ a. table_with g states a conflicts others) actions_are ∙ ap (λ c. table_with g states (action_rows lists g states) c others) kept
    ∙ ap (table_with g states (action_rows lists g states) (conflicts_of_states lists g states)) resolved

-- what follows from four facts about a value that is made
pub ok_four : {T E : Type 0} (r : Result T E) (P Q R S U : T → Type 0) → ((x : T) → P x → Q x → R x → S x → U x) → IfOk r P → IfOk r Q → IfOk r R → IfOk r S
    → IfOk r U
ok_four (Ok x) P Q R S U f p q r s = f x p q r s
ok_four (Err e) P Q R S U f p q r s = tt
