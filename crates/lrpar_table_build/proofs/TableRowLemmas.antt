-- The table of the states: each row has the actions after conflict resolution, ascending; and look-ups in it.
use Rattle.std.proofs.Common.{◌≡◌, ◌≢◌, ◌<◌, ◌≤◌, ◌+◌, ◌∙◌, ◌∷◌, ◌++◌, refl, sym, ap, subst, inl, inr, arith, ℕ, zero, suc, Bool, true, false, List, [], All, Option, Some, None, length, map, nat_eq, slice_index, slice_index_or, unwrap_or}
use Rattle.std.specs.List.{Contains, flat_map, range_with_len}
use Rattle.std.specs.List.Sorted.{IsStrictlyIncreasing}
use Rattle.std.specs.Map.{keys_of, lookup}
use Rattle.std.proofs.lemmas.Bool.{cases_eq, eq-eqb, ne_eqb}
use Rattle.std.proofs.lemmas.List.{get_or-map, length-map}
use Rattle.std.proofs.lemmas.List.Elements.{All-append, All-cons, All-nil, Contains-get_or}
use Rattle.std.proofs.lemmas.Map.Entries.{lookup_head, lookup_tail}
use Rattle.lrpar_grammar.specs.Grammar.{Grammar, rules_len, start_prod, tokens_len}
use Rattle.lrpar_table_precedence.specs.Precedence.{PrecedenceLists}
use Rattle.lrpar_table_precedence.specs.declared.precedence.Resolution.{Resolution}
use Rattle.lrpar_table_precedence.specs.declared.precedence.Resolution.TheVariants.{Shift, Reduce, Error}
use Rattle.lrpar_table_rows.specs.Table.{AreEntries, ConflictLists, IsActionEntry, IsActionWithin, IsGotoEntry, IsTable, ResolvedOf, Table, TableAction, ShiftTo, ReduceBy, Accepts, Fails, action_of, actions_at, goto_of}
use Rattle.lrpar_table_rows.proofs.EntryLemmas.{entry_found}
use Rattle.lrpar_table_items.specs.StateRows.{action_rows, goto_rows, table_of_states, table_with}
use Rattle.lrpar_table_items.specs.States.{AreStateRows, StateOf, state_at}
use Rattle.lrpar_table_items.specs.Resolution.{AscendFrom, chosen, decides_at, entry_at, is_complete_at, reductions, resolved, resolved_at, resolved_row}
use Rattle.lrpar_table_items.proofs.EntryLemmas.{lookup_past}
use Rattle.lrpar_table_items.proofs.ResolutionLemmas.{ascend_lower}

-- numbers that ascend, each above the one before
pub increasing_from : (a : ℕ) (ks : List ℕ) → AscendFrom a ks → IsStrictlyIncreasing ks
increasing_from a [] up k below = absurd (omega (arith, below))
increasing_from a (x ∷ []) up k below = absurd (omega (arith, below))
increasing_from a (x ∷ y ∷ ks) up zero below = let next = up.1.0 in omega (arith, next)
increasing_from a (x ∷ y ∷ ks) up (suc k) below =
    let next : suc (k + 1) ≡ suc k + 1 = omega arith in
    subst (λ n. slice_index (x ∷ y ∷ ks) (suc k) < slice_index (x ∷ y ∷ ks) n) next (increasing_from (x + 1) (y ∷ ks) up.1 k (omega (arith, below)))

-- a look-up of the first action of a row
entry_here : (k : ℕ) (action : TableAction) (later : List (ℕ × TableAction)) → lookup (nat_eq k) later ≡ None
    → unwrap_or (lookup (nat_eq k) (entry_at k action ++ later)) Fails ≡ action
entry_here k (ShiftTo next) later none = ap (λ o. unwrap_or o Fails) (lookup_head (nat_eq k) (k, ShiftTo next) later (eq-eqb k k refl))
entry_here k (ReduceBy p) later none = ap (λ o. unwrap_or o Fails) (lookup_head (nat_eq k) (k, ReduceBy p) later (eq-eqb k k refl))
entry_here k Accepts later none = ap (λ o. unwrap_or o Fails) (lookup_head (nat_eq k) (k, Accepts) later (eq-eqb k k refl))
entry_here k Fails later none = ap (λ o. unwrap_or o Fails) none

entry_elsewhere : (k t : ℕ) (action : TableAction) (later : List (ℕ × TableAction)) → t ≢ k
    → lookup (nat_eq t) (entry_at k action ++ later) ≡ lookup (nat_eq t) later
entry_elsewhere k t (ShiftTo next) later other = lookup_tail (nat_eq t) (k, ShiftTo next) later (ne_eqb t k other)
entry_elsewhere k t (ReduceBy p) later other = lookup_tail (nat_eq t) (k, ReduceBy p) later (ne_eqb t k other)
entry_elsewhere k t Accepts later other = lookup_tail (nat_eq t) (k, Accepts) later (ne_eqb t k other)
entry_elsewhere k t Fails later other = refl

entry_ascends : (k : ℕ) (action : TableAction) (later : List (ℕ × TableAction)) → AscendFrom (k + 1) (keys_of later)
    → AscendFrom k (keys_of (entry_at k action ++ later))
entry_ascends k (ShiftTo next) later up = (omega arith, up)
entry_ascends k (ReduceBy p) later up = (omega arith, up)
entry_ascends k Accepts later up = (omega arith, up)
entry_ascends k Fails later up = ascend_lower k (k + 1) (keys_of later) (omega arith) up

entry_each : (tokens states k : ℕ) (action : TableAction) → k < tokens → IsActionWithin states action → All (IsActionEntry tokens states) (entry_at k action)
entry_each tokens states k (ShiftTo next) below within =
    All-cons (IsActionEntry tokens states) (k, ShiftTo next) [] (record { token = below; stored = λ h. absurd (cc); within = within })
    (All-nil (IsActionEntry tokens states))
entry_each tokens states k (ReduceBy p) below within =
    All-cons (IsActionEntry tokens states) (k, ReduceBy p) [] (record { token = below; stored = λ h. absurd (cc); within = within })
    (All-nil (IsActionEntry tokens states))
entry_each tokens states k Accepts below within =
    All-cons (IsActionEntry tokens states) (k, Accepts) [] (record { token = below; stored = λ h. absurd (cc); within = within })
    (All-nil (IsActionEntry tokens states))
entry_each tokens states k Fails below within = All-nil (IsActionEntry tokens states)

module _ (f : ℕ → TableAction) where
  -- a row with an action for each of n numbers from a on
  abbrev row_from : ℕ → ℕ → List (ℕ × TableAction)
  row_from a n = flat_map (λ t. entry_at t (f t)) (range_with_len a n)

  row_ascends : (a n : ℕ) → AscendFrom a (keys_of (row_from a n))
  row_ascends a zero = tt
  row_ascends a (suc n) = entry_ascends a (f a) (row_from (a + 1) n) (row_ascends (a + 1) n)

  -- a look-up in it
  row_lookup : (a n t : ℕ) → a ≤ t → t < a + n → unwrap_or (lookup (nat_eq t) (row_from a n)) Fails ≡ f t
  row_lookup a zero t from below = absurd (omega (arith, from, below))
  row_lookup a (suc n) t from below =
      elim (cases_eq t a) [
        | inl here ↦
            let none = lookup_past a (a + 1) (row_from (a + 1) n) (omega arith) (row_ascends (a + 1) n) in
            subst (λ k. unwrap_or (lookup (nat_eq k) (entry_at a (f a) ++ row_from (a + 1) n)) Fails ≡ f k) (sym here)
            (entry_here a (f a) (row_from (a + 1) n) none)
        | inr other ↦
            let differs : t ≢ a = other in
            ap (λ o. unwrap_or o Fails) (entry_elsewhere a t (f a) (row_from (a + 1) n) other)
            ∙ row_lookup (a + 1) n t (omega (arith, from, differs)) (omega (arith, below))
      ]

  row_each : (tokens states a n : ℕ) → a + n ≤ tokens → ((t : ℕ) → t < tokens → IsActionWithin states (f t)) → All (IsActionEntry tokens states) (row_from a n)
  row_each tokens states a zero low within = All-nil (IsActionEntry tokens states)
  row_each tokens states a (suc n) low within =
      All-append (IsActionEntry tokens states) (entry_at a (f a)) (row_from (a + 1) n)
      (entry_each tokens states a (f a) (omega (arith, low)) (within a (omega (arith, low))))
      (row_each tokens states (a + 1) n (omega (arith, low)) within)

-- the action after conflict resolution has its state in range, if the shift has
chosen_within : (states : ℕ) (by : Option Resolution) (next p : ℕ) → next < states → IsActionWithin states (chosen by next p)
chosen_within states None next p within = within
chosen_within states (Some Shift) next p within = within
chosen_within states (Some Reduce) next p within = tt
chosen_within states (Some Error) next p within = tt

resolved_within : (by : ℕ → Option Resolution) (states : ℕ) (shift : Option ℕ) (prods : List ℕ) (accepts : Bool) → ((next : ℕ) → shift ≡ Some next → next < states)
    → IsActionWithin states (resolved by shift prods accepts)
resolved_within by states (Some next) [] accepts within = within next refl
resolved_within by states (Some next) (p ∷ later) accepts within = chosen_within states (by p) next p (within next refl)
resolved_within by states None (p ∷ later) accepts within = tt
resolved_within by states None [] true within = tt
resolved_within by states None [] false within = tt

-- what holds of each member holds of all
All-from_member : {X : Type 0} (P : X → Type 0) (xs : List X) → ((x : X) → Contains xs x → P x) → All P xs
All-from_member P xs each k d below = each (slice_index_or xs k d) (Contains-get_or xs k d below)

-- what holds of the images of the members, by their places
All-map_at : {X Y : Type 0} (P : Y → Type 0) (f : X → Y) (xs : List X) (e : X) → ((k : ℕ) → k < length xs → P (f (slice_index_or xs k e))) → All P (map f xs)
All-map_at P f xs e each k d below =
    let within : k < length xs = omega (arith, below, length-map xs f) in
    subst P (sym (get_or-map f xs k e d within)) (each k within)

module _ (g : Grammar) (states : List StateOf) where
  -- the goto by a rule is that of the state
  pub goto_is : (table : Table) (s r : ℕ) → s < length states → table.gotos ≡ goto_rows states → goto_of table s r ≡ lookup (nat_eq r) (state_at states s).gotos
  unfolding goto_of
  goto_is table s r below is =
      ap (λ (rows : List (List (ℕ × ℕ))). lookup (nat_eq r) (slice_index_or rows s [])) is
      ∙ ap (λ (row : List (ℕ × ℕ)). lookup (nat_eq r) row) (get_or-map (λ (state : StateOf). state.gotos) states s _ [] below)

  module _ (lists : PrecedenceLists) where
    action_row : (s : ℕ) → s < length states
        → actions_at (table_of_states lists g states) s ≡ resolved_row lists g (state_at states s).cores (state_at states s).shifts
    action_row s below = get_or-map (λ (state : StateOf). resolved_row lists g state.cores state.shifts) states s _ [] below

    -- the action at a token is the one after conflict resolution
    pub action_is : (s t : ℕ) → s < length states → t < tokens_len g
        → action_of (table_of_states lists g states) s t ≡ resolved_at lists g (state_at states s).cores (state_at states s).shifts t
    unfolding action_of
    action_is s t below within =
        ap (λ (row : List (ℕ × TableAction)). unwrap_or (lookup (nat_eq t) row) Fails) (action_row s below)
        ∙ row_lookup (resolved_at lists g (state_at states s).cores (state_at states s).shifts) 0 (tokens_len g) t (omega arith) (omega (arith, within))

  module _ (are : AreStateRows g states) where
    goto_entries : (s : ℕ) → s < length states → AreEntries (IsGotoEntry (rules_len g) (length states)) (state_at states s).gotos
    goto_entries s below =
        let row = (state_at states s).gotos in
        let up = increasing_from 0 (keys_of row) (are.gotos_ascend s below) in
        record {
          ascending = up;
          each = All-from_member (IsGotoEntry (rules_len g) (length states)) row (λ entry there.
              let fits = are.gotos_fit s entry.0 entry.1 below ((entry_found row entry.0 entry.1 up).0 there) in
              record { rule = fits.0; within = fits.1 });
        }

    module _ (lists : PrecedenceLists) where
      action_entries : (s : ℕ) → s < length states
          → AreEntries (IsActionEntry (tokens_len g) (length states)) (resolved_row lists g (state_at states s).cores (state_at states s).shifts)
      action_entries s below =
          let f = resolved_at lists g (state_at states s).cores (state_at states s).shifts in
          record {
            ascending = increasing_from 0 _ (row_ascends f 0 (tokens_len g));
            each = row_each f (tokens_len g) (length states) 0 (tokens_len g) (omega arith) (λ t within.
                resolved_within (decides_at lists t) (length states) (lookup (nat_eq t) (state_at states s).shifts) (reductions g (state_at states s).cores t)
                (is_complete_at g (state_at states s).cores t (start_prod g)) (λ next is. (are.shifts_fit s t next below is).1));
          }

      -- so the rows are those of a table, if there is a state
      pub is_table : 0 < length states → (limit : ℕ) (conflicts : Option ConflictLists) (others : List ResolvedOf) → length states ≤ limit → tokens_len g ≤ limit
          → rules_len g ≤ limit → IsTable limit (table_with g states (action_rows lists g states) conflicts others)
      is_table some limit conflicts others states_fit tokens_fit rules_fit = record {
        actions_len = length-map states (λ (state : StateOf). resolved_row lists g state.cores state.shifts);
        gotos_len = length-map states (λ (state : StateOf). state.gotos);
        states_fit = states_fit;
        tokens_fit = tokens_fit;
        rules_fit = rules_fit;
        start_within = some;
        actions = All-map_at (AreEntries (IsActionEntry (tokens_len g) (length states))) (λ (state : StateOf). resolved_row lists g state.cores state.shifts) states _
            action_entries;
        gotos = All-map_at (AreEntries (IsGotoEntry (rules_len g) (length states))) (λ (state : StateOf). state.gotos) states _ goto_entries;
      }
