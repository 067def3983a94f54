-- Tests of a state's entries decide the safety conditions.
use Rattle.std.proofs.Common.{◌≡◌, ◌≢◌, ◌<◌, ◌≤◌, ◌+◌, ◌↔◌, ◌⊎◌, ℕ, List, All, Some, length, map, slice_index_or, take, refl, sym, subst, inl, inr, arith}
use Rattle.std.specs.List.{Contains, zip}
use Rattle.std.proofs.lemmas.List.{get_or_default}
use Rattle.std.proofs.lemmas.List.Elements.{All-contains}
use Rattle.lrpar_grammar.specs.Grammar.{Grammar, GrammarSymbol, Nonterminal, Terminal, end_token, prods_len}
use Rattle.lrpar_table_rows.specs.Graph.{Graph}
use Rattle.lrpar_table_rows.specs.Safe.{AcceptsOnlyAtEnd, GoesBy, NeverShiftsEnd, ReducesComplete, StepsFromCores}
use Rattle.lrpar_table_rows.specs.Table.{Table, TableAction, ShiftTo, ReduceBy, Accepts, Fails, action_of, goto_of}
use Rattle.lrpar_table_rows.specs.declared.condition.SafetyCondition.{SafetyCondition}
use Rattle.lrpar_table_rows.specs.declared.condition.SafetyCondition.TheVariants.{S3, S4, S5, S7, S8}
use Rattle.lrpar_table_rows.proofs.Mapped.{all_more, all_tested}
use Rattle.lrpar_table_rows.proofs.StoredLemmas.{entries_len, entry_at}
use Rattle.lrpar_table_conditions.specs.Entrywise.{AcceptHolds, ActionHolds, GotoHolds, IsInRange, ReduceHolds, ShiftHolds}
use Rattle.lrpar_table_conditions.proofs.CoreLemmas.{never_by_kind, steps_by_kind}

-- entries that are read of stored keys and values
module _ {K V X : Type 0} (number : K → ℕ) (value : V → X) (ks : List K) (vs : List V) (es : List (ℕ × X)) (paired : length vs ≡ length ks)
    (are : map (λ e. (number e.0, value e.1)) (zip ks vs) ≡ es) where
  -- one that was read is there
  pub entry_there : (i : ℕ) (k : K) (v : V) → i < length ks → k ≡ slice_index_or ks i k → v ≡ slice_index_or vs i v → Contains es (number k, value v)
  entry_there i k v below key at = let found = entry_at number value ks vs es paired are i k v below key at in (i, found.0, sym found.1)

  module _ (P : ℕ × X → Type 0) where
    -- what holds of all entries holds of it
    pub entry_is : All P es → (i : ℕ) (k : K) (v : V) → i < length ks → k ≡ slice_index_or ks i k → v ≡ slice_index_or vs i v → P (number k, value v)
    entry_is all i k v below key at = All-contains P es (number k, value v) all (entry_there i k v below key at)

    -- what holds of the entries so far, and of it, holds of one entry more
    pub entries_more : (i : ℕ) (k : K) (v : V) → i < length ks → k ≡ slice_index_or ks i k → v ≡ slice_index_or vs i v → P (number k, value v)
        → All P (take i es) → All P (take (i + 1) es)
    entries_more i k v below key at here so_far =
        let found = entry_at number value ks vs es paired are i k v below key at in all_more P es i (number k, value v) so_far found.0 found.1 here

    -- once all keys were looked at, it holds of all entries
    pub entries_tested : (i : ℕ) → length ks ≤ i → All P (take i es) → All P es
    entries_tested i past so_far =
        let len = entries_len number value ks vs es paired are in (all_tested P es i so_far (omega (arith, len, past))).0 refl

-- what holds of each stored action, and of errors, holds of each action
pub all_actions : (table : Table) (s : ℕ) (es : List (ℕ × TableAction)) (P : ℕ → TableAction → Type 0)
    → ((t : ℕ) (action : TableAction) → Contains es (t, action) ↔ ((action_of table s t ≡ action) × (action ≢ Fails))) → ((t : ℕ) → P t Fails)
    → All (λ e. P e.0 e.1) es ↔ ((t : ℕ) (action : TableAction) → action_of table s t ≡ action → P t action)
all_actions table s es P exact fails = (
  λ all t action at.
      elim (is_error action) as (λ _. P t action) [
        | inl error ↦ subst (P t) (sym error) (fails t)
        | inr stored ↦ All-contains (λ e. P e.0 e.1) es (t, action) all ((exact t action).1 (at, stored))
      ],
  λ each i d below.
      let e = slice_index_or es i d in
      let there : Contains es (e.0, e.1) = (i, below, get_or_default es i (e.0, e.1) d below) in
      each e.0 e.1 ((exact e.0 e.1).0 there).0,
)
  where
    is_error : (action : TableAction) → (action ≡ Fails) ⊎ (action ≢ Fails)
    is_error (ShiftTo next) = inr (λ h. absurd cc)
    is_error (ReduceBy p) = inr (λ h. absurd cc)
    is_error Accepts = inr (λ h. absurd cc)
    is_error Fails = inl refl

-- if a condition holds of each stored action, it holds of each action
pub actions_asked : (g : Grammar) (graph : Graph) (table : Table) (condition : SafetyCondition) (s : ℕ) (es : List (ℕ × TableAction))
    → ((t : ℕ) (action : TableAction) → Contains es (t, action) ↔ ((action_of table s t ≡ action) × (action ≢ Fails)))
    → All (λ e. ActionHolds g graph table condition s e.0 e.1) es
    ↔ ((t : ℕ) (action : TableAction) → action_of table s t ≡ action → ActionHolds g graph table condition s t action)
actions_asked g graph table condition s es exact =
    all_actions table s es (ActionHolds g graph table condition s) exact (λ t. tt)

-- what holds of each stored goto holds of each goto
pub all_gotos : (table : Table) (s : ℕ) (es : List (ℕ × ℕ)) (P : ℕ → ℕ → Type 0)
    → ((r next : ℕ) → Contains es (r, next) ↔ (goto_of table s r ≡ Some next))
    → All (λ e. P e.0 e.1) es ↔ ((r next : ℕ) → goto_of table s r ≡ Some next → P r next)
all_gotos table s es P exact = (
  λ all r next at. All-contains (λ e. P e.0 e.1) es (r, next) all ((exact r next).1 at),
  λ each i d below.
      let e = slice_index_or es i d in
      let there : Contains es (e.0, e.1) = (i, below, get_or_default es i (e.0, e.1) d below) in
      each e.0 e.1 ((exact e.0 e.1).0 there),
)

-- a condition that names no shifts requires nothing of a shift; the same for reductions, accepts and gotos
pub shift_unasked : (g : Grammar) (graph : Graph) (table : Table) (condition : SafetyCondition) (s t next : ℕ) → condition ≢ S3 → condition ≢ S4
    → condition ≢ S8 → ShiftHolds g graph table condition s t next
shift_unasked g graph table S3 s t next not_third not_fourth not_eighth = absurd (not_third refl)
shift_unasked g graph table S4 s t next not_third not_fourth not_eighth = absurd (not_fourth refl)
shift_unasked g graph table S8 s t next not_third not_fourth not_eighth = absurd (not_eighth refl)
shift_unasked g graph table _ s t next not_third not_fourth not_eighth = tt

pub reduce_unasked : (g : Grammar) (graph : Graph) (condition : SafetyCondition) (s p : ℕ) → condition ≢ S5 → ReduceHolds g graph condition s p
reduce_unasked g graph S5 s p not = absurd (not refl)
reduce_unasked g graph _ s p not = tt

pub accept_unasked : (g : Grammar) (graph : Graph) (condition : SafetyCondition) (s t : ℕ) → condition ≢ S7 → AcceptHolds g graph condition s t
accept_unasked g graph S7 s t not = absurd (not refl)
accept_unasked g graph _ s t not = tt

pub goto_unasked : (g : Grammar) (graph : Graph) (table : Table) (condition : SafetyCondition) (s r next : ℕ) → condition ≢ S4 → condition ≢ S8
    → GotoHolds g graph table condition s r next
goto_unasked g graph table S4 s r next not_fourth not_eighth = absurd (not_fourth refl)
goto_unasked g graph table S8 s r next not_fourth not_eighth = absurd (not_eighth refl)
goto_unasked g graph table _ s r next not_fourth not_eighth = tt

module _ (g : Grammar) (graph : Graph) (table : Table) (s : ℕ) where
  -- S3 by actions
  pub never_shifts_end_each : ((t : ℕ) (action : TableAction) → action_of table s t ≡ action → ActionHolds g graph table S3 s t action) ↔ NeverShiftsEnd g table s
  never_shifts_end_each = (λ each next at. each (end_token g) (ShiftTo next) at refl, λ keeps t action at. kept keeps t action at)
    where
      kept : NeverShiftsEnd g table s → (t : ℕ) (action : TableAction) → action_of table s t ≡ action → ActionHolds g graph table S3 s t action
      kept keeps t (ShiftTo next) at = λ end. keeps next (subst (λ (k : ℕ). action_of table s k ≡ ShiftTo next) end at)
      kept keeps t (ReduceBy p) at = tt
      kept keeps t Accepts at = tt
      kept keeps t Fails at = tt

  -- S4 by actions and gotos
  pub steps_each : ((t : ℕ) (action : TableAction) → action_of table s t ≡ action → ActionHolds g graph table S4 s t action)
      → ((r next : ℕ) → goto_of table s r ≡ Some next → GotoHolds g graph table S4 s r next) → StepsFromCores g graph table s
  steps_each actions gotos = steps_by_kind g graph table s (λ t next at. actions t (ShiftTo next) at) gotos

  -- conversely
  pub steps_actions : StepsFromCores g graph table s → (t : ℕ) (action : TableAction) → action_of table s t ≡ action → ActionHolds g graph table S4 s t action
  steps_actions steps t (ShiftTo next) at = steps (Terminal t) next at
  steps_actions steps t (ReduceBy p) at = tt
  steps_actions steps t Accepts at = tt
  steps_actions steps t Fails at = tt

  -- S5 by actions
  pub reduces_each : ((t : ℕ) (action : TableAction) → action_of table s t ≡ action → ActionHolds g graph table S5 s t action) ↔ ReducesComplete g graph table s
  reduces_each = (λ each t p at. each t (ReduceBy p) at, λ complete t action at. holds complete t action at)
    where
      holds : ReducesComplete g graph table s → (t : ℕ) (action : TableAction) → action_of table s t ≡ action → ActionHolds g graph table S5 s t action
      holds complete t (ShiftTo next) at = tt
      holds complete t (ReduceBy p) at = complete t p at
      holds complete t Accepts at = tt
      holds complete t Fails at = tt

  -- S7 by actions
  pub accepts_each : ((t : ℕ) (action : TableAction) → action_of table s t ≡ action → ActionHolds g graph table S7 s t action) ↔ AcceptsOnlyAtEnd g graph table s
  accepts_each = (λ each t at. each t Accepts at, λ accepts t action at. holds accepts t action at)
    where
      holds : AcceptsOnlyAtEnd g graph table s → (t : ℕ) (action : TableAction) → action_of table s t ≡ action → ActionHolds g graph table S7 s t action
      holds accepts t (ShiftTo next) at = tt
      holds accepts t (ReduceBy p) at = tt
      holds accepts t Accepts at = accepts t at
      holds accepts t Fails at = tt

  -- S8 by actions and gotos: no transition to the start state
  pub never_each : ((t : ℕ) (action : TableAction) → action_of table s t ≡ action → ActionHolds g graph table S8 s t action)
      → ((r next : ℕ) → goto_of table s r ≡ Some next → GotoHolds g graph table S8 s r next) → (x : GrammarSymbol) → ¬ (GoesBy table s x table.start)
  never_each actions gotos =
      never_by_kind table s table.start (λ t at. actions t (ShiftTo table.start) at refl) (λ r at. gotos r table.start at refl)

  -- conversely
  pub never_actions : ((x : GrammarSymbol) → ¬ (GoesBy table s x table.start)) → (t : ℕ) (action : TableAction) → action_of table s t ≡ action
      → ActionHolds g graph table S8 s t action
  never_actions never t (ShiftTo next) at = λ back. never (Terminal t) (subst (λ (n : ℕ). action_of table s t ≡ ShiftTo n) back at)
  never_actions never t (ReduceBy p) at = tt
  never_actions never t Accepts at = tt
  never_actions never t Fails at = tt

  -- and for gotos
  pub never_gotos : ((x : GrammarSymbol) → ¬ (GoesBy table s x table.start)) → (r next : ℕ) → goto_of table s r ≡ Some next
      → GotoHolds g graph table S8 s r next
  never_gotos never r next at = λ back. never (Nonterminal r) (subst (λ (n : ℕ). goto_of table s r ≡ Some n) back at)

  -- S1 by actions: reductions are by productions of the grammar
  pub named_each : ((t p : ℕ) → action_of table s t ≡ ReduceBy p → p < prods_len g) → (t : ℕ) (action : TableAction) → action_of table s t ≡ action
      → IsInRange g action
  named_each named t (ShiftTo next) at = tt
  named_each named t (ReduceBy p) at = named t p at
  named_each named t Accepts at = tt
  named_each named t Fails at = tt
