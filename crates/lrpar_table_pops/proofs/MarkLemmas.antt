-- Marks of states, and states that shifts and gotos lead to.
use Rattle.std.proofs.Common.{◌≡◌, ◌<◌, ◌≤◌, ◌+◌, ◌∙◌, inl, inr, refl, sym, ap, subst, arith, ℕ, zero, suc, Bool, true, false, List, Some, None, length, replicate, slice_get, slice_index_or}
use Rattle.std.proofs.lemmas.Bool.{cases_lt}
use Rattle.std.proofs.lemmas.Option.{get_or_from_slice_get, same_Some, slice_get_within}
use Rattle.lrpar_grammar_places.specs.declared.span.RIdx.{RIdx}
use Rattle.lrpar_grammar_places.specs.declared.span.StIdx.{StIdx}
use Rattle.lrpar_grammar_places.specs.declared.span.TIdx.{TIdx}
use Rattle.lrpar_table_rows.specs.PlainRows.{plain_action}
use Rattle.lrpar_table_rows.specs.Table.{Fails, HasNoGotoPastStates, ShiftTo, Table, action_of, goto_of, states_len}
use Rattle.lrpar_table_pops.specs.Closed.{IsGotoState}
use Rattle.lrpar_table_rows.specs.declared.rows.Action.{Action}
use Rattle.lrpar_table_pops.specs.Entries.{AreActionsOf, AreAllRulesOf, AreAllTokensOf, AreGotosOf}
use Rattle.lrpar_table_pops.specs.StoredAll.{AreMarked, HasNoMarks, IsMarked, IsUntouched, KeepsMarks}
use Rattle.lrpar_table_pops.proofs.EntryLemmas.{element_at}

-- no shift of the first actions leads to a marked state
abbrev pub AreShiftsUnmarked : {S : Type 0} → (S → ℕ) → List (Action S) → ℕ → List Bool → Type 0
AreShiftsUnmarked {S} index actions place marks =
    (i : ℕ) (action : Action S) (next : ℕ) → i < place → slice_get actions i ≡ Some action → plain_action index action ≡ ShiftTo next → ¬ (IsMarked marks next)

-- none of the first states is marked
abbrev pub AreUnmarked : {S : Type 0} → (S → ℕ) → List (StIdx S) → ℕ → List Bool → Type 0
AreUnmarked {S} index states place marks = (i : ℕ) (state : StIdx S) → i < place → slice_get states i ≡ Some state → ¬ (IsMarked marks (index state.0))

pub unmarked : (marks : List Bool) (place : ℕ) (b : Bool) → b ≡ slice_index_or marks place false → b ≡ false → ¬ (IsMarked marks place)
unmarked marks place b is off marked = let bad : false ≡ true = sym off ∙ is ∙ marked in absurd (let none : ⊥ = cc in none)

module _ {S : Type 0} (index : S → ℕ) (marks : List Bool) where
  pub shifts_unmarked_more : (actions : List (Action S)) (place : ℕ) (action : Action S) → slice_get actions place ≡ Some action
      → ((next : ℕ) → plain_action index action ≡ ShiftTo next → ¬ (IsMarked marks next)) → AreShiftsUnmarked index actions place marks
      → AreShiftsUnmarked index actions (place + 1) marks
  shifts_unmarked_more actions place action there here before i other next low at shift =
      elim (cases_lt i place) as (λ _. ¬ (IsMarked marks next)) [
        | inl less ↦ before i other next less at shift
        | inr past ↦
            let last : i ≡ place = omega (arith, low, past) in
            let one : other ≡ action = same_Some other action (sym at ∙ ap (slice_get actions) last ∙ there) in
            here next (sym (ap (plain_action index) one) ∙ shift)
      ]

  pub unmarked_more : (states : List (StIdx S)) (place : ℕ) (state : StIdx S) → slice_get states place ≡ Some state → ¬ (IsMarked marks (index state.0))
      → AreUnmarked index states place marks → AreUnmarked index states (place + 1) marks
  unmarked_more states place state there here before i other low at =
      elim (cases_lt i place) as (λ _. ¬ (IsMarked marks (index other.0))) [
        | inl less ↦ before i other less at
        | inr past ↦
            let last : i ≡ place = omega (arith, low, past) in
            let one : other ≡ state = same_Some other state (sym at ∙ ap (slice_get states) last ∙ there) in
            subst (λ (x : StIdx S). ¬ (IsMarked marks (index x.0))) (sym one) here
      ]

  pub untouched : (table : Table) (s : StIdx S) (tokens : List (TIdx S)) (actions : List (Action S)) (rules : List (RIdx S)) (nexts : List (StIdx S)) (a n : ℕ)
      → ¬ (IsMarked marks (index s.0)) → length actions ≡ length tokens → AreActionsOf index table s tokens actions → AreAllTokensOf index table s tokens
      → length actions ≤ a → AreShiftsUnmarked index actions a marks → length nexts ≡ length rules → AreGotosOf index table s rules nexts
      → AreAllRulesOf index table s rules → length nexts ≤ n → AreUnmarked index nexts n marks → IsUntouched table marks (index s.0)
  untouched table s tokens actions rules nexts a n itself paired are all end shifts paired' are' all' end' gotos = record {
    itself = itself;
    shifts = λ t next shift.
        let token = all t (λ no. let bad : ShiftTo next ≡ Fails = sym shift ∙ no in let none : ⊥ = cc in none) in
        let low = slice_get_within tokens token.0 token.1 token.2 in
        let action = element_at actions token.0 (omega (arith, low, paired)) in
        let here = are token.0 token.1 action.0 low (sym (get_or_from_slice_get tokens token.0 token.1 token.1 token.2))
        (sym (get_or_from_slice_get actions token.0 action.0 action.0 action.1)) in
        shifts token.0 action.0 next (omega (arith, low, paired, end)) action.1 (sym here ∙ ap (action_of table (index s.0)) token.3 ∙ shift);
    gotos = λ r next goto.
        let rule = all' r next goto in
        let low = slice_get_within rules rule.0 rule.1 rule.2 in
        let state = element_at nexts rule.0 (omega (arith, low, paired')) in
        let here = are' rule.0 rule.1 state.0 low (sym (get_or_from_slice_get rules rule.0 rule.1 rule.1 rule.2))
        (sym (get_or_from_slice_get nexts rule.0 state.0 state.0 state.1)) in
        let same : index state.0.0 ≡ next = same_Some (index state.0.0) next (sym here ∙ ap (goto_of table (index s.0)) rule.3 ∙ goto) in
        subst (λ (m : ℕ). ¬ (IsMarked marks m)) same (gotos rule.0 state.0 (omega (arith, low, paired', end')) state.1);
  }

-- shifts to one state
pub shift_same : (m n : ℕ) → ShiftTo m ≡ ShiftTo n → m ≡ n
shift_same m n is = cc

-- lists of one mark
pub none_marked : (n : ℕ) → HasNoMarks (replicate n false)
none_marked zero place h = absurd (let bad : false ≡ true = h in let none : ⊥ = cc in none)
none_marked (suc n) zero h = absurd (let bad : false ≡ true = h in let none : ⊥ = cc in none)
none_marked (suc n) (suc place) h = none_marked n place h

pub all_marked : (n place : ℕ) → place < n → IsMarked (replicate n true) place
all_marked zero place low = absurd (omega (arith, low))
all_marked (suc n) zero low = refl
all_marked (suc n) (suc place) low = all_marked n place (omega (arith, low))

-- one more state is marked
pub marked_more : {S : Type 0} (index : S → ℕ) (states : List (StIdx S)) (place : ℕ) (state : StIdx S) (old new : List Bool) → slice_get states place ≡ Some state
    → length new ≡ length old → KeepsMarks old new → (index state.0 < length old → IsMarked new (index state.0)) → AreMarked index states place old
    → AreMarked index states (place + 1) new
marked_more {S} index states place state old new there long keeps marks before i other low at within =
    elim (cases_lt i place) as (λ _. IsMarked new (index other.0)) [
      | inl less ↦ keeps (index other.0) (before i other less at (omega (arith, long, within)))
      | inr past ↦
          let last : i ≡ place = omega (arith, low, past) in
          let one : other ≡ state = same_Some other state (sym at ∙ ap (slice_get states) last ∙ there) in
          let low_state : index state.0 < length new = subst (λ (x : StIdx S). index x.0 < length new) one within in
          subst (λ (x : StIdx S). IsMarked new (index x.0)) (sym one) (marks (omega (arith, long, low_state)))
    ]

-- the states that gotos of the first states lead to are marked
abbrev pub AreGotosMarked : Table → ℕ → List Bool → Type 0
AreGotosMarked table count marks = (s r next : ℕ) → s < count → goto_of table s r ≡ Some next → IsMarked marks next

pub gotos_marked_more : {S : Type 0} (index : S → ℕ) (table : Table) (s : StIdx S) (count : ℕ) (rules : List (RIdx S)) (nexts : List (StIdx S)) (old new : List Bool)
    → index s.0 ≡ count → AreAllRulesOf index table s rules → length nexts ≡ length rules → AreGotosOf index table s rules nexts
    → ((r next : ℕ) → goto_of table count r ≡ Some next → next < length new) → KeepsMarks old new → AreMarked index nexts (length nexts) new
    → AreGotosMarked table count old → AreGotosMarked table (count + 1) new
gotos_marked_more {S} index table s count rules nexts old new is all paired are within keeps marked before u r next low goto =
    elim (cases_lt u count) as (λ _. IsMarked new next) [
      | inl less ↦ keeps next (before u r next less goto)
      | inr past ↦
          let last : u ≡ count = omega (arith, low, past) in
          let here : goto_of table (index s.0) r ≡ Some next = ap (λ (n : ℕ). goto_of table n r) (is ∙ sym last) ∙ goto in
          let rule = all r next here in
          let under = slice_get_within rules rule.0 rule.1 rule.2 in
          let state = element_at nexts rule.0 (omega (arith, under, paired)) in
          let goes = are rule.0 rule.1 state.0 under (sym (get_or_from_slice_get rules rule.0 rule.1 rule.1 rule.2))
          (sym (get_or_from_slice_get nexts rule.0 state.0 state.0 state.1)) in
          let same : index state.0.0 ≡ next = same_Some (index state.0.0) next (sym goes ∙ ap (goto_of table (index s.0)) rule.3 ∙ here) in
          let low_next = within r next (ap (λ (n : ℕ). goto_of table n r) (sym last) ∙ goto) in
          subst (IsMarked new) same (marked rule.0 state.0 (omega (arith, under, paired)) state.1 (subst (λ (n : ℕ). n < length new) (sym same) low_next))
    ]

pub gotos_marked_all : (table : Table) (count : ℕ) (marks : List Bool) → states_len table ≤ count → HasNoGotoPastStates table → AreGotosMarked table count marks
    → (next : ℕ) → IsGotoState table next → IsMarked marks next
gotos_marked_all table count marks end past marked next goto =
    elim (cases_lt goto.0 (states_len table)) as (λ _. IsMarked marks next) [
      | inl low ↦ marked goto.0 goto.1 next (omega (arith, low, end)) goto.2
      | inr high ↦ absurd (let bad : None ≡ Some next = sym (past goto.0 goto.1 high) ∙ goto.2 in let none : ⊥ = cc in none)
    ]
