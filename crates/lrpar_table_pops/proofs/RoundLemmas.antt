-- Why each state is closed after the rounds: a state is left out only if neither it nor a state that it goes to changed, and it was closed then.
use Rattle.std.proofs.Common.{◌≡◌, ◌≢◌, ◌<◌, ◌≤◌, ◌+◌, ◌⊎◌, inl, inr, sym, subst, arith, ℕ, Bool, false, List, Some, None}
use Rattle.std.proofs.lemmas.Bool.{OnFalse_at, cases_eq}
use Rattle.lrpar_grammar.specs.Grammar.{Grammar}
use Rattle.lrpar_table_rows.specs.Graph.{Graph}
use Rattle.lrpar_table_rows.specs.Table.{Table, states_len}
use Rattle.lrpar_table_pops.specs.Closed.{AreAllPopsOf, AreClosed}
use Rattle.lrpar_table_pops.specs.StoredAll.{AreSameStored, AreClosedUnlessMarked, HasNoMarks, IsClosedIf, IsClosedState, IsMarked, IsSoundTable, IsUntouched, KeepsMarks, Saturates}
use Rattle.lrpar_table_pops.specs.declared.pops.StateExits.{StateExits}
use Rattle.lrpar_table_pops.proofs.ClosedLemmas.{closed_exits_are_all}
use Rattle.lrpar_table_pops.proofs.SaturateLemmas.{closed_local, closed_same}

-- the states that were visited in this round, and the others, are closed, unless they are touched by marks
abbrev pub AreSettledFrom : Grammar → Graph → Table → List StateExits → List Bool → List Bool → ℕ → Type 0
AreSettledFrom g graph table states marks old above =
    (s : ℕ) → s < states_len table → IsUntouched table marks s → (s + above < states_len table → IsUntouched table old s) → IsClosedState g graph table states s

less_touched : (table : Table) (old new : List Bool) (s : ℕ) → KeepsMarks old new → IsUntouched table new s → IsUntouched table old s
less_touched table old new s keeps untouched = record {
  itself = λ h. untouched.itself (keeps s h);
  shifts = λ t next shift h. untouched.shifts t next shift (keeps next h);
  gotos = λ r next goto h. untouched.gotos r next goto (keeps next h);
}

module _ (g : Grammar) (graph : Graph) (table : Table) where
  pub settled_start : (states : List StateExits) (marks old : List Bool) → AreClosedUnlessMarked g graph table states old → AreSettledFrom g graph table states marks old 0
  settled_start states marks old settled s low untouched unvisited = settled s low (unvisited (omega (arith, low)))

  pub settled_end : (states : List StateExits) (marks old : List Bool) (above : ℕ) → states_len table ≤ above → AreSettledFrom g graph table states marks old above
      → AreClosedUnlessMarked g graph table states marks
  settled_end states marks old above end settled s low untouched = settled s low untouched (λ less. absurd (omega (arith, less, end)))

  module _ (now next : List StateExits) (marks old : List Bool) (above number : ℕ) (r : Bool) (here : number + above + 1 ≡ states_len table)
      (added : Saturates g graph table number r (IsUntouched table old number ⊎ IsClosedState g graph table now number) now next)
      (before : AreSettledFrom g graph table now marks old above) where
    -- exits were added to a state, and it was marked
    pub settled_marked : (new : List Bool) → KeepsMarks marks new → IsMarked new number → AreSettledFrom g graph table next new old (above + 1)
    settled_marked new keeps marked s low untouched unvisited at =
        let apart : s ≢ number = λ same. untouched.itself (subst (IsMarked new) (sym same) marked) in
        let was = before s low (less_touched table marks new s keeps untouched) (λ less. unvisited (omega (arith, less, apart, here))) at in
        closed_local g graph table s at now next (λ t n shift. added.alone n None (λ same. untouched.shifts t n shift (subst (IsMarked new) (sym same) marked)))
        (λ rule n t goto. added.alone n (Some t) (λ same. untouched.gotos rule n goto (subst (IsMarked new) (sym same) marked))) (added.alone s at apart) was

    -- nothing was added
    pub settled_same : r ≡ false → AreSettledFrom g graph table next marks old (above + 1)
    settled_same none s low untouched unvisited at =
        let same = OnFalse_at none added.same in
        let back : AreSameStored next now = λ u other. sym (same u other) in
        closed_same g graph table s at next now back (elim (cases_eq s number) as (λ _. IsClosedIf g graph table now s at) [
          | inl is ↦
              elim (OnFalse_at none added.closed) as (λ _. IsClosedIf g graph table now s at) [
                | inl skipped ↦ before s low untouched (λ less. subst (IsUntouched table old) (sym is) skipped) at
                | inr closed ↦ subst (λ (u : ℕ). IsClosedIf g graph table now u at) (sym is) (closed at)
              ]
          | inr apart ↦ before s low untouched (λ less. unvisited (omega (arith, less, apart, here))) at
        ])

  -- no state is marked any more
  pub all_settled : (states : List StateExits) (marks : List Bool) → IsSoundTable g graph table → AreClosedUnlessMarked g graph table states marks → HasNoMarks marks
      → AreAllPopsOf g table states
  all_settled states marks sound settled none =
      let free : (s : ℕ) → IsUntouched table marks s = λ s. record {
        itself = none s;
        shifts = λ t next shift. none next;
        gotos = λ r next goto. none next;
      } in
      let closed : AreClosed g graph table states = record {
        any = λ s low. settled s low (free s) None tt;
        at = λ s t low goto kept. settled s low (free s) (Some t) (goto, kept);
      } in
      closed_exits_are_all g graph table states sound.safe sound.closed sound.tokens closed
