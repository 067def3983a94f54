-- If nothing follows that isn't known, each token at which a run can look is known.
use Rattle.std.proofs.Common.{◌≡◌, ◌<◌, ◌∙◌, sym, subst, inl, inr, ℕ, Bool, IsTrue, List, Option, Some, None}
use Rattle.std.proofs.lemmas.Bool.{cases_lt}
use Rattle.lrpar_grammar.specs.Grammar.{Grammar, prods_len, rule_of}
use Rattle.lrpar_table_first.proofs.GrowthLemmas.{has_room}
use Rattle.lrpar_table_rows.specs.Table.{FailsPastStates, FailsPastTokens, HasNoGotoPastStates, IsClosed, Table, ShiftTo, ReduceBy, Fails, action_of, goto_of, states_len}
use Rattle.lrpar_table_sentences.specs.Reachable.{is_marked}
use Rattle.lrpar_table_stops.specs.Met.{AreClosed, AreRight, MarksStops, is_met}
use Rattle.lrpar_table_stops.specs.ErrorStates.{AreStops, CanStop, Enters, LooksAt, Reduces, Repairs}

module _ (g : Grammar) (table : Table) (closed : IsClosed table) (past_states : FailsPastStates table) (past_tokens : FailsPastTokens table)
    (no_goto : HasNoGotoPastStates table) (known : (s t p : ℕ) → action_of table s t ≡ ReduceBy p → p < prods_len g) where
  -- a shift is in a state of the table, at a token of it
  shift_within : (s t next : ℕ) → action_of table s t ≡ ShiftTo next → (s < states_len table) × (t < table.tokens)
  shift_within s t next is = (
    elim (cases_lt s (states_len table)) [
      | inl low ↦ low
      | inr past ↦ let never : Fails ≡ ShiftTo next = sym (past_states s t past) ∙ is in absurd (cc)
    ],
    elim (cases_lt t table.tokens) [
      | inl low ↦ low
      | inr past ↦ let never : Fails ≡ ShiftTo next = sym (past_tokens s t past) ∙ is in absurd (cc)
    ],
  )

  -- a goto is in a state of the table
  goto_within : (s r next : ℕ) → goto_of table s r ≡ Some next → s < states_len table
  goto_within s r next is =
      elim (cases_lt s (states_len table)) [
        | inl low ↦ low
        | inr past ↦ let never : ◌≡◌ {A = Option ℕ} None (Some next) = sym (no_goto s r past) ∙ is in absurd (cc)
      ]

  -- a run looks at tokens of the table, in states of it
  looks_within : (s t : ℕ) → LooksAt g table s t → (s < states_len table) × (t < table.tokens)
  looks_within _ _ (Enters s t (inl is) low) = (subst (λ n. n < states_len table) (sym is) closed.start_within, low)
  looks_within _ _ (Enters s t (inr (from, token, is)) low) = (closed.shifts_within from token s is, low)
  looks_within _ _ (Reduces p below s next t looks is leads) = (closed.gotos_within below (rule_of g p) next leads.1, (looks_within s t looks).1)
  looks_within _ _ (Repairs s t other looks is low) = ((looks_within s t looks).0, low)

  module _ (sets : List (List Bool)) (right : AreRight g table sets) (all : AreClosed g table sets) where
    -- each token at which a run can look is known
    looks_met : (s t : ℕ) → LooksAt g table s t → IsTrue (is_met sets s t)
    looks_met _ _ (Enters s t (inl is) low) = subst (λ n. IsTrue (is_met sets n t)) (sym is) (all.start t low)
    looks_met _ _ (Enters s t (inr (from, token, is)) low) =
        let within = shift_within from token s is in
        (all.left from within.0 token within.1).shifts s is t low
    looks_met _ _ (Reduces p below s next t looks is leads) =
        all.reduced p (known s t p is) below (goto_within below (rule_of g p) next leads.1) t (looks_within s t looks).1 s next leads (is, looks_met s t looks)
    looks_met _ _ (Repairs s t other looks is low) =
        let within = looks_within s t looks in
        (all.left s within.0 t within.1).repairs (looks_met s t looks) is other low

    -- so the marks are exact
    pub all_stops : (marks : List Bool) → MarksStops table sets marks → AreStops g table marks
    all_stops marks are = record { states = are.states; exact = λ s. (to s, from s) }
      where
        to : (s : ℕ) → IsTrue (is_marked marks s) → CanStop g table s
        to s marked =
            let low : s < states_len table = subst (λ n. s < n) are.states (has_room marks s marked) in
            let stops = (are.exact s low).0 marked in
            (stops.0, right.met s stops.0 stops.2.1, stops.2.0)

        from : (s : ℕ) → CanStop g table s → IsTrue (is_marked marks s)
        from s (t, looks, is) =
            let within = looks_within s t looks in
            (are.exact s within.0).1 (t, within.1, (is, looks_met s t looks))
