-- The states that a parse can meet: marks of them, and the steps of a table.
use Rattle.std.proofs.Common.{◌≡◌, ◌<◌, ◌≤◌, ◌+◌, ◌∙◌, refl, sym, ap, subst, inl, inr, arith, lit<, ℕ, Bool, true, false, cond, IsTrue, List, [], ◌∷◌, ◌++◌, All, Option, Some, get_or, length, replicate, set, slice_get}
use Rattle.std.specs.List.{Contains, flat_map, range_with_len}
use Rattle.std.proofs.lemmas.Bool.{cases_eq, cases_lt, false≢true}
use Rattle.std.proofs.lemmas.List.{append-nil, get_or-replicate, get_or-set_other, get_or-set_same, get_or_past, length-replicate, length-set}
use Rattle.std.proofs.lemmas.Option.{slice_get-get_or}
use Rattle.std.proofs.lemmas.List.Elements.{Contains-get_or, Contains-append_cases, Contains-append_left, Contains-append_right}
use Rattle.std.proofs.lemmas.Grind.{flat_map-append}
use Rattle.lrpar_grammar_places.proofs.ListLemmas.{range_more}
use Rattle.std.proofs.Common.{zero-add}
use Rattle.lrpar_grammar.specs.Tokens.{has}
use Rattle.lrpar_table_first.specs.FirstRows.{row_at}
use Rattle.lrpar_table_precedence.specs.Precedence.{PrecedenceLists}
use Rattle.lrpar_table_rows.specs.Table.{IsClosed, Table, TableAction, ShiftTo, ReduceBy, Accepts, Fails, action_of, actions_at, gotos_at, states_len}
use Rattle.lrpar_table_build.proofs.MemberLemmas.{joined_has, joined_member, member_cases, member_none, range_has, range_member}
use Rattle.lrpar_table_sentences.specs.AccessLens.{IsStoredAt}
use Rattle.lrpar_table_sentences.specs.Reachable.{is_marked}
use Rattle.lrpar_conflict_examples.specs.Met.{AreMarks, AreMet, AreSteps, AreLostShifts, Goes, IsMet, IsStep, IsStepOf, MarksNext, Shifts, Starts, Steps, goto_steps, shift_step, shift_steps, steps_at, steps_below}

-- a marked state is in range
marked_within : (marks : List Bool) (s : ℕ) → IsTrue (is_marked marks s) → s < length marks
marked_within marks s marked =
    elim (cases_lt s (length marks)) [
      | inl low ↦ low
      | inr past ↦ absurd (false≢true (sym (get_or_past marks s false past) ∙ marked))
    ]

-- at first the start alone is marked
pub start_marks : (table : Table) (marks : List Bool) (r n : ℕ) → n ≡ states_len table → r ≡ table.start → r < n → marks ≡ set (replicate n false) r true
    → (precedences : PrecedenceLists) → AreMarks precedences table marks
start_marks table marks r n count is low are precedences =
    let none = replicate n false in
    let long : r < length none = let len = length-replicate n false in omega (arith, low, len) in
    subst (AreMarks precedences table) (sym are)
    (record {
      states = length-set none r true ∙ length-replicate n false ∙ count;
      start = subst (λ (k : ℕ). IsTrue (is_marked (set none r true) k)) is (get_or-set_same none r true false long);
      met = λ s marked.
          elim (cases_eq s r) as (λ _. IsMet precedences table s) [
            | inl same ↦ subst (IsMet precedences table) (sym (same ∙ is)) Starts
            | inr other ↦ absurd (false≢true (sym (none_marked s) ∙ sym (get_or-set_other none r s true false other) ∙ marked))
          ];
    })
  where
    none_marked : (s : ℕ) → is_marked (replicate n false) s ≡ false
    none_marked s =
        elim (cases_lt s n) [
          | inl within ↦ get_or-replicate n s false false within
          | inr past ↦ get_or_past (replicate n false) s false (let len = length-replicate n false in omega (arith, past, len))
        ]

-- a step from a marked state
pub next_marks : (marks : List Bool) (from next : ℕ) → next < length marks → is_marked marks from ≡ true → (precedences : PrecedenceLists) (table : Table)
    → AreMarks precedences table marks → IsStep precedences table from next → AreMarks precedences table (set marks next true)
next_marks marks from next low marked precedences table are step =
    record {
      states = length-set marks next true ∙ are.states;
      start =
          elim (cases_eq table.start next) as (λ _. IsTrue (is_marked (set marks next true) table.start)) [
            | inl same ↦ subst (λ (n : ℕ). IsTrue (is_marked (set marks next true) n)) (sym same) (get_or-set_same marks next true false low)
            | inr other ↦ get_or-set_other marks next table.start true false other ∙ are.start
          ];
      met = λ s now.
          elim (cases_eq s next) as (λ _. IsMet precedences table s) [
            | inl same ↦ subst (IsMet precedences table) (sym same) (Steps from next (are.met from marked) step)
            | inr other ↦ are.met s (sym (get_or-set_other marks next s true false other) ∙ now)
          ];
    }

-- the step in a place leads from a marked state to a marked one
abbrev pub NextAt : List (ℕ × ℕ) → List Bool → ℕ → Type 0
NextAt edges marks k = (edge : ℕ × ℕ) → slice_get edges k ≡ Some edge → MarksNext marks edge

pub next_at : (edges : List (ℕ × ℕ)) (marks : List Bool) (k : ℕ) (d : ℕ × ℕ) → k < length edges → MarksNext marks (get_or edges k d) → NextAt edges marks k
next_at edges marks k d low next other at =
    let edge = get_or edges k d in
    let same : Some edge ≡ Some other = sym (slice_get-get_or edges k d low) ∙ at in
    subst (MarksNext marks) (some_same edge other same) next
  where
    some_same : (x y : ℕ × ℕ) → ◌≡◌ {A = Option (ℕ × ℕ)} (Some x) (Some y) → x ≡ y
    some_same x y both = cc

pub all_next : (edges : List (ℕ × ℕ)) (marks : List Bool) → ((k : ℕ) → k < length edges → NextAt edges marks k) → All (MarksNext marks) edges
all_next edges marks each k d low = each k low (get_or edges k d) (slice_get-get_or edges k d low)

-- the states of steps are in range
pub edges_within : (precedences : PrecedenceLists) (table : Table) (edges : List (ℕ × ℕ)) (marks : List Bool) → AreSteps precedences table edges
    → length marks ≡ states_len table → All (λ edge. (edge.0 < length marks) × (edge.1 < length marks)) edges
edges_within precedences table edges marks steps count k d low =
    let own = steps.sound (get_or edges k d) (Contains-get_or edges k d low) in
    let first = own.from in
    let second = own.next in
    (omega (arith, first, count), omega (arith, second, count))

-- a step among those of a table is one
pub edge_step : (precedences : PrecedenceLists) (table : Table) (edges : List (ℕ × ℕ)) (k : ℕ) (d : ℕ × ℕ) → AreSteps precedences table edges
    → k < length edges → IsStep precedences table (get_or edges k d).0 (get_or edges k d).1
edge_step precedences table edges k d steps low = (steps.sound (get_or edges k d) (Contains-get_or edges k d low)).step

-- if each step from a marked state leads to a marked one, all states that can be met are marked
pub all_met : (precedences : PrecedenceLists) (table : Table) (edges : List (ℕ × ℕ)) (marks : List Bool) → AreSteps precedences table edges
    → AreMarks precedences table marks → All (MarksNext marks) edges → AreMet precedences table marks
all_met precedences table edges marks steps are closed = record { states = are.states; exact = λ s. (are.met s, marked_if s) }
  where
    marked_if : (s : ℕ) → IsMet precedences table s → IsTrue (is_marked marks s)
    marked_if s Starts = are.start
    marked_if next (Steps s n met step) =
        let before = marked_if s met in
        let within = marked_within marks s before in
        let there = steps.all s n (let count = are.states in omega (arith, within, count)) step in
        let next_is : MarksNext marks (s, n) = subst (MarksNext marks) there.2 (closed there.0 (s, n) there.1) in
        next_is before

module _ (precedences : PrecedenceLists) (table : Table) (rows : List (List Bool)) (taken : AreLostShifts precedences table rows) (closed : IsClosed table)
    (past_tokens : (s t : ℕ) → table.tokens ≤ t → action_of table s t ≡ Fails) (stored : (s : ℕ) → s < states_len table → IsStoredAt table s) where
  -- a shift is at a token of the table
  token_within : (s t next : ℕ) → action_of table s t ≡ ShiftTo next → t < table.tokens
  token_within s t next is =
      elim (cases_lt t table.tokens) [
        | inl low ↦ low
        | inr past ↦ let never : Fails ≡ ShiftTo next = sym (past_tokens s t past) ∙ is in absurd (cc)
      ]

  shift_made : (s t : ℕ) (action : TableAction) (edge : ℕ × ℕ) → s < states_len table → action_of table s t ≡ action
      → Contains (shift_step (row_at rows s) s t action) edge → IsStepOf precedences table edge
  shift_made s t (ShiftTo next) edge low is there = by_test (has (row_at rows s) t) refl there
    where
      by_test : (b : Bool) → has (row_at rows s) t ≡ b → Contains (cond b [] ((s, next) ∷ [])) edge → IsStepOf precedences table edge
      by_test true has_it there = absurd (member_none edge there)
      by_test false has_not there =
          elim (member_cases (s, next) [] edge there) [
            | inl same ↦
                subst (IsStepOf precedences table) same
                (record {
                  from = low;
                  next = closed.shifts_within s t next is;
                  step = Shifts t is (sym (taken.exact s t low (token_within s t next is)) ∙ has_not);
                })
            | inr none ↦ absurd (member_none edge none)
          ]
  shift_made s t (ReduceBy p) edge low is there = absurd (member_none edge there)
  shift_made s t Accepts edge low is there = absurd (member_none edge there)
  shift_made s t Fails edge low is there = absurd (member_none edge there)

  goto_made : (s r next : ℕ) (edge : ℕ × ℕ) → s < states_len table → Contains (gotos_at table s) (r, next) → Contains ((s, next) ∷ []) edge
      → IsStepOf precedences table edge
  goto_made s r next edge low listed there =
      elim (member_cases (s, next) [] edge there) [
        | inl same ↦
            let is = ((stored s low).gotos r next).0 listed in
            subst (IsStepOf precedences table) same (record { from = low; next = closed.gotos_within s r next is; step = Goes r is })
        | inr none ↦ absurd (member_none edge none)
      ]

  all_made : (edge : ℕ × ℕ) → Contains (steps_below table rows (states_len table)) edge → IsStepOf precedences table edge
  all_made edge there =
      let one = joined_member (steps_at table rows) (range_with_len 0 (states_len table)) edge there in
      let s = one.0 in
      let within = range_member 0 (states_len table) s one.1 in
      let low : s < states_len table = omega (arith, within.1) in
      elim (Contains-append_cases (shift_steps (row_at rows s) s (actions_at table s)) (goto_steps s (gotos_at table s)) edge one.2) [
        | inl shifts ↦
            let entry = joined_member (λ (x : ℕ × TableAction). shift_step (row_at rows s) s x.0 x.1) (actions_at table s) edge shifts in
            shift_made s entry.0.0 entry.0.1 edge low (((stored s low).actions entry.0.0 entry.0.1).0 entry.1).0 entry.2
        | inr gotos ↦
            let entry = joined_member (λ (x : ℕ × ℕ). (s, x.1) ∷ []) (gotos_at table s) edge gotos in
            goto_made s entry.0.0 entry.0.1 edge low entry.1 entry.2
      ]

  one_there : (s next : ℕ) → s < states_len table → IsStep precedences table s next → Contains (steps_at table rows s) (s, next)
  one_there s next low (Shifts t is left) =
      let no : has (row_at rows s) t ≡ false = taken.exact s t low (token_within s t next is) ∙ left in
      Contains-append_left (shift_steps (row_at rows s) s (actions_at table s)) (goto_steps s (gotos_at table s)) (s, next)
      (joined_has (λ (x : ℕ × TableAction). shift_step (row_at rows s) s x.0 x.1) (actions_at table s) (t, ShiftTo next) (s, next)
      (((stored s low).actions t (ShiftTo next)).1 (is, λ never. absurd (cc)))
      (subst (λ (b : Bool). Contains {X = ℕ × ℕ} (cond b [] ((s, next) ∷ [])) (s, next)) (sym no) (0, lit< tt, refl)))
  one_there s next low (Goes r is) =
      Contains-append_right (shift_steps (row_at rows s) s (actions_at table s)) (goto_steps s (gotos_at table s)) (s, next)
      (joined_has (λ (x : ℕ × ℕ). (s, x.1) ∷ []) (gotos_at table s) (r, next) (s, next) (((stored s low).gotos r next).1 is) (0, lit< tt, refl))

  pub are_steps : AreSteps precedences table (steps_below table rows (states_len table))
  are_steps = record {
    sound = all_made;
    all = λ s next low step.
        joined_has (steps_at table rows) (range_with_len 0 (states_len table)) s (s, next) (range_has 0 (states_len table) s (omega arith) (omega (arith, low)))
        (one_there s next low step);
  }

-- the steps of one state more
pub below_more : (table : Table) (rows : List (List Bool)) (n : ℕ) → steps_below table rows (n + 1) ≡ steps_below table rows n ++ steps_at table rows n
below_more table rows n =
    ap (flat_map (steps_at table rows)) (sym (range_more 0 n) ∙ ap (λ k. range_with_len 0 n ++ k ∷ []) (zero-add n))
    ∙ flat_map-append (steps_at table rows) (range_with_len 0 n) (n ∷ []) ∙ ap (λ ys. steps_below table rows n ++ ys) (append-nil (steps_at table rows n))

pub steps_more : (table : Table) (rows : List (List Bool)) (n k : ℕ) (bits : List Bool) (old new : List (ℕ × ℕ)) → k ≡ n → row_at rows n ≡ bits
    → old ≡ steps_below table rows n → new ≡ old ++ (shift_steps bits k (actions_at table k) ++ goto_steps k (gotos_at table k))
    → new ≡ steps_below table rows (n + 1)
steps_more table rows n k bits old new at row so_far put =
    put ∙ ap (λ j. old ++ (shift_steps bits j (actions_at table j) ++ goto_steps j (gotos_at table j))) at
    ∙ ap (λ b. old ++ (shift_steps b n (actions_at table n) ++ goto_steps n (gotos_at table n))) (sym row)
    ∙ ap (λ es. es ++ steps_at table rows n) so_far ∙ sym (below_more table rows n)
