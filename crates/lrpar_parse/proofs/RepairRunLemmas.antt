-- Runs with repairs: which sequences are listed, where the error points are, and when the run accepts.
use Rattle.std.proofs.Common.{◌≡◌, ◌≢◌, ◌<◌, ◌≤◌, ◌+◌, ◌*◌, ◌/◌, ◌↔◌, inl, inr, ℕ, zero, suc, List, [], ◌∷◌, Option, Some, None, IsSome, option_map, length, map, refl, sym, subst, ap, arith, All}
use Rattle.std.proofs.Math.Nat.{le-div_iff_mul-le}
use Rattle.std.proofs.lemmas.List.Elements.{All-nil, All-cons, All-head, All-tail, All-weaker}
use Rattle.std.proofs.lemmas.List.Kept.{AllPairs-cons}
use Rattle.std.specs.List.{AllPairs}
use Rattle.lrpar_grammar.specs.Grammar.{Grammar}
use Rattle.lrpar_grammar.specs.Sentence.{LexemeFacts}
use Rattle.lrpar_table_rows.specs.Table.{Table}
use Rattle.lrpar_table_stacks.specs.Reduction.{IsSettled}
use Rattle.lrpar_parse_repair.specs.Recovery.{Point}
use Rattle.lrpar_parse.specs.RepairLaws.{InsertsListed, IsSound, ListsSound, StopsLieApart, AcceptsWhereRepaired, RunsWithoutRepairs}
use Rattle.lrpar_parse_run.specs.RepairRun.{IsListedAt, RepairRun, RepairStop, ends_there, is_repaired, runs_through}
use Rattle.lrpar_table_stacks.specs.Run.{Far, Stopped, IsStuck, Run, Stop, comes_through, gives_up, stops, token_at}
use Rattle.lrpar_parse_repair.specs.Sequences.{PlainStep, PlainInsert, PlainDelete, PlainShift, AreThoseWith, CanGoOn, Replays, StepsTo, Works}
use Rattle.lrpar_parse_repair.proofs.SequenceLemmas.{steps_within}
use Rattle.lrpar_parse_repair.proofs.ReplayLemmas.{far_stops, go_on_far, replays_one_way, replays_place, works_replays}

-- all of those with P have P
those_all : {A : Type 0} (P : A → Type 0) (xs ys : List A) → AreThoseWith P xs ys → All P ys
those_all P [] ys e = subst (λ l. All P l) (sym e) (All-nil P)
those_all {A} P (x ∷ xs) ys h =
    elim h as (λ _. All P ys) [
      | inl kept ↦ subst (λ (l : List A). All P l) (sym kept.1.2) (All-cons P x kept.1.0 kept.0 (those_all P xs kept.1.0 kept.1.1))
      | inr out ↦ those_all P xs ys out.1
    ]

-- there are none with P in an empty list
those_none : {A : Type 0} (P : A → Type 0) (xs ys : List A) → xs ≡ [] → AreThoseWith P xs ys → ys ≡ []
those_none {A} P xs ys none h = subst (λ (l : List A). AreThoseWith P l ys) none h

module _ {X : Type 0} (token : X → ℕ) (g : Grammar) (table : Table) (lexemes : List X) where
  replays_within : (st : List ℕ) (i : ℕ) (steps : List PlainStep) (ps after : List ℕ) (j : ℕ) → i ≤ length lexemes
      → Replays token g table lexemes st i steps ps after j → j ≤ length lexemes
  replays_within st i [] ps after j fits x = omega (arith, x.2)
  replays_within st i (step ∷ steps) ps after j fits x =
      replays_within x.1 x.2 steps x.3 after j (steps_within token g table lexemes st i step x.0 x.1 x.2 fits x.4) x.5

  -- steps that can be taken insert listed tokens
  step_inserts : (st : List ℕ) (i : ℕ) (step : PlainStep) (ps next : List ℕ) (j : ℕ) → StepsTo token g table lexemes st i step ps next j → InsertsListed g step
  step_inserts st i (PlainInsert t) ps next j x = x.0
  step_inserts st i PlainDelete ps next j x = tt
  step_inserts st i PlainShift ps next j x = tt

  replays_inserts : (st : List ℕ) (i : ℕ) (steps : List PlainStep) (ps after : List ℕ) (j : ℕ) → Replays token g table lexemes st i steps ps after j
      → All (InsertsListed g) steps
  replays_inserts st i [] ps after j x = All-nil (InsertsListed g)
  replays_inserts st i (step ∷ steps) ps after j x =
      All-cons (InsertsListed g) step steps (step_inserts st i step x.0 x.1 x.2 x.4) (replays_inserts x.1 x.2 steps x.3 after j x.5)

  -- so at its error point no lexeme can be fed
  stuck_stays : (k : ℕ) (st : List ℕ) (i : ℕ) → 0 < k → IsSettled table (token_at token g lexemes i) st → IsStuck token g table lexemes st i → i ≤ length lexemes
      → ¬ (CanGoOn token g table lexemes k st i)
  stuck_stays k st i some settled stuck fits on =
      let past = go_on_far token g table lexemes k st i [] (Stopped (record { stack = st; place = i })) on (stops st i [] st fits (refl, settled) stuck) in
      let far : i + k ≤ i = past.0 in
      omega (arith, far, some)

-- a list that is mapped, or isn't there
some_mapped : {A B : Type 0} (f : A → B) (o : Option A) → IsSome (option_map f o) → IsSome o
some_mapped f None some = some
some_mapped f (Some x) some = refl

mapped_some : {A B : Type 0} (f : A → B) (o : Option A) → IsSome o → IsSome (option_map f o)
mapped_some f None some = some
mapped_some f (Some x) some = refl

-- the number of error points, each k after the one before it
div_bound : (m n k : ℕ) → 0 < k → m * k ≤ n + k → m ≤ n / k + 1
div_bound zero n k some h = omega arith
div_bound (suc m) n k some h =
    let one_more : suc m ≡ m + 1 = omega arith in
    let all : (m + 1) * k ≤ n + k = subst (λ (x : ℕ). x * k ≤ n + k) one_more h in
    let most : m * k ≤ n = omega (arith, all) in
    omega (arith, (le-div_iff_mul-le some).1 most)

-- no error points, and one
pairs_none : {A : Type 0} (R : A → A → Type 0) → AllPairs R []
pairs_none R i j d before within = absurd (omega arith)

module _ {X : Type 0} (facts : X → LexemeFacts) (allows : Point X → List (List PlainStep) → Type 0) (k : ℕ) (g : Grammar) (table : Table) (lexemes : List X) where
  -- the token of a lexeme
  abbrev token_of : X → ℕ
  token_of x = (facts x).token

  -- the listed sequences work
  listed_work : (stop : Stop) (listed : List (List PlainStep)) → IsListedAt facts allows k g table lexemes stop listed
      → All (Works token_of g table lexemes k stop.stack stop.place) listed
  listed_work stop listed h = those_all (Works token_of g table lexemes k stop.stack stop.place) h.answer listed h.those

  -- so k lexemes can be fed after the first one; the place there is no earlier, and in the input
  after_first : (stop : Stop) (first : List PlainStep) (listed : List (List PlainStep)) (made after : List ℕ) (j : ℕ)
      → IsListedAt facts allows k g table lexemes stop (first ∷ listed) → Replays token_of g table lexemes stop.stack stop.place first made after j
      → stop.place ≤ length lexemes → CanGoOn token_of g table lexemes k after j × (stop.place ≤ j) × (j ≤ length lexemes)
  after_first stop first listed made after j h r fits =
      let works = All-head (Works token_of g table lexemes k stop.stack stop.place) first listed (listed_work stop (first ∷ listed) h) in
      let by = works_replays token_of g table lexemes k stop.stack stop.place first works in
      let same = replays_one_way token_of g table lexemes stop.stack stop.place first by.0 by.1 by.2 made after j by.3 r in
      let there = subst (λ (l : List ℕ). CanGoOn token_of g table lexemes k l by.2) same.1 by.4 in
      let place = replays_place token_of g table lexemes stop.stack stop.place first made after j r in (
        subst (λ (m : ℕ). CanGoOn token_of g table lexemes k after m) same.2 there,
        omega (arith, place),
        replays_within token_of g table lexemes stop.stack stop.place first made after j fits r,
      )

  -- the error points of a run are at its place or after it
  run_from : (st : List ℕ) (i : ℕ) (found : List RepairStop) (consumed : Option (List X)) (prods : List ℕ)
      → RepairRun facts allows k g table lexemes st i found consumed prods → All (λ s. i ≤ s.stop.place) found
  run_from _ _ _ _ _ (runs_through st i prods far) = All-nil (λ s. i ≤ s.stop.place)
  run_from _ _ _ _ _ (ends_there st i prods stop far listed) =
      let h = far_stops token_of g table lexemes st i prods (Stopped stop) far in
      All-cons (λ s. i ≤ s.stop.place) (record { stop = stop; listed = [] }) [] h.0 (All-nil (λ s. i ≤ s.stop.place))
  run_from _ _ _ _ _ (is_repaired st i prods stop first listed made after j recovered found consumed rest far at replays eaten run) =
      let h = far_stops token_of g table lexemes st i prods (Stopped stop) far in
      let next = after_first stop first listed made after j at replays h.1 in
      All-cons (λ s. i ≤ s.stop.place) (record { stop = stop; listed = first ∷ listed }) found h.0
      (All-weaker (λ s. j ≤ s.stop.place) (λ s. i ≤ s.stop.place) (λ s le. omega (arith, le, next.1, h.0)) found (run_from after j found consumed rest run))

  -- if k lexemes can be fed, they are k after it
  run_after : (st : List ℕ) (i : ℕ) (found : List RepairStop) (consumed : Option (List X)) (prods : List ℕ)
      → CanGoOn token_of g table lexemes k st i → RepairRun facts allows k g table lexemes st i found consumed prods → All (λ s. i + k ≤ s.stop.place) found
  run_after _ _ _ _ _ on (runs_through st i prods far) = All-nil (λ s. i + k ≤ s.stop.place)
  run_after _ _ _ _ _ on (ends_there st i prods stop far listed) =
      let h = go_on_far token_of g table lexemes k st i prods (Stopped stop) on far in
      All-cons (λ s. i + k ≤ s.stop.place) (record { stop = stop; listed = [] }) [] h.0 (All-nil (λ s. i + k ≤ s.stop.place))
  run_after _ _ _ _ _ on (is_repaired st i prods stop first listed made after j recovered found consumed rest far at replays eaten run) =
      let h = go_on_far token_of g table lexemes k st i prods (Stopped stop) on far in
      let next = after_first stop first listed made after j at replays h.1 in
      All-cons (λ s. i + k ≤ s.stop.place) (record { stop = stop; listed = first ∷ listed }) found h.0
      (All-weaker (λ s. j ≤ s.stop.place) (λ s. i + k ≤ s.stop.place) (λ s le. omega (arith, le, next.1, h.0)) found (run_from after j found consumed rest run))

  -- so each error point is k after those before it
  run_apart : (st : List ℕ) (i : ℕ) (found : List RepairStop) (consumed : Option (List X)) (prods : List ℕ)
      → RepairRun facts allows k g table lexemes st i found consumed prods → AllPairs (λ s t. s.stop.place + k ≤ t.stop.place) found
  run_apart _ _ _ _ _ (runs_through st i prods far) = pairs_none (λ s t. s.stop.place + k ≤ t.stop.place)
  run_apart _ _ _ _ _ (ends_there st i prods stop far listed) =
      AllPairs-cons (λ s t. s.stop.place + k ≤ t.stop.place) (record { stop = stop; listed = [] }) [] (All-nil (λ t. stop.place + k ≤ t.stop.place))
      (pairs_none (λ s t. s.stop.place + k ≤ t.stop.place))
  run_apart _ _ _ _ _ (is_repaired st i prods stop first listed made after j recovered found consumed rest far at replays eaten run) =
      let h = far_stops token_of g table lexemes st i prods (Stopped stop) far in
      let next = after_first stop first listed made after j at replays h.1 in
      AllPairs-cons (λ s t. s.stop.place + k ≤ t.stop.place) (record { stop = stop; listed = first ∷ listed }) found
      (All-weaker (λ t. j + k ≤ t.stop.place) (λ t. stop.place + k ≤ t.stop.place) (λ t le. omega (arith, le, next.1)) found
      (run_after after j found consumed rest next.0 run))
      (run_apart after j found consumed rest run)

  -- how many there can be, if k lexemes can be fed
  few_after : (st : List ℕ) (i : ℕ) (found : List RepairStop) (consumed : Option (List X)) (prods : List ℕ) → i ≤ length lexemes
      → CanGoOn token_of g table lexemes k st i → RepairRun facts allows k g table lexemes st i found consumed prods → length found * k + i ≤ length lexemes
  few_after _ _ _ _ _ fits on (runs_through st i prods far) = omega (arith, fits)
  few_after _ _ _ _ _ fits on (ends_there st i prods stop far listed) =
      let h = go_on_far token_of g table lexemes k st i prods (Stopped stop) on far in omega (arith, h.0, h.1)
  few_after _ _ _ _ _ fits on (is_repaired st i prods stop first listed made after j recovered found consumed rest far at replays eaten run) =
      let h = go_on_far token_of g table lexemes k st i prods (Stopped stop) on far in
      let next = after_first stop first listed made after j at replays h.1 in
      let less : length found * k + j ≤ length lexemes = few_after after j found consumed rest next.2 next.0 run in
      let more : (length found + 1) * k + i ≤ length lexemes = omega (arith, less, h.0, next.1) in
      let one_more : length (record { stop = stop; listed = first ∷ listed } ∷ found) ≡ length found + 1 = omega arith in
      subst (λ (m : ℕ). m * k + i ≤ length lexemes) (sym one_more) more

  -- and in any case
  few : (st : List ℕ) (i : ℕ) (found : List RepairStop) (consumed : Option (List X)) (prods : List ℕ) → i ≤ length lexemes
      → RepairRun facts allows k g table lexemes st i found consumed prods → length found * k + i ≤ length lexemes + k
  few _ _ _ _ _ fits (runs_through st i prods far) = omega (arith, fits)
  few _ _ _ _ _ fits (ends_there st i prods stop far listed) = omega (arith, fits)
  few _ _ _ _ _ fits (is_repaired st i prods stop first listed made after j recovered found consumed rest far at replays eaten run) =
      let h = far_stops token_of g table lexemes st i prods (Stopped stop) far in
      let next = after_first stop first listed made after j at replays h.1 in
      let less : length found * k + j ≤ length lexemes = few_after after j found consumed rest next.2 next.0 run in
      let more : (length found + 1) * k + i ≤ length lexemes + k = omega (arith, less, h.0, next.1) in
      let one_more : length (record { stop = stop; listed = first ∷ listed } ∷ found) ≡ length found + 1 = omega arith in
      subst (λ (m : ℕ). m * k + i ≤ length lexemes + k) (sym one_more) more

  -- a sequence that works at an error point is sound
  works_sound : (st : List ℕ) (i : ℕ) (steps : List PlainStep) → 0 < k → i ≤ length lexemes → IsSettled table (token_at token_of g lexemes i) st
      → IsStuck token_of g table lexemes st i → Works token_of g table lexemes k st i steps → IsSound g (length lexemes) i steps
  works_sound st i steps some fits settled stuck works =
      let by = works_replays token_of g table lexemes k st i steps works in
      let place = replays_place token_of g table lexemes st i steps by.0 by.1 by.2 by.3 in
      let within = replays_within token_of g table lexemes st i steps by.0 by.1 by.2 fits by.3 in
      record {
        some = λ none. stuck_stays token_of g table lexemes k st i some settled stuck fits (subst (λ (l : List PlainStep). Works token_of g table lexemes k st i l) none works);
        inserts = replays_inserts token_of g table lexemes st i steps by.0 by.1 by.2 by.3;
        places = omega (arith, place, within);
      }

  stop_sound : (st : List ℕ) (i : ℕ) (prods : List ℕ) (stop : Stop) (listed : List (List PlainStep)) → 0 < k
      → Far token_of g table lexemes st i prods (Stopped stop) → IsListedAt facts allows k g table lexemes stop listed
      → All (IsSound g (length lexemes) stop.place) listed
  stop_sound st i prods stop listed some far at =
      let h = far_stops token_of g table lexemes st i prods (Stopped stop) far in
      All-weaker (Works token_of g table lexemes k stop.stack stop.place) (IsSound g (length lexemes) stop.place)
      (λ steps works. works_sound stop.stack stop.place steps some h.1 h.2 h.3 works) listed (listed_work stop listed at)

  abbrev IsSoundStop : RepairStop → Type 0
  IsSoundStop s = All (IsSound g (length lexemes) s.stop.place) s.listed

  run_sound : (st : List ℕ) (i : ℕ) (found : List RepairStop) (consumed : Option (List X)) (prods : List ℕ) → 0 < k
      → RepairRun facts allows k g table lexemes st i found consumed prods → All IsSoundStop found
  run_sound _ _ _ _ _ some (runs_through st i prods far) = All-nil IsSoundStop
  run_sound _ _ _ _ _ some (ends_there st i prods stop far at) =
      All-cons IsSoundStop (record { stop = stop; listed = [] }) [] (stop_sound st i prods stop [] some far at) (All-nil IsSoundStop)
  run_sound _ _ _ _ _ some (is_repaired st i prods stop first listed made after j recovered found consumed rest far at replays eaten run) =
      All-cons IsSoundStop (record { stop = stop; listed = first ∷ listed }) found (stop_sound st i prods stop (first ∷ listed) some far at)
      (run_sound after j found consumed rest some run)

  abbrev IsRepaired : RepairStop → Type 0
  IsRepaired s = s.listed ≢ []

  -- if no sequence is listed at an error point, nothing is consumed
  run_accepts : (st : List ℕ) (i : ℕ) (found : List RepairStop) (consumed : Option (List X)) (prods : List ℕ)
      → RepairRun facts allows k g table lexemes st i found consumed prods → IsSome consumed ↔ All IsRepaired found
  run_accepts _ _ _ _ _ (runs_through st i prods far) = ((λ _. All-nil IsRepaired), (λ _. refl))
  run_accepts _ _ _ _ _ (ends_there st i prods stop far at) =
      ((λ some. absurd (cc)), (λ all. absurd (All-head IsRepaired (record { stop = stop; listed = [] }) [] all refl)))
  run_accepts _ _ _ _ _ (is_repaired st i prods stop first listed made after j recovered found consumed rest far at replays eaten run) =
      let more = run_accepts after j found consumed rest run in
      let here : RepairStop = record { stop = stop; listed = first ∷ listed } in (
        (λ some. All-cons IsRepaired here found (λ e. cc) (more.0 (some_mapped _ consumed some))),
        (λ all. mapped_some _ consumed (more.1 (All-tail IsRepaired here found all))),
      )

module _ {X : Type 0} (facts : X → LexemeFacts) (allows : Point X → List (List PlainStep) → Type 0) where
  pub lists_sound : ListsSound facts allows
  lists_sound k g table lexemes st found consumed prods some run = run_sound facts allows k g table lexemes st 0 found consumed prods some run

  pub stops_lie_apart : StopsLieApart facts allows
  stops_lie_apart k g table lexemes st found consumed prods some run =
      let all = few facts allows k g table lexemes st 0 found consumed prods (omega arith) run in (
        run_apart facts allows k g table lexemes st 0 found consumed prods run,
        div_bound (length found) (length lexemes) k some (omega (arith, all)),
      )

  pub accepts_where_repaired : AcceptsWhereRepaired facts allows
  accepts_where_repaired k g table lexemes st found consumed prods run = run_accepts facts allows k g table lexemes st 0 found consumed prods run

module _ {X : Type 0} (facts : X → LexemeFacts) (k : ℕ) (g : Grammar) (table : Table) (lexemes : List X) where
  -- an error point at which nothing is listed
  abbrev bare : Stop → RepairStop
  bare s = record { stop = s; listed = [] }

  bare_stops : (found : List Stop) → map (λ (r : RepairStop). r.stop) (map bare found) ≡ found
  bare_stops [] = refl
  bare_stops (s ∷ found) = ap (λ (l : List Stop). s ∷ l) (bare_stops found)

  -- if nothing is supplied, the run has no repairs
  runs_bare : (st : List ℕ) (i : ℕ) (rs : List RepairStop) (consumed : Option (List X)) (prods : List ℕ)
      → RepairRun facts (λ _ answer. answer ≡ []) k g table lexemes st i rs consumed prods
      → Run (λ x. (facts x).token) g table lexemes st i (map (λ (r : RepairStop). r.stop) rs) consumed prods
  runs_bare _ _ _ _ _ (runs_through st i prods far) = comes_through st i prods far
  runs_bare _ _ _ _ _ (ends_there st i prods stop far at) = gives_up st i prods stop far
  runs_bare _ _ _ _ _ (is_repaired st i prods stop first listed made after j recovered found consumed rest far at replays eaten run) =
      let none = those_none (Works (λ x. (facts x).token) g table lexemes k stop.stack stop.place) at.answer (first ∷ listed) at.allowed at.those in absurd (cc)

  runs_so : (st : List ℕ) (i : ℕ) (found : List Stop) (consumed : Option (List X)) (prods : List ℕ)
      → Run (λ x. (facts x).token) g table lexemes st i found consumed prods
      → RepairRun facts (λ _ answer. answer ≡ []) k g table lexemes st i (map bare found) consumed prods
  runs_so _ _ _ _ _ (comes_through st i prods far) = runs_through st i prods far
  runs_so _ _ _ _ _ (gives_up st i prods stop far) = ends_there st i prods stop far (record { answer = []; allowed = refl; those = refl })

pub runs_without_repairs : {X : Type 0} → RunsWithoutRepairs X
runs_without_repairs {X} facts k g table lexemes st i found consumed prods = (
  (λ run.
      subst (λ (l : List Stop). Run (λ x. (facts x).token) g table lexemes st i l consumed prods) (bare_stops facts k g table lexemes found)
      (runs_bare facts k g table lexemes st i (map (bare facts k g table lexemes) found) consumed prods run)),
  runs_so facts k g table lexemes st i found consumed prods,
)
