-- What holds of the stack and the tokens before it, at each error point of a run with repairs. Let a claim be kept by each token that
-- is fed, and by the reductions before an error point. Then it is kept up to the first error point, by the replay of the first
-- sequence that is listed there, up to the next error point, and so on. The tokens before an error point are those of the lexemes as
-- repaired so far: a replay feeds the tokens of what its sequence consumes.
use Rattle.std.proofs.Common.{◌≡◌, ◌<◌, ◌≤◌, ◌+◌, ◌-◌, ◌∙◌, refl, sym, ap, subst, arith, ℕ, zero, suc, List, [], ◌∷◌, ◌++◌, Option, Some, drop, length, map, slice_get, take}
use Rattle.std.proofs.lemmas.List.{append_assoc, append-nil, map-append}
use Rattle.std.specs.List.{AllZip}
use Rattle.lrpar_grammar.specs.Grammar.{Grammar}
use Rattle.lrpar_grammar.specs.Sentence.{LexemeFacts}
use Rattle.lrpar_table_rows.specs.Table.{Table}
use Rattle.lrpar_table_stacks.specs.Reduction.{Feeds, Settles}
use Rattle.lrpar_table_stacks.specs.Run.{Accepted, Far, FarEnd, IsStuck, Stop, Stopped, accepts, goes_on, stops, token_at}
use Rattle.lrpar_table_check.proofs.SentenceLemmas.{stops_later}
use Rattle.lrpar_table_stacks.proofs.RunLemmas.{token_at_lexeme}
use Rattle.lrpar_table_sentences.proofs.AfterLemmas.{drop_at_get}
use Rattle.lrpar_parse_repair.specs.Recovery.{Point}
use Rattle.lrpar_parse_repair.specs.Repaired.{Consumes}
use Rattle.lrpar_parse_repair.specs.Sequences.{PlainDelete, PlainInsert, PlainShift, PlainStep, Replays}
use Rattle.lrpar_parse_run.specs.RepairRun.{RepairRun, RepairStop, ends_there, fed_between, is_repaired, runs_through}
use Rattle.lrpar_parse_prefixes.specs.ErrorStates.{AreFronts, last_left, more_left, none_left, place_after}

-- a place within a list has an element
pub some_at : {X : Type 0} (xs : List X) (i : ℕ) → i < length xs → (x : X) × (slice_get xs i ≡ Some x)
some_at [] i below = absurd (omega (arith, below))
some_at (x ∷ xs) zero below = (x, refl)
some_at (x ∷ xs) (suc i) below = some_at xs i (omega (arith, below))

-- no lexemes are fed from a place to itself
pub fed_none : {X : Type 0} (lexemes : List X) (i : ℕ) → fed_between lexemes i i ≡ []
fed_none {X} lexemes i = let none : i - i ≡ 0 = omega arith in ap (λ (n : ℕ). take n (drop i lexemes)) none

-- those that are fed from a place on begin with the one there
pub fed_first : {X : Type 0} (lexemes : List X) (i j : ℕ) (x : X) → i < j → slice_get lexemes i ≡ Some x
    → fed_between lexemes i j ≡ x ∷ fed_between lexemes (i + 1) j
fed_first {X} lexemes i j x below at =
    let many : j - i ≡ suc (j - (i + 1)) = omega (arith, below) in
    ap (λ (n : ℕ). take n (drop i lexemes)) many ∙ ap (λ (xs : List X). take (suc (j - (i + 1))) xs) (drop_at_get lexemes i x at)

-- the claim is kept up to an error point
module _ {X : Type 0} (token : X → ℕ) (g : Grammar) (table : Table) (lexemes : List X) (Claim : List ℕ → List ℕ → Type 0)
    (feeds_on : (t : ℕ) (st ps after front : List ℕ) → Claim st front → Feeds g table t st ps after → Claim after (front ++ t ∷ []))
    (stops_on : (i : ℕ) (st ps settled front : List ℕ) → i ≤ length lexemes → Claim st front
    → Settles g table (token_at token g lexemes i) st ps settled → IsStuck token g table lexemes settled i → Claim settled front) where
  pub far_claims : (st : List ℕ) (i : ℕ) (ps : List ℕ) (end : FarEnd) (stop : Stop) → Far token g table lexemes st i ps end
      → end ≡ Stopped stop → (front : List ℕ) → Claim st front → Claim stop.stack (front ++ map token (fed_between lexemes i stop.place))
  far_claims _ _ _ _ stop (goes_on st i ps qs next end within first rest) is front claim =
      let here = some_at lexemes i within in
      let x = here.0 in
      let is_token = token_at_lexeme token g lexemes i x here.1 in
      let fed = feeds_on (token x) st ps next front claim (subst (λ (t : ℕ). Feeds g table t st ps next) is_token first) in
      let on = far_claims next (i + 1) qs end stop rest is (front ++ token x ∷ []) fed in
      let later = stops_later token g table lexemes next (i + 1) qs end stop rest is in
      let all : (front ++ token x ∷ []) ++ map token (fed_between lexemes (i + 1) stop.place) ≡ front ++ map token (fed_between lexemes i stop.place) =
      append_assoc front (token x ∷ []) (map token (fed_between lexemes (i + 1) stop.place))
      ∙ ap (λ (ys : List X). front ++ map token ys) (sym (fed_first lexemes i stop.place x (omega (arith, later)) here.1)) in
      subst (Claim stop.stack) all on
  far_claims _ _ _ _ stop (accepts st i ps settled at_end settles accepted) is front claim =
      let no : Accepted ≡ Stopped stop = is in absurd (let none : ⊥ = cc in none)
  far_claims _ _ _ _ stop (stops st i ps settled fits settles stuck) is front claim =
      let held = stops_on i st ps settled front fits claim settles stuck in
      let same : record { stack = settled; place = i } ≡ stop = cc in
      let none : front ≡ front ++ map token (fed_between lexemes i i) =
      sym (ap (λ (ys : List X). front ++ map token ys) (fed_none lexemes i) ∙ append-nil front) in
      subst (λ (s : Stop). Claim s.stack (front ++ map token (fed_between lexemes i s.place))) same (subst (Claim settled) none held)

-- and from error point to error point
module _ {X : Type 0} (facts : X → LexemeFacts) (allows : Point X → List (List PlainStep) → Type 0) (k : ℕ) (g : Grammar) (table : Table) (lexemes : List X)
    (Claim : List ℕ → List ℕ → Type 0)
    (feeds_on : (t : ℕ) (st ps after front : List ℕ) → Claim st front → Feeds g table t st ps after → Claim after (front ++ t ∷ []))
    (stops_on : (i : ℕ) (st ps settled front : List ℕ) → i ≤ length lexemes → Claim st front
    → Settles g table (token_at (λ x. (facts x).token) g lexemes i) st ps settled
    → IsStuck (λ x. (facts x).token) g table lexemes settled i → Claim settled front) where
  -- by a replay, which leads to the place after what it deletes and shifts
  replay_claims : (steps : List PlainStep) (st : List ℕ) (i : ℕ) (made after : List ℕ) (j : ℕ) → Replays (λ x. (facts x).token) g table lexemes st i steps made after j
      → (recovered : List X) → Consumes facts lexemes i steps recovered → (front : List ℕ) → Claim st front
      → Claim after (front ++ map (λ x. (facts x).token) recovered) × (j ≡ place_after i steps)
  replay_claims [] st i made after j replays recovered consumes front claim =
      let none : front ≡ front ++ map (λ (y : X). (facts y).token) recovered =
      sym (ap (λ (ys : List X). front ++ map (λ (y : X). (facts y).token) ys) consumes ∙ append-nil front) in
      (subst (Claim after) none (subst (λ (l : List ℕ). Claim l front) (sym replays.1) claim), replays.2)
  replay_claims (PlainInsert t ∷ steps) st i made after j replays [] consumes front claim = absurd consumes
  replay_claims (PlainInsert t ∷ steps) st i made after j replays (x ∷ xs) consumes front claim =
      let step = replays.4 in
      let is_token : t ≡ (facts x).token = sym (ap (λ (f : LexemeFacts). f.token) consumes.0) in
      let fed = feeds_on (facts x).token st replays.0 replays.1 front claim (subst (λ (u : ℕ). Feeds g table u st replays.0 replays.1) is_token step.1) in
      let on = replay_claims steps replays.1 i replays.3 after j (subst (λ (n : ℕ). Replays (λ (y : X). (facts y).token) g table lexemes replays.1 n steps replays.3 after j) step.2 replays.5)
      xs consumes.1 (front ++ (facts x).token ∷ []) fed in
      (subst (Claim after) (append_assoc front ((facts x).token ∷ []) (map (λ (y : X). (facts y).token) xs)) on.0, on.1)
  replay_claims (PlainDelete ∷ steps) st i made after j replays recovered consumes front claim =
      let step = replays.4 in
      let left : Claim replays.1 front = subst (λ (l : List ℕ). Claim l front) (sym step.2) claim in
      replay_claims steps replays.1 (i + 1) replays.3 after j (subst (λ (n : ℕ). Replays (λ (y : X). (facts y).token) g table lexemes replays.1 n steps replays.3 after j) step.3 replays.5)
      recovered consumes front left
  replay_claims (PlainShift ∷ steps) st i made after j replays [] consumes front claim = absurd consumes
  replay_claims (PlainShift ∷ steps) st i made after j replays (x ∷ xs) consumes front claim =
      let step = replays.4 in
      let is_token = token_at_lexeme (λ (y : X). (facts y).token) g lexemes i x consumes.0 in
      let fed = feeds_on (facts x).token st replays.0 replays.1 front claim (subst (λ (u : ℕ). Feeds g table u st replays.0 replays.1) is_token step.1) in
      let on = replay_claims steps replays.1 (i + 1) replays.3 after j (subst (λ (n : ℕ). Replays (λ (y : X). (facts y).token) g table lexemes replays.1 n steps replays.3 after j) step.2 replays.5)
      xs consumes.1 (front ++ (facts x).token ∷ []) fed in
      (subst (Claim after) (append_assoc front ((facts x).token ∷ []) (map (λ (y : X). (facts y).token) xs)) on.0, on.1)

  -- at each error point
  pub run_claims : (st : List ℕ) (i : ℕ) (stops : List RepairStop) (consumed : Option (List X)) (prods : List ℕ)
      → RepairRun facts allows k g table lexemes st i stops consumed prods → (front : List X) → Claim st (map (λ x. (facts x).token) front)
      → (fronts : List (List X)) × AreFronts facts lexemes front i stops fronts
      × AllZip (λ (at : RepairStop) (before : List X). Claim at.stop.stack (map (λ x. (facts x).token) before)) stops fronts
  run_claims _ _ _ _ _ (runs_through st i prods far) front claim = ([], none_left front i, tt)
  run_claims _ _ _ _ _ (ends_there st i prods stop far none) front claim =
      let held = far_claims (λ (y : X). (facts y).token) g table lexemes Claim feeds_on stops_on st i prods (Stopped stop) stop far refl (map (λ (y : X). (facts y).token) front) claim in
      let whole = map-append (λ (y : X). (facts y).token) front (fed_between lexemes i stop.place) in
      ((front ++ fed_between lexemes i stop.place) ∷ [], last_left front i stop, (subst (Claim stop.stack) (sym whole) held, tt))
  run_claims _ _ _ _ _ (is_repaired st i prods stop first listed made after j recovered others consumed rest far is_listed replays consumes run) front claim =
      let before = front ++ fed_between lexemes i stop.place in
      let whole = map-append (λ (y : X). (facts y).token) front (fed_between lexemes i stop.place) in
      let held : Claim stop.stack (map (λ (y : X). (facts y).token) before) =
      subst (Claim stop.stack) (sym whole) (far_claims (λ (y : X). (facts y).token) g table lexemes Claim feeds_on stops_on st i prods (Stopped stop) stop far refl (map (λ (y : X). (facts y).token) front) claim) in
      let replayed = replay_claims first stop.stack stop.place made after j replays recovered consumes (map (λ (y : X). (facts y).token) before) held in
      let more = map-append (λ (y : X). (facts y).token) before recovered in
      let on = run_claims after j others consumed rest run (before ++ recovered) (subst (Claim after) (sym more) replayed.0) in
      let fronts : AreFronts facts lexemes (before ++ recovered) (place_after stop.place first) others on.0 =
      subst (λ (n : ℕ). AreFronts facts lexemes (before ++ recovered) n others on.0) replayed.1 on.1 in
      (before ∷ on.0, more_left front i stop first listed recovered others on.0 consumes fronts, (held, on.2))
