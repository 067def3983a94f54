-- The trees of runs with repairs. A replay feeds tokens as a run does, so it keeps what is known of the trees along the stack. At an error
-- point what follows from the lookahead of its reductions is lost, since another token may come next. So either nothing that follows from
-- a lookahead is asked, or no reduction is made at an error point: then the last tree is a leaf there, or there is none.
use Rattle.std.proofs.Common.{◌≡◌, ◌≢◌, ◌<◌, ◌≤◌, ◌+◌, ◌-◌, ◌∙◌, ◌⊎◌, inl, inr, refl, sym, ap, subst, arith, ℕ, suc, List, [], ◌∷◌, ◌++◌, drop, length, take, Some, None, Option}
use Rattle.std.proofs.lemmas.List.{append-nil, append_assoc}
use Rattle.std.specs.Option.{option_map, option_map_or}
use Rattle.lrpar_grammar.specs.Grammar.{Grammar, end_token}
use Rattle.lrpar_grammar.specs.Sentence.{LexemeFacts}
use Rattle.lrpar_table_rows.specs.Table.{Table, ReduceBy, ShiftTo, action_of}
use Rattle.lrpar_table_build.specs.KeptApart.{BeginsWithItsRule, EndsInItsRule}
use Rattle.lrpar_table_check.proofs.SentenceLemmas.{stops_later}
use Rattle.lrpar_table_stacks.specs.Path.{IsPath, NeverSticks}
use Rattle.lrpar_table_stacks.specs.Reduction.{Feeds, Settles}
use Rattle.lrpar_table_stacks.specs.Run.{Far, FarEnd, Accepted, IsStuck, Stopped, Stop, goes_on, accepts, stops, token_at}
use Rattle.lrpar_table_stacks.proofs.RunLemmas.{HasPath}
use Rattle.lrpar_parse_repair.specs.Recovery.{Point}
use Rattle.lrpar_parse_repair.specs.Repaired.{Consumes}
use Rattle.lrpar_parse_repair.specs.Sequences.{PlainStep, PlainInsert, PlainDelete, PlainShift, Replays}
use Rattle.lrpar_parse_run.specs.RepairRun.{RepairRun, RepairStop, fed_between, runs_through, ends_there, is_repaired}
use Rattle.lrpar_parse_precedences.proofs.GrownLemmas.{HasGoodTree, HasTrees, accepted_is_good, next_at, no_trees, trees_before, trees_fed, trees_settled}

-- the lexemes that are fed from a place on are the one there, and then those from the next place on
fed_first : {X : Type 0} (lexemes : List X) (i j : ℕ) (x : X) → i < j → drop i lexemes ≡ x ∷ drop (i + 1) lexemes
    → fed_between lexemes i j ≡ x ∷ fed_between lexemes (i + 1) j
fed_first lexemes i j x before here =
    let more : j - i ≡ suc (j - (i + 1)) = omega (arith, before) in
    ap (λ (k : ℕ). take k (drop i lexemes)) more ∙ ap (take (suc (j - (i + 1)))) here

fed_none : {X : Type 0} (lexemes : List X) (i : ℕ) → fed_between lexemes i i ≡ []
fed_none lexemes i = let none : i - i ≡ 0 = omega arith in ap (λ (k : ℕ). take k (drop i lexemes)) none

module _ {X : Type 0} (facts : X → LexemeFacts) (g : Grammar) (table : Table) (never : NeverSticks g table) (p q r b : ℕ) (ends : EndsInItsRule g p r)
    (begins : BeginsWithItsRule g q r b) (LastSays FirstSays : Type 0)
    (no_shift : LastSays → (s t next : ℕ) → action_of table s t ≡ ReduceBy p → action_of table s b ≢ ShiftTo next)
    (no_reduction : FirstSays → (s : ℕ) → action_of table s b ≢ ReduceBy p) where
  abbrev pub token : X → ℕ
  token x = (facts x).token

  -- what is known of the trees along a stack
  abbrev pub AreKnown : List ℕ → List X → List ℕ → Type 0
  AreKnown st xs ps = (t : ℕ) → HasTrees token g table never p q r b ends begins LastSays FirstSays no_shift no_reduction st xs ps t

  abbrev pub Good : List X → List ℕ → Type 0
  Good = HasGoodTree token g table never p q r b ends begins LastSays FirstSays no_shift no_reduction

  -- a fed lexeme keeps it
  known_fed : (t : ℕ) (x : X) (st ps after : List ℕ) (xs : List X) (done : List ℕ) → t ≡ token x → AreKnown st xs done → Feeds g table t st ps after
      → AreKnown after (xs ++ x ∷ []) (done ++ ps)
  known_fed t x st ps after xs done is known feeds u =
      trees_fed token g table never p q r b ends begins LastSays FirstSays no_shift no_reduction t x st ps after xs done is (known t) feeds u

  -- nothing that follows from a lookahead is asked, or no reduction is made at an error point
  abbrev pub IsKept : List X → Type 0
  IsKept lexemes = (¬ FirstSays) ⊎ ((st : List ℕ) (i : ℕ) (ps settled : List ℕ) → HasPath table st → i ≤ length lexemes
      → Settles g table (token_at token g lexemes i) st ps settled → IsStuck token g table lexemes settled i → ps ≡ [])

  -- then the reductions at an error point keep it
  known_stuck : (lexemes : List X) → IsKept lexemes → (st : List ℕ) (i : ℕ) (ps settled : List ℕ) → i ≤ length lexemes
      → Settles g table (token_at token g lexemes i) st ps settled → IsStuck token g table lexemes settled i
      → (xs : List X) (done : List ℕ) → AreKnown st xs done → AreKnown settled xs (done ++ ps)
  known_stuck lexemes (inl silent) st i ps settled fits settles stuck xs done known = λ u.
      let t = token_at token g lexemes i in
      trees_before token g table never p q r b ends begins LastSays FirstSays no_shift no_reduction silent settled xs (done ++ ps) t u
      (trees_settled token g table never p q r b ends begins LastSays FirstSays no_shift no_reduction t st ps settled xs done (known t) settles)
  known_stuck lexemes (inr early) st i ps settled fits settles stuck xs done known =
      let t = token_at token g lexemes i in
      let has = known t in
      let path : HasPath table st = (has.symbols, subst (IsPath table has.symbols) (sym has.stack) (refl, has.leads)) in
      let none : ps ≡ [] = early st i ps settled path fits settles stuck in
      let still : Settles g table t st [] settled = subst (λ (ns : List ℕ). Settles g table t st ns settled) none settles in
      let same : done ≡ done ++ ps = sym (ap (λ (ns : List ℕ). done ++ ns) none ∙ append-nil done) in
      subst (λ (l : List ℕ). AreKnown l xs (done ++ ps)) still.0 (subst (AreKnown st xs) same known)

  -- so does the run to an error point
  known_far : (lexemes : List X) → IsKept lexemes → (st : List ℕ) (i : ℕ) (ps : List ℕ) (end : FarEnd) (stop : Stop) → Far token g table lexemes st i ps end → end ≡ Stopped stop
      → (xs : List X) (done : List ℕ) → AreKnown st xs done → AreKnown stop.stack (xs ++ fed_between lexemes i stop.place) (done ++ ps)
  known_far lexemes kept _ _ _ _ stop (goes_on st i ps qs next end within feeds rest) is xs done known =
      let more = next_at lexemes i within in
      let token_is : token_at token g lexemes i ≡ token more.0 = ap (λ (o : Option X). option_map_or token o (end_token g)) more.1 in
      let later = stops_later token g table lexemes next (i + 1) qs end stop rest is in
      let fed = known_fed (token_at token g lexemes i) more.0 st ps next xs done token_is known feeds in
      let after = known_far lexemes kept next (i + 1) qs end stop rest is (xs ++ more.0 ∷ []) (done ++ ps) fed in
      let leaves_are : (xs ++ more.0 ∷ []) ++ fed_between lexemes (i + 1) stop.place ≡ xs ++ fed_between lexemes i stop.place =
      append_assoc xs (more.0 ∷ []) (fed_between lexemes (i + 1) stop.place)
      ∙ ap (λ (ys : List X). xs ++ ys) (sym (fed_first lexemes i stop.place more.0 (omega (arith, later)) more.2)) in
      subst (λ (ys : List X). AreKnown stop.stack ys (done ++ (ps ++ qs))) leaves_are
      (subst (AreKnown stop.stack ((xs ++ more.0 ∷ []) ++ fed_between lexemes (i + 1) stop.place)) (append_assoc done ps qs) after)
  known_far lexemes kept _ _ _ _ stop (accepts st i ps settled at_end settles accepted) is xs done known =
      let no : Accepted ≡ Stopped stop = is in absurd (let none : ⊥ = cc in none)
  known_far lexemes kept _ _ _ _ stop (stops st i ps settled fits settles stuck) is xs done known =
      let same : record { stack = settled; place = i } ≡ stop = cc in
      let here : xs ≡ xs ++ fed_between lexemes i i = sym (append-nil xs) ∙ ap (λ (ys : List X). xs ++ ys) (sym (fed_none lexemes i)) in
      let before = known_stuck lexemes kept st i ps settled fits settles stuck xs done known in
      subst (λ (s : Stop). AreKnown s.stack (xs ++ fed_between lexemes i s.place) (done ++ ps)) same
      (subst (λ (ys : List X). AreKnown settled ys (done ++ ps)) here before)

  -- and the replay of a sequence
  known_replayed : (lexemes : List X) (st : List ℕ) (i : ℕ) (steps : List PlainStep) (made after : List ℕ) (j : ℕ) (recovered : List X)
      → Replays token g table lexemes st i steps made after j → Consumes facts lexemes i steps recovered
      → (xs : List X) (done : List ℕ) → AreKnown st xs done → AreKnown after (xs ++ recovered) (done ++ made)
  known_replayed lexemes st i [] made after j recovered replays consumes xs done known =
      subst (λ (s : List ℕ). AreKnown s (xs ++ recovered) (done ++ made)) (sym replays.1)
      (subst (λ (ys : List X). AreKnown st ys (done ++ made)) (sym (append-nil xs) ∙ ap (λ (ys : List X). xs ++ ys) (sym consumes))
      (subst (AreKnown st xs) (sym (append-nil done) ∙ ap (λ (ns : List ℕ). done ++ ns) (sym replays.0)) known))
  known_replayed lexemes st i (PlainInsert t ∷ steps) made after j [] replays consumes xs done known = absurd consumes
  known_replayed lexemes st i (PlainInsert t ∷ steps) made after j (x ∷ recovered) replays consumes xs done known =
      let first = replays.0 in
      let next = replays.1 in
      let rest = replays.3 in
      let step = replays.4 in
      let token_is : t ≡ token x = sym (ap (λ (y : LexemeFacts). y.token) consumes.0) in
      let fed = known_fed t x st first next xs done token_is known step.1 in
      let place : replays.2 ≡ i = step.2 in
      let later = known_replayed lexemes next i steps rest after j recovered
      (subst (λ (k : ℕ). Replays token g table lexemes next k steps rest after j) place replays.5) consumes.1 (xs ++ x ∷ []) (done ++ first) fed in
      subst (λ (ns : List ℕ). AreKnown after (xs ++ x ∷ recovered) (done ++ ns)) (sym replays.6)
      (subst (AreKnown after (xs ++ x ∷ recovered)) (append_assoc done first rest)
      (subst (λ (ys : List X). AreKnown after ys ((done ++ first) ++ rest)) (append_assoc xs (x ∷ []) recovered) later))
  known_replayed lexemes st i (PlainDelete ∷ steps) made after j recovered replays consumes xs done known =
      let first = replays.0 in
      let next = replays.1 in
      let rest = replays.3 in
      let step = replays.4 in
      let place : replays.2 ≡ i + 1 = step.3 in
      let here : AreKnown next xs done = subst (λ (s : List ℕ). AreKnown s xs done) (sym step.2) known in
      let later = known_replayed lexemes next (i + 1) steps rest after j recovered
      (subst (λ (k : ℕ). Replays token g table lexemes next k steps rest after j) place replays.5) consumes xs done here in
      let same : rest ≡ made = sym (replays.6 ∙ ap (λ (ns : List ℕ). ns ++ rest) step.1) in
      subst (λ (ns : List ℕ). AreKnown after (xs ++ recovered) (done ++ ns)) same later
  known_replayed lexemes st i (PlainShift ∷ steps) made after j [] replays consumes xs done known = absurd consumes
  known_replayed lexemes st i (PlainShift ∷ steps) made after j (x ∷ recovered) replays consumes xs done known =
      let first = replays.0 in
      let next = replays.1 in
      let rest = replays.3 in
      let step = replays.4 in
      let token_is : token_at token g lexemes i ≡ token x = ap (λ (o : Option X). option_map_or token o (end_token g)) consumes.0 in
      let fed = known_fed (token_at token g lexemes i) x st first next xs done token_is known step.1 in
      let place : replays.2 ≡ i + 1 = step.2 in
      let later = known_replayed lexemes next (i + 1) steps rest after j recovered
      (subst (λ (k : ℕ). Replays token g table lexemes next k steps rest after j) place replays.5) consumes.1 (xs ++ x ∷ []) (done ++ first) fed in
      subst (λ (ns : List ℕ). AreKnown after (xs ++ x ∷ recovered) (done ++ ns)) (sym replays.6)
      (subst (AreKnown after (xs ++ x ∷ recovered)) (append_assoc done first rest)
      (subst (λ (ys : List X). AreKnown after ys ((done ++ first) ++ rest)) (append_assoc xs (x ∷ []) recovered) later))

  -- what is consumed, if anything is
  consumed_is : (front : List X) (consumed : Option (List X)) (all : List X) → option_map (λ ys. front ++ ys) consumed ≡ Some all
      → (ys : List X) × (consumed ≡ Some ys) × (front ++ ys ≡ all)
  consumed_is front None all is = absurd (cc)
  consumed_is front (Some ys) all is = let same : front ++ ys ≡ all = cc in (ys, refl, same)

  -- so a run with repairs that accepts makes a tree whose nodes respect the precedences
  run_with_repairs : (allows : Point X → List (List PlainStep) → Type 0) (k : ℕ) (lexemes : List X) → IsKept lexemes → (st : List ℕ) (i : ℕ) (found : List RepairStop)
      (consumed : Option (List X)) (prods : List ℕ) → RepairRun facts allows k g table lexemes st i found consumed prods → (all : List X) → consumed ≡ Some all
      → (xs : List X) (done : List ℕ) → AreKnown st xs done → Good (xs ++ all) (done ++ prods)
  run_with_repairs allows k lexemes kept _ _ _ _ _ (runs_through st i prods far) all is xs done known =
      let same : drop i lexemes ≡ all = cc in
      subst (λ (ys : List X). Good (xs ++ ys) (done ++ prods)) same
      (accepted_is_good token g table never p q r b ends begins LastSays FirstSays no_shift no_reduction lexemes st i prods Accepted far refl xs done known)
  run_with_repairs allows k lexemes kept _ _ _ _ _ (ends_there st i prods stop far listed) all is xs done known = absurd (cc)
  run_with_repairs allows k lexemes kept _ _ _ _ _ (is_repaired st i prods stop first listed made after j recovered found consumed rest far at replays consumes later) all is xs done known =
      let fed = fed_between lexemes i stop.place in
      let here = known_far lexemes kept st i prods (Stopped stop) stop far refl xs done known in
      let there = known_replayed lexemes stop.stack stop.place first made after j recovered replays consumes (xs ++ fed) (done ++ prods) here in
      let parts = consumed_is (fed ++ recovered) consumed all is in
      let good = run_with_repairs allows k lexemes kept after j found consumed rest later parts.0 parts.1 ((xs ++ fed) ++ recovered) ((done ++ prods) ++ made) there in
      let leaves_are : ((xs ++ fed) ++ recovered) ++ parts.0 ≡ xs ++ all =
      ap (λ (ys : List X). ys ++ parts.0) (append_assoc xs fed recovered) ∙ append_assoc xs (fed ++ recovered) parts.0 ∙ ap (λ (ys : List X). xs ++ ys) parts.2 in
      let productions_are : ((done ++ prods) ++ made) ++ rest ≡ done ++ ((prods ++ made) ++ rest) =
      ap (λ (ns : List ℕ). ns ++ rest) (append_assoc done prods made) ∙ append_assoc done (prods ++ made) rest in
      subst (λ (ys : List X). Good ys (done ++ ((prods ++ made) ++ rest))) leaves_are
      (subst (Good (((xs ++ fed) ++ recovered) ++ parts.0)) productions_are good)

  pub repaired_is_good : (allows : Point X → List (List PlainStep) → Type 0) (k : ℕ) (lexemes : List X) → IsKept lexemes
      → (found : List RepairStop) (all : List X) (prods : List ℕ)
      → RepairRun facts allows k g table lexemes (table.start ∷ []) 0 found (Some all) prods → Good all prods
  repaired_is_good allows k lexemes kept found all prods run =
      run_with_repairs allows k lexemes kept (table.start ∷ []) 0 found (Some all) prods run all refl [] []
      (no_trees token g table never p q r b ends begins LastSays FirstSays no_shift no_reduction)
