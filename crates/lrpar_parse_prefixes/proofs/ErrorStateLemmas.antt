-- The tokens at which the state of an error point has an action.
--
-- The stack of an error point spells the tokens before it, as repaired so far: each token that is fed and each reduction keeps that.
-- So its top has an action only at tokens that can come after these (ActionLemmas). This holds of tables with conflicts, too. And over
-- any viable table a sentence begins with the tokens that a stack spells (SpelledLemmas), so no error comes too late, after repairs, too.
--
-- Let the table be complete, and no lexeme have the end token. Then each token that can come after tokens that were fed may come next
-- at the stack, so its top has an action at it. The stack of an error point is such a stack: no reduction is made at the token there.
-- For if one were due, the top would have an action at that token, so the token could come next, and the run would go on. So at each
-- error point, also after repairs, the stack is the one to which a run without repairs feeds the tokens before it.
use Rattle.std.proofs.Common.{◌≡◌, ◌≢◌, ◌<◌, ◌≤◌, ◌+◌, ◌-◌, ◌∙◌, inl, inr, refl, sym, ap, subst, arith, ℕ, zero, suc, List, [], ◌∷◌, ◌++◌, Option, Some, length, length-append, map, slice_get, take}
use Rattle.std.proofs.lemmas.Bool.{cases_lt}
use Rattle.std.proofs.lemmas.List.{take_all}
use Rattle.std.specs.List.{AllZip}
use Rattle.std.specs.Option.{option_map_or}
use Rattle.lrpar_grammar.specs.Grammar.{Grammar, IsWellFormed, end_token}
use Rattle.lrpar_grammar.specs.Sentence.{LexemeFacts}
use Rattle.lrpar_grammar.specs.Tree.{Nil}
use Rattle.lrpar_table_rows.specs.Graph.{Graph}
use Rattle.lrpar_table_rows.specs.Safe.{IsSafe}
use Rattle.lrpar_table_rows.specs.Table.{Fails, IsClosed, ReduceBy, ShiftTo, Accepts, Table}
use Rattle.lrpar_table_build.specs.Built.{IsBuilt}
use Rattle.lrpar_table_conditions.specs.Complete.{IsComplete}
use Rattle.lrpar_table_check.specs.ExpectedRuns.{FeedsFront}
use Rattle.lrpar_table_check.proofs.ExpectedLemmas.{expected_acts_at}
use Rattle.lrpar_table_stacks.specs.Expected.{IsExpected}
use Rattle.lrpar_table_stacks.specs.Reduction.{Feeds, Settles, top_action}
use Rattle.lrpar_table_stacks.specs.Run.{Accepted, Comes, Far, FarEnd, IsStuck, Stop, Stopped, accepts, comes_on, goes_on, stays, stops, token_at}
use Rattle.lrpar_table_stacks.specs.RunLaws.{KeepOffEnd}
use Rattle.lrpar_table_stacks.proofs.PathLemmas.{last_of, top_is_last}
use Rattle.lrpar_table_stacks.proofs.Reductions.{settles_one_way}
use Rattle.lrpar_table_stacks.proofs.RunLemmas.{comes_more, token_at_end, token_at_lexeme}
use Rattle.lrpar_table_stacks.proofs.StepLemmas.{action_by_top}
use Rattle.lrpar_table_sentences.specs.Reachable.{EachReachableHasTree}
use Rattle.lrpar_parse_repair.specs.Recovery.{Point}
use Rattle.lrpar_parse_repair.specs.Sequences.{PlainStep}
use Rattle.lrpar_parse_run.specs.RepairRun.{RepairStop, fed_between}
use Rattle.lrpar_parse_prefixes.specs.ErrorStates.{ActsAsFollows, ActsOnlyAsFollows, BuiltActionsKeepToSentences, CompleteBuiltActionsFollowSentences, EachErrorComesInTime, ErrorStatesFollowSentences, ErrorStatesKeepToSentences}
use Rattle.lrpar_parse_prefixes.specs.Viable.{BeginSentence, CanFollow}
use Rattle.lrpar_parse_prefixes.proofs.ActionLemmas.{spelled_acts}
use Rattle.lrpar_parse_prefixes.proofs.RunStateLemmas.{far_claims, run_claims}
use Rattle.lrpar_parse_prefixes.proofs.SpelledLemmas.{Spells, never, run_spells, spelled_begin, spells_fed, spells_settled}
use Rattle.lrpar_parse_prefixes.proofs.ViableLemmas.{fed_by_tokens, follows_next, front_tokens}

-- the first tokens stay in their places, whatever follows them
get_longer : (front rest : List ℕ) (i : ℕ) → i < length front → slice_get (front ++ rest) i ≡ slice_get front i
get_longer [] rest i below = absurd (omega (arith, below))
get_longer (t ∷ front) rest zero below = refl
get_longer (t ∷ front) rest (suc i) below = get_longer front rest i (omega (arith, below))

-- and what follows them is after them
get_after : (front rest : List ℕ) (t i : ℕ) → length front ≡ i → slice_get (front ++ t ∷ rest) i ≡ Some t
get_after [] rest t i many = subst (λ (n : ℕ). slice_get (t ∷ rest) n ≡ Some t) many refl
get_after (u ∷ front) rest t zero many = absurd (omega (arith, many))
get_after (u ∷ front) rest t (suc i) many = get_after front rest t i (omega (arith, many))

module _ (g : Grammar) (table : Table) where
  -- a run without repairs feeds exactly these tokens, which gives the stack
  abbrev Fed : List ℕ → List ℕ → Type 0
  Fed st front = FeedsFront (λ (t : ℕ). t) g table front (length front) st

  fed_start : Fed (table.start ∷ []) []
  fed_start = ([], stays (table.start ∷ []) 0)

  -- tokens are fed whatever follows them
  comes_longer : (front rest st : List ℕ) (i : ℕ) (ps after : List ℕ) (j : ℕ) → Comes (λ (t : ℕ). t) g table front st i ps after j
      → Comes (λ (t : ℕ). t) g table (front ++ rest) st i ps after j
  comes_longer front rest _ _ _ _ _ (stays st i) = stays st i
  comes_longer front rest _ _ _ _ _ (comes_on st i ps qs next after j below first more) =
      let same : token_at (λ (t : ℕ). t) g front i ≡ token_at (λ (t : ℕ). t) g (front ++ rest) i =
      ap (λ (o : Option ℕ). option_map_or (λ (t : ℕ). t) o (end_token g)) (sym (get_longer front rest i below)) in
      comes_on st i ps qs next after j (omega (arith, below, length-append front rest)) (subst (λ (t : ℕ). Feeds g table t st ps next) same first)
      (comes_longer front rest next (i + 1) qs after j more)

  -- and one more
  fed_more : (t : ℕ) (st ps after front : List ℕ) → Fed st front → Feeds g table t st ps after → Fed after (front ++ t ∷ [])
  fed_more t st ps after front fed feeds =
      let all = front ++ t ∷ [] in
      let is : token_at (λ (u : ℕ). u) g all (length front) ≡ t =
      token_at_lexeme (λ (u : ℕ). u) g all (length front) t (get_after front [] t (length front) refl) in
      let many : length all ≡ length front + 1 = length-append front (t ∷ []) in
      let before = comes_longer front (t ∷ []) (table.start ∷ []) 0 fed.0 st (length front) fed.1 in
      let comes = comes_more (λ (u : ℕ). u) g table all (table.start ∷ []) 0 fed.0 st (length front) ps after before (omega (arith, many))
      (subst (λ (u : ℕ). Feeds g table u st ps after) (sym is) feeds) in
      (fed.0 ++ ps, subst (λ (n : ℕ). Comes (λ (u : ℕ). u) g table all (table.start ∷ []) 0 (fed.0 ++ ps) after n) (sym many) comes)

-- a stack that is stuck at a place isn't one at which the token there may come next
stuck_unexpected : {X : Type 0} (token : X → ℕ) (g : Grammar) (table : Table) (lexemes : List X) (i : ℕ) (st ps settled : List ℕ)
    → KeepOffEnd token g lexemes → i ≤ length lexemes → Settles g table (token_at token g lexemes i) st ps settled
    → IsStuck token g table lexemes settled i → IsExpected g table st (token_at token g lexemes i) → ⊥
stuck_unexpected token g table lexemes i st ps settled apart fits settles stuck (inl fed) =
    let t = token_at token g lexemes i in
    let feeds = fed.1.2 in
    let same = settles_one_way g table t st ps fed.1.0 settled feeds.settled settles feeds.settles in
    let shifts = subst (λ (l : List ℕ). top_action table t l ≡ ShiftTo feeds.next) (sym same.1) feeds.shifts in
    elim (cases_lt i (length lexemes)) as (λ _. ⊥) [
      | inl below ↦ stuck.shifts_not below feeds.next shifts
      | inr past ↦ fed.0 (token_at_end token g lexemes i past)
    ]
stuck_unexpected token g table lexemes i st ps settled apart fits settles stuck (inr ends) =
    let at = ends.1 in
    let here = subst (λ (t : ℕ). Settles g table t st ps settled) ends.0 settles in
    let same = settles_one_way g table (end_token g) st ps at.prods settled at.settled here at.settles in
    let accepts = subst (λ (l : List ℕ). top_action table (end_token g) l ≡ Accepts) (sym same.1) at.action in
    elim (cases_lt i (length lexemes)) as (λ _. ⊥) [
      | inl below ↦ apart i below ends.0
      | inr past ↦ stuck.accepts_not (omega (arith, fits, past)) accepts
    ]

-- the tokens before an error point are spelled by its stack; for this the table need only be safe
module _ (g : Grammar) (graph : Graph) (table : Table) (well : IsWellFormed g) (closed : IsClosed table) (safe : IsSafe g graph table) where
  abbrev Spelled : List ℕ → List ℕ → Type 0
  Spelled st front = Spells g table (never g graph table well closed safe) st front

  spelled_start : Spelled (table.start ∷ []) []
  spelled_start = record { symbols = []; path = (refl, tt); trees = Nil; fit = tt; leaves_are = refl }

  spelled_feeds : (t : ℕ) (st ps after front : List ℕ) → Spelled st front → Feeds g table t st ps after → Spelled after (front ++ t ∷ [])
  spelled_feeds t st ps after front = spells_fed g table (never g graph table well closed safe) t st ps after front

  spelled_stops : {X : Type 0} (token : X → ℕ) (lexemes : List X) (i : ℕ) (st ps settled front : List ℕ) → i ≤ length lexemes → Spelled st front
      → Settles g table (token_at token g lexemes i) st ps settled → IsStuck token g table lexemes settled i → Spelled settled front
  spelled_stops token lexemes i st ps settled front fits spelled settles stuck =
      spells_settled g table (never g graph table well closed safe) (token_at token g lexemes i) st ps settled front spelled settles

  -- the stack to which tokens are fed spells them
  fed_spelled : (st front : List ℕ) → Fed g table st front → Spelled st front
  fed_spelled st front fed =
      subst (Spelled st) (take_all (length front) front (omega arith))
      (run_spells g table (never g graph table well closed safe) front fed.0 st (length front) fed.1)

module _ (g : Grammar) (graph : Graph) (table : Table) (well : IsWellFormed g) (closed : IsClosed table) (built : IsBuilt g graph table)
    (each : EachReachableHasTree g) where
  module _ (complete : IsComplete g graph table) where
    -- its top has an action at exactly the tokens that can come next
    fed_acts : (st front : List ℕ) → Fed g table st front → ActsAsFollows g table st front
    fed_acts st front fed s t top = (
      λ acts. spelled_acts g graph table well closed built each st front (fed_spelled g graph table well closed built.safe st front fed) s t top acts,
      λ can.
          let whole = sym (take_all (length front) front (omega arith)) in
          expected_acts_at g table st s top t
          (follows_next g graph table well closed built.safe complete front st (length front) t fed (subst (λ (ts : List ℕ). CanFollow g ts t) whole can)),
    )

    -- no reduction is made at the token of an error point: after tokens that were fed, the stack there is settled
    fed_settles : {X : Type 0} (token : X → ℕ) (lexemes : List X) → KeepOffEnd token g lexemes → (i : ℕ) (st ps settled tokens : List ℕ) (j : ℕ)
        → i ≤ length lexemes → FeedsFront (λ (t : ℕ). t) g table tokens j st → Settles g table (token_at token g lexemes i) st ps settled
        → IsStuck token g table lexemes settled i → st ≡ settled
    fed_settles token lexemes apart i st [] settled tokens j fits fed settles stuck = settles.0
    fed_settles token lexemes apart i st (p ∷ ps) settled tokens j fits fed settles stuck =
        let t = token_at token g lexemes i in
        let spelled = run_spells g table (never g graph table well closed built.safe) tokens fed.0 st j fed.1 in
        let acts : top_action table t st ≢ Fails = λ fails. let no : ReduceBy p ≡ Fails = sym settles.1.action ∙ fails in cc in
        let can = top_follows st (take j tokens) spelled t acts in
        let expected = follows_next g graph table well closed built.safe complete tokens st j t fed can in
        absurd (stuck_unexpected token g table lexemes i st (p ∷ ps) settled apart fits settles stuck expected)
      where
        top_follows : (st front : List ℕ) → Spelled g graph table well closed built.safe st front → (t : ℕ) → top_action table t st ≢ Fails → CanFollow g front t
        top_follows [] front spelled t acts = absurd spelled.path
        top_follows (b ∷ st) front spelled t acts =
            let top = top_is_last b st in
            spelled_acts g graph table well closed built each (b ∷ st) front spelled (last_of b st) t top
            (λ fails. acts (action_by_top table t (b ∷ st) (last_of b st) top ∙ fails))

    fed_stops : {X : Type 0} (token : X → ℕ) (lexemes : List X) → KeepOffEnd token g lexemes → (i : ℕ) (st ps settled front : List ℕ) → i ≤ length lexemes
        → Fed g table st front → Settles g table (token_at token g lexemes i) st ps settled → IsStuck token g table lexemes settled i
        → Fed g table settled front
    fed_stops token lexemes apart i st ps settled front fits fed settles stuck =
        subst (λ (l : List ℕ). Fed g table l front)
        (fed_settles token lexemes apart i st ps settled front (length front) fits fed settles stuck) fed

    -- so a run without repairs feeds the lexemes before its error point to the stack of this point
    stops_unreduced : {X : Type 0} (token : X → ℕ) (lexemes : List X) → KeepOffEnd token g lexemes → (st : List ℕ) (i : ℕ) (ps : List ℕ) (end : FarEnd) (stop : Stop)
        → Far token g table lexemes st i ps end → end ≡ Stopped stop → FeedsFront token g table lexemes i st
        → FeedsFront token g table lexemes stop.place stop.stack
    stops_unreduced token lexemes apart _ _ _ _ stop (goes_on st i ps qs next end within first rest) is fed =
        stops_unreduced token lexemes apart next (i + 1) qs end stop rest is
        (fed.0 ++ ps, comes_more token g table lexemes (table.start ∷ []) 0 fed.0 st i ps next fed.1 within first)
    stops_unreduced token lexemes apart _ _ _ _ stop (accepts st i ps settled at_end settles accepted) is fed =
        let no : Accepted ≡ Stopped stop = is in absurd (let none : ⊥ = cc in none)
    stops_unreduced token lexemes apart _ _ _ _ stop (stops st i ps settled fits settles stuck) is fed =
        let tokens = fed_by_tokens token g table lexemes i st fed in
        let same = fed_settles token lexemes apart i st ps settled (map token lexemes) i fits tokens settles stuck in
        let here : record { stack = settled; place = i } ≡ stop = cc in
        subst (λ (s : Stop). FeedsFront token g table lexemes s.place s.stack) here
        (subst (λ (l : List ℕ). FeedsFront token g table lexemes i l) same fed)

-- the lexemes that are fed from the first one on
fed_front : {X : Type 0} (lexemes : List X) (j : ℕ) → fed_between lexemes 0 j ≡ take j lexemes
fed_front {X} lexemes j = let all : j - 0 ≡ j = omega arith in ap (λ (n : ℕ). take n lexemes) all

pub built_actions_keep_to_sentences : {X : Type 0} → BuiltActionsKeepToSentences X
built_actions_keep_to_sentences {X} token g graph table well closed built each = record {
  fed = λ lexemes i st fed.
      let tokens = fed_by_tokens token g table lexemes i st fed in
      subst (ActsOnlyAsFollows g table st) (front_tokens token g table lexemes i)
      (spelled_acts g graph table well closed built each st (take i (map token lexemes))
      (run_spells g table (never g graph table well closed built.safe) (map token lexemes) tokens.0 st i tokens.1));
  stop = λ lexemes prods stop runs.
      let spelled = far_claims token g table lexemes (Spelled g graph table well closed built.safe) (spelled_feeds g graph table well closed built.safe)
      (spelled_stops g graph table well closed built.safe token lexemes)
      (table.start ∷ []) 0 prods (Stopped stop) stop runs refl [] (spelled_start g graph table well closed built.safe) in
      subst (λ (xs : List X). ActsOnlyAsFollows g table stop.stack (map token xs)) (fed_front lexemes stop.place)
      (spelled_acts g graph table well closed built each stop.stack (map token (fed_between lexemes 0 stop.place)) spelled);
}

pub complete_built_actions_follow_sentences : {X : Type 0} → CompleteBuiltActionsFollowSentences X
complete_built_actions_follow_sentences {X} token g graph table well closed built each complete = record {
  fed = λ lexemes i st fed s t top. (
    (built_actions_keep_to_sentences token g graph table well closed built each).fed lexemes i st fed s t top,
    λ can.
        let tokens = fed_by_tokens token g table lexemes i st fed in
        let back = subst (λ (ts : List ℕ). CanFollow g ts t) (sym (front_tokens token g table lexemes i)) can in
        expected_acts_at g table st s top t (follows_next g graph table well closed built.safe complete (map token lexemes) st i t tokens back),
  );
  stop = λ lexemes prods stop apart runs.
      let fed = far_claims token g table lexemes (Fed g table) (fed_more g table)
      (fed_stops g graph table well closed built each complete token lexemes apart)
      (table.start ∷ []) 0 prods (Stopped stop) stop runs refl [] (fed_start g table) in
      subst (λ (xs : List X). ActsAsFollows g table stop.stack (map token xs)) (fed_front lexemes stop.place)
      (fed_acts g graph table well closed built each complete stop.stack (map token (fed_between lexemes 0 stop.place)) fed);
  unreduced = λ lexemes prods stop apart runs.
      stops_unreduced g graph table well closed built each complete token lexemes apart (table.start ∷ []) 0 prods (Stopped stop) stop runs refl
      ([], stays (table.start ∷ []) 0);
}

-- claims that hold at each error point give weaker ones
zip_weaker : {A B : Type 0} (R Q : A → B → Type 0) → ((x : A) (y : B) → R x y → Q x y) → (xs : List A) (ys : List B) → AllZip R xs ys → AllZip Q xs ys
zip_weaker R Q weaker [] [] all = tt
zip_weaker R Q weaker [] (y ∷ ys) all = absurd all
zip_weaker R Q weaker (x ∷ xs) [] all = absurd all
zip_weaker R Q weaker (x ∷ xs) (y ∷ ys) all = (weaker x y all.0, zip_weaker R Q weaker xs ys all.1)

module _ {X : Type 0} (facts : X → LexemeFacts) (allows : Point X → List (List PlainStep) → Type 0) where
  pub error_states_keep_to_sentences : ErrorStatesKeepToSentences facts allows
  error_states_keep_to_sentences k g graph table lexemes points consumed prods well closed built each runs =
      let Claim = Spelled g graph table well closed built.safe in
      let at = run_claims facts allows k g table lexemes Claim (spelled_feeds g graph table well closed built.safe)
      (spelled_stops g graph table well closed built.safe (λ (x : X). (facts x).token) lexemes)
      (table.start ∷ []) 0 points consumed prods runs [] (spelled_start g graph table well closed built.safe) in
      let R : RepairStop → List X → Type 0 = λ at front. Claim at.stop.stack (map (λ (x : X). (facts x).token) front) in
      let Q : RepairStop → List X → Type 0 = λ at front. ActsOnlyAsFollows g table at.stop.stack (map (λ (x : X). (facts x).token) front) in (
        at.0,
        at.1,
        zip_weaker R Q (λ stop front holds. spelled_acts g graph table well closed built each stop.stop.stack (map (λ (x : X). (facts x).token) front) holds)
            points at.0 at.2,
      )

  pub error_states_follow_sentences : ErrorStatesFollowSentences facts allows
  error_states_follow_sentences k g graph table lexemes points consumed prods well closed built each complete apart runs =
      let at = run_claims facts allows k g table lexemes (Fed g table) (fed_more g table)
      (fed_stops g graph table well closed built each complete (λ (x : X). (facts x).token) lexemes apart)
      (table.start ∷ []) 0 points consumed prods runs [] (fed_start g table) in
      let R : RepairStop → List X → Type 0 = λ at front. Fed g table at.stop.stack (map (λ (x : X). (facts x).token) front) in
      let Q : RepairStop → List X → Type 0 = λ at front. ActsAsFollows g table at.stop.stack (map (λ (x : X). (facts x).token) front) in (
        at.0,
        at.1,
        zip_weaker R Q (λ stop front holds. fed_acts g graph table well closed built each complete stop.stop.stack (map (λ (x : X). (facts x).token) front) holds)
            points at.0 at.2,
      )

  pub each_error_comes_in_time : EachErrorComesInTime facts allows
  each_error_comes_in_time k g graph table lexemes points consumed prods well closed safe viable each runs =
      let Claim = Spelled g graph table well closed safe in
      let at = run_claims facts allows k g table lexemes Claim (spelled_feeds g graph table well closed safe)
      (spelled_stops g graph table well closed safe (λ (x : X). (facts x).token) lexemes)
      (table.start ∷ []) 0 points consumed prods runs [] (spelled_start g graph table well closed safe) in
      let R : RepairStop → List X → Type 0 = λ at front. Claim at.stop.stack (map (λ (x : X). (facts x).token) front) in
      let Q : RepairStop → List X → Type 0 = λ at front. BeginSentence g (map (λ (x : X). (facts x).token) front) in (
        at.0,
        at.1,
        zip_weaker R Q
            (λ stop front holds. spelled_begin g graph table well closed safe viable each stop.stop.stack (map (λ (x : X). (facts x).token) front) holds)
            points at.0 at.2,
      )
