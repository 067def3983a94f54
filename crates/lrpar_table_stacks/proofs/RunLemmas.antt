-- The steps of a run: reductions one by one, lexemes one by one, and where it ends.
use Rattle.std.proofs.Common.{◌≡◌, ◌≢◌, ◌<◌, ◌≤◌, ◌+◌, ◌⊎◌, inl, inr, ℕ, List, [], ◌∷◌, ◌++◌, length, slice_get, Some, refl, sym, subst, ap, ◌∙◌, arith}
use Rattle.std.proofs.lemmas.List.{append_assoc, append-nil}
use Rattle.std.proofs.lemmas.Option.{slice_get_past, slice_get_within}
use Rattle.std.specs.Option.{option_map_or}
use Rattle.lrpar_grammar.specs.Grammar.{Grammar, GrammarSymbol, Nonterminal, Terminal, end_token, rule_of}
use Rattle.lrpar_table_rows.specs.Table.{Table, TableAction, ShiftTo, ReduceBy, Accepts, Fails}
use Rattle.lrpar_table_stacks.specs.Reduction.{Feeds, ReducesBy, Settles, IsSettled, top_action}
use Rattle.lrpar_table_stacks.specs.Path.{IsPath, NeverSticks}
use Rattle.std.proofs.lemmas.Bool.{cases_lt}
use Rattle.lrpar_table_stacks.proofs.Reductions.{settles_one_way, reduces_to_one}
use Rattle.lrpar_table_stacks.specs.RunLaws.{Takes, RunsEndOneWay, RunsGoOnOrEnd, KeepOffEnd, EndsByFailing, RunsStopByFailing}
use Rattle.lrpar_table_stacks.specs.Run.{Comes, Far, FarEnd, Accepted, Stopped, Stop, IsStuck, RunsOneWay, stays, comes_on, comes_through, gives_up, goes_on, accepts, stops, token_at}

-- reductions after which none is due are all reductions
pub settles_from : (g : Grammar) (table : Table) (t : ℕ) (st ps after : List ℕ)
    → ReducesBy g table t st ps after → IsSettled table t after → Settles g table t st ps after
settles_from g table t st [] after e settled = (e, subst (IsSettled table t) (sym e) settled)
settles_from g table t st (p ∷ ps) after by settled = (by.0, by.1, settles_from g table t by.0 ps after by.2 settled)

-- `Settles` makes reductions
pub settles_reduces : (g : Grammar) (table : Table) (t : ℕ) (st ps after : List ℕ)
    → Settles g table t st ps after → ReducesBy g table t st ps after
settles_reduces g table t st [] after settles = settles.0
settles_reduces g table t st (p ∷ ps) after settles = (settles.0, settles.1, settles_reduces g table t settles.0 ps after settles.2)

-- after all reductions none is due
pub settles_settled : (g : Grammar) (table : Table) (t : ℕ) (st ps after : List ℕ)
    → Settles g table t st ps after → IsSettled table t after
settles_settled g table t st [] after settles = subst (IsSettled table t) settles.0 settles.1
settles_settled g table t st (p ∷ ps) after settles = settles_settled g table t settles.0 ps after settles.2

-- past the last lexeme the token is the end token
pub token_at_end : {X : Type 0} (token : X → ℕ) (g : Grammar) (lexemes : List X) (i : ℕ) → length lexemes ≤ i → token_at token g lexemes i ≡ end_token g
token_at_end token g lexemes i past = ap (λ w. option_map_or token w (end_token g)) (slice_get_past lexemes i past)

-- the token of a lexeme
pub token_at_lexeme : {X : Type 0} (token : X → ℕ) (g : Grammar) (lexemes : List X) (i : ℕ) (x : X) → slice_get lexemes i ≡ Some x → token_at token g lexemes i ≡ token x
token_at_lexeme token g lexemes i x e = ap (λ w. option_map_or token w (end_token g)) e

-- feeding a token is deterministic
pub feeds_one_way : (g : Grammar) (table : Table) (t : ℕ) (st ps a qs b : List ℕ) → Feeds g table t st ps a → Feeds g table t st qs b → (ps ≡ qs) × (a ≡ b)
feeds_one_way g table t st ps a qs b x y =
    let same = settles_one_way g table t st ps qs x.settled y.settled x.settles y.settles in
    let shifts : top_action table t y.settled ≡ ShiftTo x.next = subst (λ w. top_action table t w ≡ ShiftTo x.next) same.1 x.shifts in
    let next : x.next ≡ y.next = let e : ShiftTo x.next ≡ ShiftTo y.next = sym shifts ∙ y.shifts in cc in
    let settled : x.settled ≡ y.settled = same.1 in
    let pushed : x.settled ++ x.next ∷ [] ≡ y.settled ++ y.next ∷ [] = cc in
    (same.0, x.pushed ∙ pushed ∙ sym y.pushed)

-- an action is a shift, or it isn't
cases_shift : (a : TableAction) → ((next : ℕ) × (a ≡ ShiftTo next)) ⊎ ((next : ℕ) → a ≢ ShiftTo next)
cases_shift (ShiftTo next) = inl (next, refl)
cases_shift (ReduceBy p) = inr (λ next e. cc)
cases_shift Accepts = inr (λ next e. cc)
cases_shift Fails = inr (λ next e. cc)

-- an action is accept, or it isn't
cases_accept : (a : TableAction) → (a ≡ Accepts) ⊎ (a ≢ Accepts)
cases_accept (ShiftTo next) = inr (λ e. cc)
cases_accept (ReduceBy p) = inr (λ e. cc)
cases_accept Accepts = inl refl
cases_accept Fails = inr (λ e. cc)

-- a path: the symbols along a stack
abbrev pub HasPath : Table → List ℕ → Type 0
HasPath table st = (symbols : List GrammarSymbol) × IsPath table symbols st

-- over a table that never sticks, a stack with a path has one after reductions
pub settles_path : (g : Grammar) (table : Table) (t : ℕ) (st ps after : List ℕ)
    → NeverSticks g table → HasPath table st → Settles g table t st ps after → HasPath table after
settles_path g table t st [] after never path settles = subst (HasPath table) settles.0 path
settles_path g table t st (p ∷ ps) after never path settles =
    let along = never.reduces path.0 st t p path.1 settles.1.action in
    let same : along.after ≡ settles.0 = reduces_to_one g table t st p p along.after settles.0 along.reduces settles.1 in
    let next : HasPath table along.after = (along.below ++ Nonterminal (rule_of g p) ∷ [], along.path) in
    settles_path g table t settles.0 ps after never (subst (HasPath table) same next) settles.2

-- and after a lexeme is fed
pub feeds_path : (g : Grammar) (table : Table) (t : ℕ) (st ps after : List ℕ)
    → NeverSticks g table → HasPath table st → Feeds g table t st ps after → HasPath table after
feeds_path g table t st ps after never path feeds =
    let settled = settles_path g table t st ps feeds.settled never path feeds.settles in
    let shifted = never.shifts settled.0 feeds.settled t feeds.next settled.1 feeds.shifts in
    subst (HasPath table) (sym feeds.pushed) (settled.0 ++ Terminal t ∷ [], shifted.1)

module _ {X : Type 0} (token : X → ℕ) (g : Grammar) (table : Table) (lexemes : List X) where
  -- one more lexeme is fed
  pub comes_more : (st : List ℕ) (i : ℕ) (ps mid : List ℕ) (j : ℕ) (qs after : List ℕ)
      → Comes token g table lexemes st i ps mid j → j < length lexemes → Feeds g table (token_at token g lexemes j) mid qs after
      → Comes token g table lexemes st i (ps ++ qs) after (j + 1)
  comes_more _ _ _ _ _ qs after (stays st i) within feeds =
      subst (λ w. Comes token g table lexemes st i w after (i + 1)) (append-nil qs) (comes_on st i qs [] after after (i + 1) within feeds (stays after (i + 1)))
  comes_more _ _ _ _ _ qs after (comes_on st i ps rs next mid j below first rest) within feeds =
      subst (λ w. Comes token g table lexemes st i w after (j + 1)) (sym (append_assoc ps rs qs))
      (comes_on st i ps (rs ++ qs) next after (j + 1) below first (comes_more next (i + 1) rs mid j qs after rest within feeds))

  -- a run goes on as a run from the stack and place that it comes to
  pub comes_far : (st : List ℕ) (i : ℕ) (ps mid : List ℕ) (j : ℕ) (qs : List ℕ) (end : FarEnd)
      → Comes token g table lexemes st i ps mid j → Far token g table lexemes mid j qs end → Far token g table lexemes st i (ps ++ qs) end
  comes_far _ _ _ _ _ qs end (stays st i) far = far
  comes_far _ _ _ _ _ qs end (comes_on st i ps rs next mid j below first rest) far =
      subst (λ w. Far token g table lexemes st i w end) (sym (append_assoc ps rs qs))
      (goes_on st i ps (rs ++ qs) next end below first (comes_far next (i + 1) rs mid j qs end rest far))

  -- a stack whose top has an error action is stuck
  pub stuck_from_fails : (settled : List ℕ) (i : ℕ)
      → top_action table (token_at token g lexemes i) settled ≡ Fails → IsStuck token g table lexemes settled i
  stuck_from_fails settled i fails = record {
    shifts_not = λ _ next shifts. let e : ShiftTo next ≡ Fails = sym shifts ∙ fails in cc;
    accepts_not = λ at_end accepted.
        let end_fails : top_action table (end_token g) settled ≡ Fails = subst (λ w. top_action table w settled ≡ Fails) (token_at_end token g lexemes i (omega arith)) fails in
        let e : Accepts ≡ Fails = sym accepted ∙ end_fails in cc;
  }

  -- over a table that never sticks, a settled stack that is stuck has an error action, if no lexeme has the end token
  pub fails_from_stuck : (symbols : List GrammarSymbol) (settled : List ℕ) (i : ℕ)
      → NeverSticks g table → IsPath table symbols settled → i ≤ length lexemes → (i < length lexemes → token_at token g lexemes i ≢ end_token g)
      → IsSettled table (token_at token g lexemes i) settled → IsStuck token g table lexemes settled i
      → top_action table (token_at token g lexemes i) settled ≡ Fails
  fails_from_stuck symbols settled i never path fits good is_settled stuck = go (top_action table (token_at token g lexemes i) settled) refl
    where
      past : length lexemes ≤ i → i ≡ length lexemes
      past h = omega arith

      go : (a : TableAction) → top_action table (token_at token g lexemes i) settled ≡ a → top_action table (token_at token g lexemes i) settled ≡ Fails
      go (ShiftTo next) e = elim (cases_lt i (length lexemes)) as (λ _. top_action table (token_at token g lexemes i) settled ≡ Fails) [
        | inl within ↦ absurd (stuck.shifts_not within next e)
        | inr over ↦ absurd ((never.shifts symbols settled (token_at token g lexemes i) next path e).0 (token_at_end token g lexemes i over))
      ]
      go (ReduceBy p) e = absurd (is_settled p e)
      go Accepts e = elim (cases_lt i (length lexemes)) as (λ _. top_action table (token_at token g lexemes i) settled ≡ Fails) [
        | inl within ↦ absurd (good within (never.accepts symbols settled (token_at token g lexemes i) path e).0)
        | inr over ↦ absurd (stuck.accepts_not (past over) (subst (λ w. top_action table w settled ≡ Accepts) (token_at_end token g lexemes i over) e))
      ]
      go Fails e = e

  -- if a lexeme is fed, the run doesn't stop there
  pub feeds_not_stuck : (st : List ℕ) (i : ℕ) (ps next qs settled : List ℕ)
      → i < length lexemes → Feeds g table (token_at token g lexemes i) st ps next → Settles g table (token_at token g lexemes i) st qs settled
      → IsStuck token g table lexemes settled i → ⊥
  feeds_not_stuck st i ps next qs settled within x settles stuck =
      let same = settles_one_way g table (token_at token g lexemes i) st ps qs x.settled settled x.settles settles in
      stuck.shifts_not within x.next (subst (λ w. top_action table (token_at token g lexemes i) w ≡ ShiftTo x.next) same.1 x.shifts)

  -- nor if the run accepts
  pub accepts_not_stuck : (st : List ℕ) (i : ℕ) (ps a qs b : List ℕ)
      → i ≡ length lexemes → Settles g table (end_token g) st ps a → top_action table (end_token g) a ≡ Accepts
      → Settles g table (token_at token g lexemes i) st qs b → IsStuck token g table lexemes b i → ⊥
  accepts_not_stuck st i ps a qs b at_end x accepted y stuck =
      let settles : Settles g table (end_token g) st qs b = subst (λ w. Settles g table w st qs b) (token_at_end token g lexemes i (omega arith)) y in
      let same = settles_one_way g table (end_token g) st ps qs a b x settles in
      stuck.accepts_not at_end (subst (λ w. top_action table (end_token g) w ≡ Accepts) same.1 accepted)

  -- a lexeme is fed: all reductions are made at its token, and the top shifts it
  pub comes_by : (st : List ℕ) (i : ℕ) (ps mid : List ℕ) (j : ℕ) (x : X) (qs settled : List ℕ) (next : ℕ)
      → Comes token g table lexemes st i ps mid j → slice_get lexemes j ≡ Some x
      → Settles g table (token x) mid qs settled → top_action table (token x) settled ≡ ShiftTo next
      → Comes token g table lexemes st i (ps ++ qs) (settled ++ next ∷ []) (j + 1)
  comes_by st i ps mid j x qs settled next comes is settles shifts =
      let feeds : Feeds g table (token x) mid qs (settled ++ next ∷ []) = record { settled = settled; settles = settles; next = next; shifts = shifts; pushed = refl } in
      comes_more st i ps mid j qs (settled ++ next ∷ []) comes (slice_get_within lexemes j x is)
      (subst (λ t. Feeds g table t mid qs (settled ++ next ∷ [])) (sym (token_at_lexeme token g lexemes j x is)) feeds)

  -- past the last lexeme all reductions are made at the end token, and the top accepts
  pub comes_to_accept : (st : List ℕ) (i : ℕ) (ps mid : List ℕ) (j : ℕ) (qs settled : List ℕ)
      → Comes token g table lexemes st i ps mid j → j ≡ length lexemes
      → Settles g table (end_token g) mid qs settled → top_action table (end_token g) settled ≡ Accepts
      → Far token g table lexemes st i (ps ++ qs) Accepted
  comes_to_accept st i ps mid j qs settled comes at_end settles accepted =
      comes_far st i ps mid j qs Accepted comes (accepts mid j qs settled at_end settles accepted)

  -- or the action there is an error
  pub comes_to_end : (st : List ℕ) (i : ℕ) (ps mid : List ℕ) (j : ℕ) (qs settled : List ℕ)
      → Comes token g table lexemes st i ps mid j → j ≡ length lexemes
      → Settles g table (end_token g) mid qs settled → top_action table (end_token g) settled ≡ Fails
      → Far token g table lexemes st i (ps ++ qs) (Stopped (record { stack = settled; place = j }))
  comes_to_end st i ps mid j qs settled comes at_end settles fails =
      let is : end_token g ≡ token_at token g lexemes j = sym (token_at_end token g lexemes j (omega arith)) in
      comes_far st i ps mid j qs (Stopped (record { stack = settled; place = j })) comes
      (stops mid j qs settled (omega arith) (subst (λ t. Settles g table t mid qs settled) is settles)
      (stuck_from_fails settled j (subst (λ t. top_action table t settled ≡ Fails) is fails)))

  -- the action at a lexeme's token is an error
  pub comes_to_stop : (st : List ℕ) (i : ℕ) (ps mid : List ℕ) (j : ℕ) (x : X) (qs settled : List ℕ)
      → Comes token g table lexemes st i ps mid j → slice_get lexemes j ≡ Some x
      → Settles g table (token x) mid qs settled → top_action table (token x) settled ≡ Fails
      → Far token g table lexemes st i (ps ++ qs) (Stopped (record { stack = settled; place = j }))
  comes_to_stop st i ps mid j x qs settled comes at settles fails =
      let is : token x ≡ token_at token g lexemes j = sym (token_at_lexeme token g lexemes j x at) in
      comes_far st i ps mid j qs (Stopped (record { stack = settled; place = j })) comes
      (stops mid j qs settled (omega (arith, slice_get_within lexemes j x at)) (subst (λ t. Settles g table t mid qs settled) is settles)
      (stuck_from_fails settled j (subst (λ t. top_action table t settled ≡ Fails) is fails)))

  -- over a table that never sticks, a run from a stack with a path stops only at an error action
  pub far_ends_by_failing : (st : List ℕ) (i : ℕ) (ps : List ℕ) (end : FarEnd)
      → NeverSticks g table → KeepOffEnd token g lexemes → HasPath table st → Far token g table lexemes st i ps end → EndsByFailing token g table lexemes end
  far_ends_by_failing _ _ _ _ never good path (goes_on st i ps qs next end within first rest) =
      far_ends_by_failing next (i + 1) qs end never good (feeds_path g table (token_at token g lexemes i) st ps next never path first) rest
  far_ends_by_failing _ _ _ _ never good path (accepts st i ps settled at_end settles accepted) = tt
  far_ends_by_failing _ _ _ _ never good path (stops st i ps settled fits settles stuck) =
      let along = settles_path g table (token_at token g lexemes i) st ps settled never path settles in
      fails_from_stuck along.0 settled i never along.1 fits (good i) (settles_settled g table (token_at token g lexemes i) st ps settled settles) stuck

-- runs are deterministic
pub runs_one_way : {X : Type 0} → RunsOneWay X
runs_one_way token g table lexemes _ _ _ _ _ _ (goes_on st i ps rs next end below first rest) (goes_on st' i' ps' rs' next' end' below' first' rest') =
    let one = feeds_one_way g table (token_at token g lexemes i) st ps next ps' next' first first' in
    let more = runs_one_way token g table lexemes next (i + 1) rs rs' end end' rest (subst (λ w. Far token g table lexemes w (i + 1) rs' end') (sym one.1) rest') in
    let ps_same : ps ≡ ps' = one.0 in
    let rs_same : rs ≡ rs' = more.0 in
    (cc, more.1)
runs_one_way token g table lexemes _ _ _ _ _ _ (goes_on st i ps rs next end below first rest) (accepts st' i' qs settled at_end settles accepted) = absurd (omega arith)
runs_one_way token g table lexemes _ _ _ _ _ _ (goes_on st i ps rs next end below first rest) (stops st' i' qs settled fits settles stuck) =
    absurd (feeds_not_stuck token g table lexemes st i ps next qs settled below first settles stuck)
runs_one_way token g table lexemes _ _ _ _ _ _ (accepts st i ps settled at_end settles accepted) (goes_on st' i' qs rs next end below first rest) = absurd (omega arith)
runs_one_way token g table lexemes _ _ _ _ _ _ (accepts st i ps settled at_end settles accepted) (accepts st' i' qs settled' at_end' settles' accepted') =
    ((settles_one_way g table (end_token g) st ps qs settled settled' settles settles').0, refl)
runs_one_way token g table lexemes _ _ _ _ _ _ (accepts st i ps settled at_end settles accepted) (stops st' i' qs settled' fits settles' stuck) =
    absurd (accepts_not_stuck token g table lexemes st i ps settled qs settled' at_end settles accepted settles' stuck)
runs_one_way token g table lexemes _ _ _ _ _ _ (stops st i ps settled fits settles stuck) (goes_on st' i' qs rs next end below first rest) =
    absurd (feeds_not_stuck token g table lexemes st i qs next ps settled below first settles stuck)
runs_one_way token g table lexemes _ _ _ _ _ _ (stops st i ps settled fits settles stuck) (accepts st' i' qs settled' at_end settles' accepted) =
    absurd (accepts_not_stuck token g table lexemes st i qs settled' ps settled at_end settles' accepted settles stuck)
runs_one_way token g table lexemes _ _ _ _ _ _ (stops st i ps settled fits settles stuck) (stops st' i' qs settled' fits' settles' stuck') =
    let same = settles_one_way g table (token_at token g lexemes i) st ps qs settled settled' settles settles' in
    (same.0, ap (λ (w : List ℕ). Stopped (record { stack = w; place = i })) same.1)

-- so are runs with their lists of stops
pub runs_end_one_way : {X : Type 0} → RunsEndOneWay X
runs_end_one_way token g table lexemes _ _ _ _ _ _ _ _ (comes_through st i ps far) (comes_through st' i' qs far') =
    let same = runs_one_way token g table lexemes st i ps qs Accepted Accepted far far' in
    (refl, refl, same.0)
runs_end_one_way token g table lexemes _ _ _ _ _ _ _ _ (comes_through st i ps far) (gives_up st' i' qs stop far') =
    let same = runs_one_way token g table lexemes st i ps qs Accepted (Stopped stop) far far' in
    let e : Accepted ≡ Stopped stop = same.1 in cc
runs_end_one_way token g table lexemes _ _ _ _ _ _ _ _ (gives_up st i ps stop far) (comes_through st' i' qs far') =
    let same = runs_one_way token g table lexemes st i ps qs (Stopped stop) Accepted far far' in
    let e : Stopped stop ≡ Accepted = same.1 in cc
runs_end_one_way token g table lexemes _ _ _ _ _ _ _ _ (gives_up st i ps stop far) (gives_up st' i' qs stop' far') =
    let same = runs_one_way token g table lexemes st i ps qs (Stopped stop) (Stopped stop') far far' in
    let e : Stopped stop ≡ Stopped stop' = same.1 in
    let stops : stop ≡ stop' = cc in
    (ap (λ (s : Stop). s ∷ []) stops, refl, same.0)

-- at each place a settled stack shifts the lexeme, accepts, or is stuck
pub runs_go_on_or_end : {X : Type 0} → RunsGoOnOrEnd X
runs_go_on_or_end token g table lexemes settled i fits = elim (cases_lt i (length lexemes)) as (λ _. Takes token g table lexemes settled i) [
  | inl within ↦ elim (cases_shift (top_action table (token_at token g lexemes i) settled)) as (λ _. Takes token g table lexemes settled i) [
    | inl shifts ↦ inl (within, shifts)
    | inr no_shift ↦ inr (inr (record { shifts_not = λ _. no_shift; accepts_not = λ at_end. absurd (omega arith) }))
  ]
  | inr over ↦ elim (cases_accept (top_action table (end_token g) settled)) as (λ _. Takes token g table lexemes settled i) [
    | inl accepted ↦ inr (inl (omega arith, accepted))
    | inr no_accept ↦ inr (inr (record { shifts_not = λ within. absurd (omega arith); accepts_not = λ _. no_accept }))
  ]
]

-- the same, for a stack along given symbols
pub runs_stop_by_failing : {X : Type 0} → RunsStopByFailing X
runs_stop_by_failing token g table lexemes symbols st i ps end never good path far =
    far_ends_by_failing token g table lexemes st i ps end never good (symbols, path) far
