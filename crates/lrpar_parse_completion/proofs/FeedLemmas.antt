-- Tokens that are fed in turn. They lead to one stack; and a run over them that accepts feeds them all and then accepts. So a completion
-- is a repair: all its tokens are inserted, and all lexemes that are left are deleted.
use Rattle.std.proofs.Common.{◌≡◌, ◌<◌, ◌≤◌, ◌+◌, ◌-◌, ◌∙◌, inr, refl, sym, ap, subst, arith, ℕ, zero, suc, Bool, true, false, List, [], ◌∷◌, ◌++◌, length, drop, take, get_or, slice_get, Option, Some, Vec, All}
use Rattle.std.specs.Prelude.{map, replicate}
use Rattle.std.specs.Option.{option_map, option_map_or}
use Rattle.std.proofs.lemmas.List.Elements.{All-get_or}
use Rattle.std.proofs.lemmas.List.{drop_more, drop_all, length-map, map-append, take_all}
use Rattle.std.proofs.lemmas.Option.{get_or_from_slice_get, slice_get-get_or, slice_get-map, slice_get_within}
use Rattle.lrpar_grammar_places.specs.declared.span.StIdx.{StIdx}
use Rattle.lrpar_grammar_places.specs.declared.span.TIdx.{TIdx}
use Rattle.lrpar_grammar.specs.Grammar.{Grammar, end_token}
use Rattle.lrpar_table_rows.specs.Table.{Table, ShiftTo}
use Rattle.lrpar_table_stacks.specs.Expected.{AcceptsAtEnd, tokens_of}
use Rattle.lrpar_table_stacks.specs.Reduction.{Feeds, top_action}
use Rattle.lrpar_table_stacks.specs.Run.{Accepted, Far, FarEnd, Stopped, accepts, goes_on, stops, token_at}
use Rattle.lrpar_table_stacks.specs.Settled.{IsFedBy}
use Rattle.lrpar_table_stacks.specs.Stack.{states_of}
use Rattle.lrpar_table_stacks.proofs.Reductions.{settles_one_way}
use Rattle.lrpar_table_stacks.proofs.RunLemmas.{feeds_one_way}
use Rattle.lrpar_parse_repair.specs.Asked.{Asked}
use Rattle.lrpar_parse_repair.specs.Sequences.{PlainStep, PlainInsert, PlainDelete, CanGoOn, Works}
use Rattle.lrpar_parse_completion.specs.Completing.{Completes}
use Rattle.lrpar_parse_completion.specs.Trying.{IsInserted, stacks_of}
use Rattle.lrpar_parse_completion.proofs.WaitingLemmas.{take_get}
use Rattle.lrpar_parse_completion.specs.Nearest.{FeedsAll, GoesOnAt, repair_at}

module _ (g : Grammar) (table : Table) where
  -- they lead to one stack
  pub feeds_all_one_way : (st ts a b : List ℕ) → FeedsAll g table st ts a → FeedsAll g table st ts b → a ≡ b
  feeds_all_one_way st [] a b x y = x ∙ sym y
  feeds_all_one_way st (t ∷ ts) a b x y =
      let same = feeds_one_way g table t st x.1.0 x.1.1 y.1.0 y.1.1 x.1.2 y.1.2 in
      feeds_all_one_way x.1.1 ts a b x.1.3 (subst (λ (l : List ℕ). FeedsAll g table l ts b) (sym same.1) y.1.3)

  -- one token more
  pub feeds_all_more : (st ts a : List ℕ) (t : ℕ) (ps next : List ℕ) → FeedsAll g table st ts a → t < end_token g → Feeds g table t a ps next
      → FeedsAll g table st (ts ++ t ∷ []) next
  feeds_all_more st [] a t ps next x low feeds = (low, (ps, next, subst (λ (l : List ℕ). Feeds g table t l ps next) x feeds, refl))
  feeds_all_more st (u ∷ ts) a t ps next x low feeds = (x.0, (x.1.0, x.1.1, x.1.2, feeds_all_more x.1.1 ts a t ps next x.1.3 low feeds))

  -- the first of them are fed, and then the others
  pub feeds_all_split : (st ts us c : List ℕ) → FeedsAll g table st (ts ++ us) c → (b : List ℕ) × FeedsAll g table st ts b × FeedsAll g table b us c
  feeds_all_split st [] us c x = (st, refl, x)
  feeds_all_split st (t ∷ ts) us c x =
      let more = feeds_all_split x.1.1 ts us c x.1.3 in (more.0, (x.0, (x.1.0, x.1.1, x.1.2, more.1)), more.2)

  module _ (tokens : List ℕ) (listed : All (λ (t : ℕ). t < end_token g) tokens) where
    -- a run that accepts feeds them all, and then accepts
    run_feeds_all : (st : List ℕ) (i : ℕ) (ps : List ℕ) (end : FarEnd) → Far (λ (t : ℕ). t) g table tokens st i ps end → end ≡ Accepted
        → (after : List ℕ) × FeedsAll g table st (drop i tokens) after × AcceptsAtEnd g table after
    run_feeds_all _ _ _ _ (goes_on st i ps qs next end below feeds rest) is =
        let t = token_at (λ (t : ℕ). t) g tokens i in
        let more = run_feeds_all next (i + 1) qs end rest is in
        let first : t ≡ get_or tokens i 0 = ap (λ (o : Option ℕ). option_map_or (λ (t : ℕ). t) o (end_token g)) (slice_get-get_or tokens i 0 below) in
        let low : t < end_token g = subst (λ (n : ℕ). n < end_token g) (sym first) (All-get_or (λ (t : ℕ). t < end_token g) tokens i 0 below listed) in
        let whole : drop i tokens ≡ t ∷ drop (i + 1) tokens =
        drop_more tokens i 0 below ∙ ap (λ (n : ℕ). n ∷ drop (i + 1) tokens) (sym first) in
        (more.0, subst (λ (l : List ℕ). FeedsAll g table st l more.0) (sym whole) (low, (ps, next, feeds, more.1)), more.2)
    run_feeds_all _ _ _ _ (accepts st i ps settled at_end settles accepted) is = (
      st,
      subst (λ (l : List ℕ). FeedsAll g table st l st) (sym (drop_all i tokens (omega (arith, at_end)))) refl,
      record { prods = ps; settled = settled; settles = settles; action = accepted },
    )
    run_feeds_all _ _ _ _ (stops st i ps settled fits settles stuck) is =
        let no : Stopped (record { stack = settled; place = i }) ≡ Accepted = is in absurd (let none : ⊥ = cc in none)

  pub completes_feeds_all : (st tokens : List ℕ) → All (λ (t : ℕ). t < end_token g) tokens → Completes g table st tokens
      → (after : List ℕ) × FeedsAll g table st tokens after × AcceptsAtEnd g table after
  completes_feeds_all st tokens listed completes = run_feeds_all tokens listed st 0 completes.0 Accepted completes.1 refl

-- what `feed` says of a token of the grammar that isn't the end token
pub inserted_by : (g : Grammar) (table : Table) (cap t : ℕ) (st : List ℕ) (fed : Bool) (after : List ℕ) → t < end_token g → IsFedBy g table cap t st fed after
    → IsInserted g table t st after fed
inserted_by g table cap t st true after low h = (low, h)
inserted_by g table cap t st false after low h = λ below prods next feeds.
    let same = settles_one_way g table t st h.0.1.prods prods after feeds.settled h.0.1.settles feeds.settles in
    h.1 feeds.next (subst (λ (l : List ℕ). top_action table t l ≡ ShiftTo feeds.next) (sym same.1) feeds.shifts)

module _ {X : Type 0} (token : X → ℕ) (at : Asked X) (tokens : List ℕ) where
  abbrev g : Grammar
  g = at.checked.grammar

  abbrev table : Table
  table = at.checked.table

  abbrev WorksFrom : List ℕ → ℕ → List PlainStep → Type 0
  WorksFrom st i steps = Works token g table at.lexemes at.shifts st i steps

  -- at the end of the lexemes a stack that accepts goes on
  accepts_on : (k : ℕ) (after : List ℕ) → 0 < k → AcceptsAtEnd g table after → CanGoOn token g table at.lexemes k after (length at.lexemes)
  accepts_on zero after some last = absurd (omega (arith, some))
  accepts_on (suc k) after some last = inr (refl, last)

  -- so a completion goes on at the end, if it is inserted whole
  pub goes_on_at_end : 0 < at.shifts → ((after : List ℕ) × FeedsAll g table at.stack tokens after × AcceptsAtEnd g table after)
      → GoesOnAt token at tokens (length at.lexemes) (length tokens)
  goes_on_at_end some fed = (
    fed.0,
    subst (λ (l : List ℕ). FeedsAll g table at.stack l fed.0) (sym (take_all (length tokens) tokens (omega arith))) fed.1,
    accepts_on at.shifts fed.0 some fed.2,
  )

  -- tokens that are fed can be inserted
  inserts_work : (ts st after : List ℕ) (i : ℕ) (steps : List PlainStep) → FeedsAll g table st ts after → WorksFrom after i steps
      → WorksFrom st i (map (λ t. PlainInsert t) ts ++ steps)
  inserts_work [] st after i steps fed works = subst (λ (l : List ℕ). WorksFrom l i steps) fed works
  inserts_work (t ∷ ts) st after i steps fed works =
      (fed.1.0, fed.1.1, i, (fed.0, fed.1.2, refl), inserts_work ts fed.1.1 after i steps fed.1.3 works)

  -- lexemes that are left can be deleted
  deletes_work : (n i : ℕ) (st : List ℕ) → i + n ≤ length at.lexemes → CanGoOn token g table at.lexemes at.shifts st (i + n)
      → WorksFrom st i (replicate n PlainDelete)
  deletes_work zero i st low on =
      let none : i + 0 ≡ i = omega arith in subst (λ (j : ℕ). CanGoOn token g table at.lexemes at.shifts st j) none on
  deletes_work (suc n) i st low on =
      let next : i + suc n ≡ i + 1 + n = omega arith in (
        [],
        st,
        i + 1,
        (omega (arith, low), refl, refl, refl),
        deletes_work n (i + 1) st (omega (arith, low)) (subst (λ (j : ℕ). CanGoOn token g table at.lexemes at.shifts st j) next on),
      )

  -- so the repair of a place at which the parse can go on works
  pub repair_works : (j m : ℕ) → at.place ≤ j → j ≤ length at.lexemes → GoesOnAt token at tokens j m
      → WorksFrom at.stack at.place (repair_at tokens at.place j m)
  repair_works j m after_stop within on =
      let n = j - at.place in
      let sum : j ≡ at.place + n = omega (arith, after_stop) in
      inserts_work (take m tokens) at.stack on.0 at.place (replicate n PlainDelete) on.1
      (deletes_work n at.place on.0 (omega (arith, sum, within)) (subst (λ (i : ℕ). CanGoOn token g table at.lexemes at.shifts on.0 i) sum on.2))

-- a token of the code in its place
pub token_is : {S : Type 0} (index : S → ℕ) (tokens : List (TIdx S)) (i : ℕ) (token : TIdx S) → i < length tokens → token ≡ get_or tokens i token
    → get_or (tokens_of index tokens) i 0 ≡ index token.0
token_is {S} index tokens i token low is =
    get_or_from_slice_get (tokens_of index tokens) i (index token.0) 0
    (slice_get-map (λ (t : TIdx S). index t.0) tokens i
    ∙ ap (option_map (λ (t : TIdx S). index t.0)) (slice_get-get_or tokens i token low ∙ ap (λ (t : TIdx S). Some t) (sym is)))

-- a stack of the code in its place
pub stack_at : {S A : Type 0} (index : S → ℕ) (stacks : List (Vec (StIdx S) A)) (i : ℕ) (stack : Vec (StIdx S) A) → i < length stacks
    → stack ≡ get_or stacks i stack → slice_get (stacks_of index stacks) i ≡ Some (states_of index stack.items)
stack_at {S} {A} index stacks i stack low is =
    slice_get-map (λ (v : Vec (StIdx S) A). states_of index v.items) stacks i
    ∙ ap (option_map (λ (v : Vec (StIdx S) A). states_of index v.items))
    (slice_get-get_or stacks i stack low ∙ ap (λ (v : Vec (StIdx S) A). Some v) (sym is))

-- one stack more
pub stacks_pushed : {S A : Type 0} (index : S → ℕ) (stacks after : List (Vec (StIdx S) A)) (stack : Vec (StIdx S) A) (states : List ℕ)
    → after ≡ stacks ++ stack ∷ [] → states_of index stack.items ≡ states → stacks_of index after ≡ stacks_of index stacks ++ states ∷ []
stacks_pushed {S} {A} index stacks after stack states is same =
    ap (stacks_of index) is ∙ map-append (λ (v : Vec (StIdx S) A). states_of index v.items) stacks (stack ∷ [])
    ∙ ap (λ (st : List ℕ). stacks_of index stacks ++ st ∷ []) same

-- the token in its place was fed, or couldn't be, as was tested
pub fed_at : {S : Type 0} {answer fed : Bool} (index : S → ℕ) (g : Grammar) (table : Table) (tokens : List (TIdx S)) (i : ℕ) (token : TIdx S)
    (now next : List ℕ) → (i < length tokens) × (get_or (tokens_of index tokens) i 0 ≡ index token.0) → IsInserted g table (index token.0) now next answer
    → answer ≡ fed → (i < length (tokens_of index tokens)) × IsInserted g table (get_or (tokens_of index tokens) i 0) now next fed
fed_at {S} {answer} {fed} index g table tokens i token now next there inserted is =
    let here = subst (λ (t : ℕ). IsInserted g table t now next answer) (sym there.1) inserted in (
      omega (arith, there.0, length-map tokens (λ (t : TIdx S). index t.0)),
      subst (IsInserted g table (get_or (tokens_of index tokens) i 0) now next) is here,
    )

-- a token of the code in its place among the first ones
pub token_front : {S : Type 0} (index : S → ℕ) (tokens tried : List (TIdx S)) (n i : ℕ) (token : TIdx S) → tried ≡ take n tokens → i < length tried
    → token ≡ get_or tried i token → (i < length tokens) × (get_or (tokens_of index tokens) i 0 ≡ index token.0)
token_front {S} index tokens tried n i token front low is =
    let low_there : i < length (take n tokens) = subst (λ (l : List (TIdx S)). i < length l) front low in
    let is_there : get_or (take n tokens) i token ≡ token = sym (subst (λ (l : List (TIdx S)). token ≡ get_or l i token) front is) in
    let at = (take_get tokens n i token low_there is_there).1 in (
      slice_get_within tokens i token at,
      get_or_from_slice_get (tokens_of index tokens) i (index token.0) 0
          (slice_get-map (λ (t : TIdx S). index t.0) tokens i ∙ ap (option_map (λ (t : TIdx S). index t.0)) at),
    )
