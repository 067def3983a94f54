-- Why no good exit is left out: each test of an exit that is good comes out true.
use Rattle.std.proofs.Common.{◌≡◌, ◌≢◌, ◌<◌, ◌≤◌, ◌+◌, ◌-◌, ◌⊎◌, ◌∙◌, inl, inr, refl, sym, ap, subst, arith, add-one, ℕ, zero, suc, Bool, List, [], ◌∷◌, Some, get_or, length, slice_get, take}
use Rattle.std.proofs.Math.ListN.{set}
use Rattle.std.proofs.Math.Seq.{map-set_same}
use Rattle.std.specs.Prelude.{Contains, IsTrue}
use Rattle.std.proofs.lemmas.Bool.{cases_lt}
use Rattle.std.proofs.lemmas.Option.{same_Some, slice_get_within}
use Rattle.lrpar_grammar_places.specs.declared.span.RIdx.{RIdx}
use Rattle.lrpar_grammar_places.specs.declared.span.StIdx.{StIdx}
use Rattle.lrpar_grammar_places.specs.declared.span.TIdx.{TIdx}
use Rattle.lrpar_grammar.specs.Grammar.{Grammar, end_token, prod_len, prods_len, rule_of, tokens_len}
use Rattle.lrpar_grammar.specs.Tokens.{has}
use Rattle.lrpar_table_rows.specs.Graph.{Graph}
use Rattle.lrpar_table_rows.specs.Table.{ReduceBy, Table, action_of, goto_of}
use Rattle.lrpar_table_pops.specs.AllGood.{AreReductionsClosed, HasAllAbove, IsGoodExit, IsGoodControl, IsTokenClosed}
use Rattle.lrpar_table_pops.specs.Closed.{FollowsIn, IsLeft, IsIncluded}
use Rattle.lrpar_table_rows.specs.Safe.{IsSafe}
use Rattle.std.proofs.lemmas.List.{length-map, take_all}
use Rattle.lrpar_table_pops.specs.Entries.{AreAllRulesOf, AreAllTokensOf}
use Rattle.lrpar_table_pops.specs.FoundAll.{AreExitsFor}
use Rattle.lrpar_table_pops.specs.Growth.{GrowsBy, HasLookahead, HasWay, IsStored, SomeHasLookahead, ways_of}
use Rattle.lrpar_table_pops.specs.Pops.{Control, Done, Dropping, Reading}
use Rattle.lrpar_table_pops.specs.Sets.{tokens_by}
use Rattle.lrpar_table_pops.specs.StoredPops.{at_of}
use Rattle.lrpar_table_pops.specs.declared.exits.Exit.{Exit}
use Rattle.lrpar_table_pops.specs.declared.exits.Way.{Way}
use Rattle.lrpar_table_pops.specs.declared.exits.Way.TheVariants.{Acceptance, Reduction}
use Rattle.lrpar_table_pops.specs.declared.pops.StateExits.{StateExits}
use Rattle.lrpar_table_pops.proofs.GrowthLemmas.{grows_none, some_has}
use Rattle.lrpar_table_pops.proofs.StoredAllLemmas.{grows_by}
use Rattle.lrpar_table_pops.proofs.SaturateLemmas.{follows_acts}

-- the ways stay
pub ways_set : (exits now : List Exit) (place : ℕ) (old : Exit) (tokens : List Bool) → exits ≡ now → old ≡ get_or exits place old
    → ways_of (set exits place (record { way = old.way; tokens = tokens })) ≡ ways_of now
ways_set exits now place old tokens is there =
    map-set_same (λ (e : Exit). e.way) exits place (record { way = old.way; tokens = tokens }) old (ap (λ (e : Exit). e.way) there) ∙ ap ways_of is

-- the good exit at the start
pub start_stored : (g : Grammar) (graph : Graph) (s t : ℕ) (old new : List Exit) → AreExitsFor g graph s old → GrowsBy (λ w u. (w ≡ Acceptance) × (u ≡ t)) old new
    → t ≡ end_token g → IsStored g new Done
start_stored g graph s t old new places grows is =
    grows.more Acceptance (end_token g) (tokens_len g) (refl, sym is) places.accepted places.room (omega arith)

module _ (g : Grammar) (good : List Exit) (reduced : List (List Bool)) where
  -- a reduction that drops no more states, and one that drops some
  pub taken_here : (p symbols t : ℕ) → symbols ≡ 0 → IsGoodExit g good reduced (Reduction p symbols) t
      → (p < prods_len g) × IsTrue (has (tokens_by reduced (rule_of g p)) t)
  taken_here p symbols t none taken = subst (λ (n : ℕ). IsGoodExit g good reduced (Reduction p n) t) none taken

  pub taken_dropped : (p symbols t : ℕ) → symbols ≢ 0 → IsGoodExit g good reduced (Reduction p symbols) t → HasLookahead good (Reduction p (symbols - 1)) t
  taken_dropped p symbols t some taken =
      let one : symbols ≡ suc (symbols - 1) = omega (arith, some) in subst (λ (n : ℕ). IsGoodExit g good reduced (Reduction p n) t) one taken

  -- an exit that is kept
  pub kept_reads : (exits : List Exit) (q : Control) (b : Bool) → IsStored g exits q → IsGoodControl g good reduced q
      → ((way : Way) (t : ℕ) → HasLookahead exits way t → IsGoodExit g good reduced way t → IsTrue b) → IsTrue b
  kept_reads exits (Reading t) b stored taken all = absurd stored
  kept_reads exits (Dropping p left t) b stored taken all = all (Reduction p left) t stored taken
  kept_reads exits Done b stored taken all = all Acceptance (end_token g) stored taken

  -- a reduction of the state above
  pub kept_reduction : (states : List StateExits) (next t p len : ℕ) (q : Control) → len ≡ prod_len g p → len ≡ 0 → FollowsIn g states next t (ReduceBy p) q
      → IsStored g (at_of states next t) q
  kept_reduction states next t p len q is none (inl kept) = kept.1
  kept_reduction states next t p len q is none (inr more) = absurd (let some = more.1 in omega (arith, is, none, some))

  pub dropped_reads : (states : List StateExits) (next t p len : ℕ) (q : Control) → len ≡ prod_len g p → len ≢ 0 → FollowsIn g states next t (ReduceBy p) q
      → IsGoodControl g good reduced q → IsGoodExit g good reduced (Reduction p (len - 1)) t
  dropped_reads states next t p len q is some (inl kept) taken = absurd (let none = kept.0 in some (omega (arith, is, none)))
  dropped_reads states next t p len q is some (inr more) taken =
      let all = more.1 in
      let left : more.0 ≡ len - 1 = omega (arith, is, all) in
      subst (λ (n : ℕ). IsGoodExit g good reduced (Reduction p n) t) left (subst (IsGoodControl g good reduced) more.2 taken)

  pub done_reads : (t : ℕ) (q : Control) → t ≡ end_token g → q ≡ Done → IsGoodControl g good reduced q → IsGoodExit g good reduced Acceptance t
  done_reads t q end is taken =
      subst (λ (u : ℕ). IsGoodExit g good reduced Acceptance u) (sym end) (subst (IsGoodControl g good reduced) is taken)

  -- no exit before a place is good
  abbrev pub AreNotGood : List Exit → ℕ → Type 0
  AreNotGood exits place = (way : Way) (t : ℕ) → SomeHasLookahead (take place exits) way t → ¬ (IsGoodExit g good reduced way t)

module _ {S : Type 0} (index : S → ℕ) (g : Grammar) (table : Table) (states : List StateExits) (good : List Exit) where
  -- the first tokens are closed
  abbrev pub AreTokensClosedBy : ℕ → ℕ → List (List Bool) → List (TIdx S) → ℕ → Type 0
  AreTokensClosedBy rule next reduced tokens place =
      (i : ℕ) (token : TIdx S) → i < place → slice_get tokens i ≡ Some token → IsTokenClosed g table states good rule next reduced (index token.0)

  pub tokens_closed_by_more : (rule next : ℕ) (first now : List (List Bool)) (tokens : List (TIdx S)) (place : ℕ) (token : TIdx S)
      → slice_get tokens place ≡ Some token → now ≡ first → AreTokensClosedBy rule next first tokens place
      → IsTokenClosed g table states good rule next now (index token.0) → AreTokensClosedBy rule next first tokens (place + 1)
  tokens_closed_by_more rule next first now tokens place token there same before here i other low at =
      elim (cases_lt i place) as (λ _. IsTokenClosed g table states good rule next first (index other.0)) [
        | inl less ↦ before i other less at
        | inr past ↦
            let last : i ≡ place = omega (arith, low, past) in
            let one : other ≡ token = same_Some other token (sym at ∙ ap (slice_get tokens) last ∙ there) in
            subst (λ (x : TIdx S). IsTokenClosed g table states good rule next first (index x.0)) (sym one)
            (subst (λ (l : List (List Bool)). IsTokenClosed g table states good rule next l (index token.0)) same here)
      ]

  pub tokens_closed_by_all : (rule : ℕ) (next : StIdx S) (reduced : List (List Bool)) (tokens : List (TIdx S)) (place : ℕ) → length tokens ≤ place
      → AreAllTokensOf index table next tokens → AreTokensClosedBy rule (index next.0) reduced tokens place
      → (t : ℕ) → IsTokenClosed g table states good rule (index next.0) reduced t
  tokens_closed_by_all rule next reduced tokens place end all closed t q follows taken low =
      let acts = follows_acts g states (index next.0) t (action_of table (index next.0) t) q follows in
      let token = all t acts in
      let under = slice_get_within tokens token.0 token.1 token.2 in
      subst (λ (u : ℕ). IsTokenClosed g table states good rule (index next.0) reduced u) token.3 (closed token.0 token.1 (omega (arith, under, end)) token.2) q follows taken
      low

  -- the first gotos are closed
  abbrev pub AreRulesClosedBy : ℕ → List (List Bool) → List (RIdx S) → ℕ → Type 0
  AreRulesClosedBy s reduced rules place =
      (i : ℕ) (rule : RIdx S) (next t : ℕ) → i < place → slice_get rules i ≡ Some rule → goto_of table s (index rule.0) ≡ Some next
      → IsTokenClosed g table states good (index rule.0) next reduced t

  pub rules_closed_by_more : (s next : ℕ) (first now : List (List Bool)) (rules : List (RIdx S)) (place : ℕ) (rule : RIdx S) → slice_get rules place ≡ Some rule
      → goto_of table s (index rule.0) ≡ Some next → now ≡ first → AreRulesClosedBy s first rules place
      → ((t : ℕ) → IsTokenClosed g table states good (index rule.0) next now t) → AreRulesClosedBy s first rules (place + 1)
  rules_closed_by_more s next first now rules place rule there goto same before here i other to t low at goes =
      elim (cases_lt i place) as (λ _. IsTokenClosed g table states good (index other.0) to first t) [
        | inl less ↦ before i other to t less at goes
        | inr past ↦
            let last : i ≡ place = omega (arith, low, past) in
            let one : other ≡ rule = same_Some other rule (sym at ∙ ap (slice_get rules) last ∙ there) in
            let way : to ≡ next = same_Some to next (sym goes ∙ ap (λ (x : RIdx S). goto_of table s (index x.0)) one ∙ goto) in
            subst (λ (x : RIdx S). IsTokenClosed g table states good (index x.0) to first t) (sym one)
            (subst (λ (n : ℕ). IsTokenClosed g table states good (index rule.0) n first t) (sym way)
            (subst (λ (l : List (List Bool)). IsTokenClosed g table states good (index rule.0) next l t) same (here t)))
      ]

  pub rules_closed_by_all : (s : StIdx S) (reduced : List (List Bool)) (rules : List (RIdx S)) (place : ℕ) → length rules ≤ place → AreAllRulesOf index table s rules
      → AreRulesClosedBy (index s.0) reduced rules place → AreReductionsClosed g table states (index s.0) good reduced
  rules_closed_by_all s reduced rules place end all closed rule next t goto =
      let h = all rule next goto in
      let under = slice_get_within rules h.0 h.1 h.2 in
      subst (λ (r : ℕ). IsTokenClosed g table states good r next reduced t) h.3
      (closed h.0 h.1 next t (omega (arith, under, end)) h.2 (ap (goto_of table (index s.0)) h.3 ∙ goto))

-- an exit with a lookahead is an exit
pub lookahead_way : (exits : List Exit) (way : Way) (t : ℕ) → HasLookahead exits way t → HasWay exits way
lookahead_way exits way t h = let some = some_has exits way t h in (some.0, some.1, some.2)

way_there : (exits : List Exit) (place : ℕ) (exit : Exit) (way : Way) → slice_get exits place ≡ Some exit → slice_get (ways_of exits) place ≡ Some way → way ≡ exit.way
way_there [] place exit way at is = absurd (let none : ⊥ = cc in none)
way_there (x ∷ exits) zero exit way at is =
    let first : x ≡ exit = cc in let here : x.way ≡ way = cc in sym here ∙ ap (λ (e : Exit). e.way) first
way_there (x ∷ exits) (suc place) exit way at is = way_there exits place exit way at is

-- the exit at a place was given all lookaheads at which it is good
pub good_grows : (g : Grammar) (good : List Exit) (reduced : List (List Bool)) (old : List Exit) (place : ℕ) (exit : Exit) (tokens : List Bool) (new : List Exit)
    → slice_get old place ≡ Some exit → ((t : ℕ) → IsGoodExit g good reduced exit.way t → IsTrue (has tokens t))
    → GrowsBy (λ w t. (w ≡ exit.way) × IsTrue (has tokens t)) old new
    → GrowsBy (λ w t. (slice_get (ways_of old) place ≡ Some w) × IsGoodExit g good reduced w t) old new
good_grows g good reduced old place exit tokens new at all grows =
    grows_by (λ w t. (w ≡ exit.way) × IsTrue (has tokens t)) (λ w t. (slice_get (ways_of old) place ≡ Some w) × IsGoodExit g good reduced w t) old new (λ way t h.
    let is = way_there old place exit way at h.0 in
    (is, all t (subst (λ (w : Way). IsGoodExit g good reduced w t) is h.1))) grows

-- none is good
pub good_grows_none : (g : Grammar) (good : List Exit) (reduced : List (List Bool)) (exits : List Exit) (place : ℕ)
    → ((way : Way) (t : ℕ) → slice_get (ways_of exits) place ≡ Some way → ¬ (IsGoodExit g good reduced way t))
    → GrowsBy (λ w t. (slice_get (ways_of exits) place ≡ Some w) × IsGoodExit g good reduced w t) exits exits
good_grows_none g good reduced exits place none =
    grows_none (λ w t. (slice_get (ways_of exits) place ≡ Some w) × IsGoodExit g good reduced w t) exits (λ way t h has_way. absurd (none way t h.0 h.1))

-- the exits of the first ways have all lookaheads at which they are good
abbrev pub AreWaysGood : Grammar → List Exit → List (List Bool) → List Exit → ℕ → Type 0
AreWaysGood g good reduced exits place =
    (way : Way) → Contains (take place (ways_of exits)) way → (t : ℕ) → t < tokens_len g → IsGoodExit g good reduced way t → HasLookahead exits way t

way_exit : (exits : List Exit) (place : ℕ) (way : Way) → slice_get (ways_of exits) place ≡ Some way → HasWay exits way
way_exit [] place way is = absurd (let none : ⊥ = cc in none)
way_exit (x ∷ exits) zero way is = let here : x.way ≡ way = cc in (x, (0, omega arith, refl), here)
way_exit (x ∷ exits) (suc place) way is =
    let more = way_exit exits place way is in let low = more.1.1 in (more.0, (suc more.1.0, omega (arith, low), more.1.2), more.2)

way_at : (ways : List Way) (place : ℕ) (way : Way) → Contains (take (suc place) ways) way → Contains (take place ways) way ⊎ (slice_get ways place ≡ Some way)
way_at [] zero way h = absurd (let low = h.1 in omega (arith, low))
way_at [] (suc place) way h = absurd (let low = h.1 in omega (arith, low))
way_at (x ∷ ways) zero way (zero, low, is) = inr (ap Some is)
way_at (x ∷ ways) zero way (suc k, low, is) = absurd (omega (arith, low))
way_at (x ∷ ways) (suc place) way (zero, low, is) = inl (0, omega arith, is)
way_at (x ∷ ways) (suc place) way (suc k, low, is) =
    elim (way_at ways place way (k, omega (arith, low), is)) as (λ _. Contains (x ∷ take place ways) way ⊎ (slice_get ways place ≡ Some way)) [
      | inl was ↦ let under = was.1 in inl (suc was.0, omega (arith, under), was.2)
      | inr here ↦ inr here
    ]

pub ways_good_more : (g : Grammar) (graph : Graph) (s : ℕ) (good : List Exit) (reduced : List (List Bool)) (old new : List Exit) (place : ℕ) → AreExitsFor g graph s old
    → ways_of new ≡ ways_of old → GrowsBy (λ w t. (slice_get (ways_of old) place ≡ Some w) × IsGoodExit g good reduced w t) old new
    → AreWaysGood g good reduced old place → AreWaysGood g good reduced new (place + 1)
ways_good_more g graph s good reduced old new place places same grows before way h t low taken =
    let was : Contains (take (place + 1) (ways_of old)) way = subst (λ (l : List Way). Contains (take (place + 1) l) way) same h in
    let seen : Contains (take (suc place) (ways_of old)) way = rw (← add-one) was in
    elim (way_at (ways_of old) place way seen) as (λ _. HasLookahead new way t) [
      | inl first ↦ grows.kept way t (before way first t low taken)
      | inr here ↦ grows.more way t (tokens_len g) (here, taken) (way_exit old place way here) places.room low
    ]

contains_way : (exits : List Exit) (way : Way) → HasWay exits way → Contains (ways_of exits) way
contains_way [] way h = absurd (let low = h.1.1 in omega (arith, low))
contains_way (x ∷ exits) way (exit, (zero, low, is), is_way) = (0, omega arith, ap (λ (e : Exit). e.way) is ∙ is_way)
contains_way (x ∷ exits) way (exit, (suc k, low, is), is_way) =
    let more = contains_way exits way (exit, (k, omega (arith, low), is), is_way) in let under = more.1 in (suc more.0, omega (arith, under), more.2)

-- so all are
pub ways_good_all : (g : Grammar) (graph : Graph) (table : Table) → IsSafe g graph table → (next : ℕ) (good : List Exit) (reduced : List (List Bool)) (above : List Exit)
    (place : ℕ) → length above ≤ place → AreExitsFor g graph next above → AreWaysGood g good reduced above place → HasAllAbove g graph next good reduced above
ways_good_all g graph table safe next good reduced above place end places all = by
  where
    at : (way : Way) → HasWay above way → (t : ℕ) → t < tokens_len g → IsGoodExit g good reduced way t → HasLookahead above way t
    at way h t low taken =
        let len = length-map above (λ (e : Exit). e.way) in
        let whole = take_all place (ways_of above) (omega (arith, end, len)) in
        all way (subst (λ (l : List Way). Contains l way) (sym whole) (contains_way above way h)) t low taken

    by : (r : Control) → IsLeft g graph next r → IsIncluded g good reduced r → IsStored g above r
    by (Reading t) left taken = absurd left
    by (Dropping p zero t) left taken =
        let core = left.0 in
        at (Reduction p 0) (places.cores p 0 core) t left.1 ((safe.shape.items next p 1 core.0 core.1).prod, taken)
    by (Dropping p (suc k) t) left taken = at (Reduction p (suc k)) (places.cores p (suc k) left.0) t left.1 taken
    by Done left taken = at Acceptance places.accepted (end_token g) (omega arith) taken

pub ways_len : (old new : List Exit) → ways_of new ≡ ways_of old → length new ≡ length old
ways_len old new same =
    let a = length-map old (λ (e : Exit). e.way) in
    let b = length-map new (λ (e : Exit). e.way) in
    let c = ap (λ (l : List Way). length l) same in
    omega (arith, a, b, c)
