-- Where the exits of a state at a token are kept.
use Rattle.std.proofs.Common.{◌≡◌, ◌≢◌, ◌<◌, ◌≤◌, ◌+◌, ◌∙◌, inl, inr, refl, sym, ap, subst, arith, ℕ, zero, suc, Bool, false, List, [], ◌∷◌, ◌++◌, Option, Some, None, length, slice_get, slice_index_or}
use Rattle.std.specs.Prelude.{IsTrue}
use Rattle.std.proofs.lemmas.Bool.{cases_lt}
use Rattle.std.proofs.lemmas.Option.{same_Some, slice_get_within}
use Rattle.lrpar_grammar_places.specs.declared.span.StIdx.{StIdx}
use Rattle.lrpar_grammar_places.specs.declared.span.TIdx.{TIdx}
use Rattle.lrpar_grammar.specs.Grammar.{Grammar}
use Rattle.lrpar_table_rows.specs.Graph.{Graph}
use Rattle.lrpar_table_rows.specs.Safe.{IsSafe}
use Rattle.lrpar_table_rows.specs.Table.{Accepts, Fails, FailsPastTokens, ReduceBy, ShiftTo, Table, TableAction, action_of}
use Rattle.lrpar_table_pops.specs.Closed.{IsGotoState, IsKeptBy}
use Rattle.lrpar_table_pops.specs.Entries.{AreAllTokensOf}
use Rattle.lrpar_table_pops.specs.FollowAll.{IsRightAction}
use Rattle.lrpar_table_pops.specs.FoundAll.{AreExitsFor}
use Rattle.lrpar_table_pops.specs.StoredAll.{AreKept, HaveWaysAt, IsMarked, stored_of}
use Rattle.lrpar_table_pops.specs.declared.exits.Exit.{Exit}
use Rattle.lrpar_table_pops.specs.declared.pops.StateExits.{StateExits}
use Rattle.lrpar_table_pops.proofs.SaturateLemmas.{kept_acts}
use Rattle.lrpar_table_pops.proofs.StoredAllLemmas.{exits_at}

-- no token before the place has the number
abbrev pub AreOtherTokens : {S : Type 0} → (S → ℕ) → List (TIdx S) → ℕ → ℕ → Type 0
AreOtherTokens {S} index tokens place number = (i : ℕ) (token : TIdx S) → i < place → slice_get tokens i ≡ Some token → index token.0 ≢ number

pub other_tokens_more : {S : Type 0} (index : S → ℕ) (tokens : List (TIdx S)) (place number : ℕ) (token : TIdx S) → slice_get tokens place ≡ Some token
    → index token.0 ≢ number → AreOtherTokens index tokens place number → AreOtherTokens index tokens (place + 1) number
other_tokens_more {S} index tokens place number token there apart before i other low at =
    elim (cases_lt i place) as (λ _. index other.0 ≢ number) [
      | inl less ↦ before i other less at
      | inr past ↦
          let last : i ≡ place = omega (arith, low, past) in
          let one : other ≡ token = same_Some other token (sym at ∙ ap (slice_get tokens) last ∙ there) in
          subst (λ (x : TIdx S). index x.0 ≢ number) (sym one) apart
    ]

-- a kept action is right
pub kept_right : (g : Grammar) (graph : Graph) (table : Table) → IsSafe g graph table → (s t : ℕ) (action : TableAction) → action_of table s t ≡ action → IsKeptBy g action
    → IsRightAction g t action
kept_right g graph table safe s t (ShiftTo next) is kept = tt
kept_right g graph table safe s t (ReduceBy p) is kept = safe.shape.reduces s t p is
kept_right g graph table safe s t Accepts is kept = absurd kept
kept_right g graph table safe s t Fails is kept = absurd kept

-- a token at which exits are kept is one at which the state acts
pub kept_none : {S : Type 0} (index : S → ℕ) (g : Grammar) (table : Table) (s : StIdx S) (tokens : List (TIdx S)) (place number : ℕ) → length tokens ≤ place
    → AreAllTokensOf index table s tokens → AreOtherTokens index tokens place number → ¬ (IsKeptBy g (action_of table (index s.0) number))
kept_none {S} index g table s tokens place number end all others kept =
    let token = all number (kept_acts g (action_of table (index s.0) number) kept) in
    let low = slice_get_within tokens token.0 token.1 token.2 in
    others token.0 token.1 (omega (arith, low, end)) token.2 token.3

-- the exits at the first tokens, if they are kept
abbrev pub ArePlacesAt : Grammar → Graph → Table → ℕ → List (List Exit) → Type 0
ArePlacesAt g graph table s lists =
    (t : ℕ) → t < length lists → IsKeptBy g (action_of table s t) → AreExitsFor g graph s (slice_index_or lists t [])

list_front : (lists : List (List Exit)) (exits : List Exit) (t : ℕ) → t < length lists → slice_index_or (lists ++ exits ∷ []) t [] ≡ slice_index_or lists t []
list_front [] exits t low = absurd (omega (arith, low))
list_front (x ∷ lists) exits zero low = refl
list_front (x ∷ lists) exits (suc t) low = list_front lists exits t (omega (arith, low))

list_end : (lists : List (List Exit)) (exits : List Exit) → slice_index_or (lists ++ exits ∷ []) (length lists) [] ≡ exits
list_end [] exits = refl
list_end (x ∷ lists) exits = list_end lists exits

one_longer : {X : Type 0} (xs : List X) (x : X) → length (xs ++ x ∷ []) ≡ length xs + 1
one_longer [] x = refl
one_longer (y ∷ xs) x = let more = one_longer xs x in omega (arith, more)

pub longer : {X : Type 0} (xs ys : List X) (x : X) (n : ℕ) → ys ≡ xs ++ x ∷ [] → length xs ≡ n → length ys ≡ n + 1
longer {X} xs ys x n is long = let now = ap (λ (l : List X). length l) is in let more = one_longer xs x in omega (arith, now, more, long)

pub places_pushed : (g : Grammar) (graph : Graph) (table : Table) (s n : ℕ) (lists : List (List Exit)) (exits : List Exit) → length lists ≡ n
    → (IsKeptBy g (action_of table s n) → AreExitsFor g graph s exits) → ArePlacesAt g graph table s lists → ArePlacesAt g graph table s (lists ++ exits ∷ [])
places_pushed g graph table s n lists exits long here before t low kept =
    let more = one_longer lists exits in
    elim (cases_lt t (length lists)) as (λ _. AreExitsFor g graph s (slice_index_or (lists ++ exits ∷ []) t [])) [
      | inl less ↦ subst (AreExitsFor g graph s) (sym (list_front lists exits t less)) (before t less kept)
      | inr past ↦
          let last : t ≡ length lists = omega (arith, low, past, more) in
          let at : IsKeptBy g (action_of table s n) = subst (λ (u : ℕ). IsKeptBy g (action_of table s u)) (last ∙ long) kept in
          subst (AreExitsFor g graph s) (sym (ap (λ (u : ℕ). slice_index_or (lists ++ exits ∷ []) u []) last ∙ list_end lists exits)) (here at)
    ]

pub places_all : (g : Grammar) (graph : Graph) (table : Table) (s n : ℕ) (lists : List (List Exit)) → length lists ≡ n → table.tokens ≤ n → FailsPastTokens table
    → ArePlacesAt g graph table s lists → (t : ℕ) → IsKeptBy g (action_of table s t) → AreExitsFor g graph s (slice_index_or lists t [])
places_all g graph table s n lists long end past places t kept =
    elim (cases_lt t table.tokens) as (λ _. AreExitsFor g graph s (slice_index_or lists t [])) [
      | inl low ↦ places t (omega (arith, low, end, long)) kept
      | inr high ↦ absurd (kept_acts g (action_of table s t) kept (past s t high))
    ]

-- the exits of the first states
abbrev pub ArePlacesOf : Grammar → Graph → Table → List StateExits → Type 0
ArePlacesOf g graph table states = (s : ℕ) (at : Option ℕ) → s < length states → AreKept g table s at → AreExitsFor g graph s (stored_of states s at)

state_front : (states : List StateExits) (new : StateExits) (s : ℕ) (at : Option ℕ) → s < length states → stored_of (states ++ new ∷ []) s at ≡ stored_of states s at
state_front [] new s at low = absurd (omega (arith, low))
state_front (x ∷ states) new zero (Some t) low = refl
state_front (x ∷ states) new zero None low = refl
state_front (x ∷ states) new (suc s) (Some t) low = state_front states new s (Some t) (omega (arith, low))
state_front (x ∷ states) new (suc s) None low = state_front states new s None (omega (arith, low))

state_end : (states : List StateExits) (new : StateExits) (at : Option ℕ) → stored_of (states ++ new ∷ []) (length states) at ≡ exits_at new at
state_end [] new (Some t) = refl
state_end [] new None = refl
state_end (x ∷ states) new (Some t) = state_end states new (Some t)
state_end (x ∷ states) new None = state_end states new None

kept_here : (g : Grammar) (graph : Graph) (table : Table) (s : ℕ) (is_goto : Bool) (new : StateExits) → HaveWaysAt g graph table s is_goto new
    → (IsGotoState table s → IsTrue is_goto) → (at : Option ℕ) → AreKept g table s at → AreExitsFor g graph s (exits_at new at)
kept_here g graph table s is_goto new places goto (Some t) kept = places.at (goto kept.0) t kept.1
kept_here g graph table s is_goto new places goto None kept = places.any

pub state_pushed : (g : Grammar) (graph : Graph) (table : Table) (s : ℕ) (is_goto : Bool) (states : List StateExits) (new : StateExits) → length states ≡ s
    → HaveWaysAt g graph table s is_goto new → (IsGotoState table s → IsTrue is_goto) → ArePlacesOf g graph table states
    → ArePlacesOf g graph table (states ++ new ∷ [])
state_pushed g graph table s is_goto states new long places goto before u at low kept =
    let more = one_longer states new in
    elim (cases_lt u (length states)) as (λ _. AreExitsFor g graph u (stored_of (states ++ new ∷ []) u at)) [
      | inl less ↦ subst (AreExitsFor g graph u) (sym (state_front states new u at less)) (before u at less kept)
      | inr past ↦
          let last : u ≡ length states = omega (arith, low, past, more) in
          let kept_s : AreKept g table s at = subst (λ (n : ℕ). AreKept g table n at) (last ∙ long) kept in
          let here : AreExitsFor g graph s (stored_of (states ++ new ∷ []) (length states) at) =
          subst (AreExitsFor g graph s) (sym (state_end states new at)) (kept_here g graph table s is_goto new places goto at kept_s) in
          subst (λ (n : ℕ). AreExitsFor g graph n (stored_of (states ++ new ∷ []) n at)) (sym last)
          (subst (λ (n : ℕ). AreExitsFor g graph n (stored_of (states ++ new ∷ []) (length states) at)) (sym long) here)
    ]

pub marked_goto : (table : Table) (marks : List Bool) (s : ℕ) (b : Bool) → b ≡ slice_index_or marks s false → ((next : ℕ) → IsGotoState table next → IsMarked marks next)
    → IsGotoState table s → IsTrue b
marked_goto table marks s b is all goto = is ∙ all s goto
