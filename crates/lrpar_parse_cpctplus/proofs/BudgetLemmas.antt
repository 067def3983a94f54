-- The budget of a parse: the shares of all places are together at most the total; at an error point there is one limit, and one answer.
use Rattle.std.proofs.Common.{◌≡◌, ◌<◌, ◌≤◌, ◌+◌, ◌-◌, ◌*◌, ◌/◌, ◌↔◌, ◌∙◌, inl, inr, ℕ, suc, Bool, true, false, IsTrue, List, ◌∷◌, [], ◌++◌, Option, Some, None, MatchOption, All, AllPairs, if◌then◌else◌, ap, length, min, nat_lt, refl, subst, sum_by, sym, arith}
use Rattle.std.proofs.Math.Nat.{div-le_self, div-mul-le_self, mul-le-mul_left, mul-le-mul_right, suc-mul}
use Rattle.std.proofs.lemmas.Bool.{cases_lt, le-ltb, lt-ltb}
use Rattle.std.proofs.lemmas.Nat.{le-div}
use Rattle.std.proofs.lemmas.List.Elements.{All-head, All-tail}
use Rattle.std.proofs.lemmas.List.Kept.{AllPairs-from_increasing}
use Rattle.std.proofs.lemmas.List.Sums.{sum_by-cons}
use Rattle.lrpar_grammar.specs.Grammar.{Grammar}
use Rattle.lrpar_table_rows.specs.Table.{Table}
use Rattle.lrpar_table_stacks.specs.Reduction.{Feeds}
use Rattle.lrpar_table_stacks.specs.Run.{Comes, comes_on, stays, token_at}
use Rattle.lrpar_table_stacks.proofs.RunLemmas.{feeds_one_way}
use Rattle.lrpar_parse_repair.specs.Asked.{Asked}
use Rattle.lrpar_parse_repair.specs.Sequences.{PlainStep, PlainShift, IsStepTaken}
use Rattle.lrpar_parse_cpctplus.specs.Budget.{AreListedWithin, IsFirstError, IsLimitAt, IsShare, ListedAtFirstError, ListedWithinAreOne, ListedWithoutTotal, SharesAreWithin, later_share, near, share_at}
use Rattle.lrpar_parse_cpctplus.specs.Listing.{AreListed, Settings}
use Rattle.lrpar_parse_cpctplus.proofs.ListingLemmas.{listed_are_one}
use Rattle.lrpar_parse_cpctplus.proofs.OrderLemmas.{pairs_head, pairs_tail}

-- as much for each of some places, which ascend from above a up to n
sum_each : (f : ℕ → ℕ) (each n first : ℕ) → ((place : ℕ) → first < place → place ≤ n → f place ≤ each) → (a : ℕ) → first ≤ a → (places : List ℕ)
    → AllPairs (λ x y. x < y) places → All (λ place. (a < place) × (place ≤ n)) places → sum_by f places ≤ (n - a) * each
sum_each f each n first later a past [] rise within = omega arith
sum_each f each n first later a past (place ∷ places) rise within =
    let here = All-head (λ p. (a < p) × (p ≤ n)) place places within in
    let rest = sum_each f each n first later place (omega (arith, past, here.0)) places (pairs_tail (λ x y. x < y) place places rise) (λ k d low.
    (pairs_head (λ x y. x < y) place places rise k d low, (All-tail (λ p. (a < p) × (p ≤ n)) place places within k d low).1)) in
    let one : f place ≤ each = later place (omega (arith, past, here.0)) here.1 in
    let more : suc (n - place) * each ≤ (n - a) * each = mul-le-mul_right each (omega (arith, here.0, here.1)) in
    omega (arith, sum_by-cons f place places, rest, one, more, suc-mul (n - place) each)

module _ (limit total n first : ℕ) where
  -- the share of each place after the first error
  abbrev Each : ℕ
  Each = later_share limit total (n - first)

  -- of more places each has no more
  less_each : 0 < n - first → later_share limit total n ≤ Each
  less_each some =
      let rest = total - min limit total in
      let under : rest / n * (n - first) ≤ rest / n * n = mul-le-mul_left (rest / n) (omega arith) in
      let less : rest / n ≤ rest / (n - first) = le-div (rest / n) rest (n - first) some (omega (arith, under, div-mul-le_self rest n)) in
      omega (arith, less)

  later_each : (place : ℕ) → first < place → place ≤ n → share_at limit total n first place ≤ Each
  later_each place past within =
      subst (λ (b : Bool). (if near total n place then (if b then Each else min limit total) else later_share limit total n) ≤ Each)
      (sym (lt-ltb first place past))
      (elim (near total n place) as (λ (b : Bool). (if b then Each else later_share limit total n) ≤ Each) [
        | true ↦ omega arith
        | false ↦ less_each (omega (arith, past, within))
      ])

  first_most : share_at limit total n first first ≤ min limit total
  first_most =
      subst (λ (b : Bool). (if near total n first then (if b then Each else min limit total) else later_share limit total n) ≤ min limit total)
      (sym (le-ltb first first (omega arith)))
      (elim (near total n first) as (λ (b : Bool). (if b then min limit total else later_share limit total n) ≤ min limit total) [
        | true ↦ omega arith
        | false ↦ omega (arith, div-le_self (total - min limit total) n)
      ])

  pub near_share : IsTrue (near total n first) → share_at limit total n first first ≡ min limit total
  near_share is =
      let inner = ap (λ (b : Bool). if b then Each else min limit total) (le-ltb first first (omega arith)) in
      ap (λ (b : Bool). if b then (if nat_lt first first then Each else min limit total) else later_share limit total n) is ∙ inner

  later_shares : (n - first) * Each ≤ total - min limit total
  later_shares =
      let least : Each ≤ (total - min limit total) / (n - first) = omega arith in
      omega (arith, mul-le-mul_right (n - first) least, div-mul-le_self (total - min limit total) (n - first))

  -- the shares of ascending places, of which the first one is this
  sum_from : (place : ℕ) (places : List ℕ) → AllPairs (λ x y. x < y) (place ∷ places) → All (λ p. (first ≤ p) × (p ≤ n)) (place ∷ places)
      → sum_by (share_at limit total n first) (place ∷ places) ≤ total
  sum_from place places rise within =
      let f = share_at limit total n first in
      let here = All-head (λ p. (first ≤ p) × (p ≤ n)) place places within in
      let rest = sum_each f Each n first later_each place here.0 places (pairs_tail (λ x y. x < y) place places rise) (λ k d low.
      (pairs_head (λ x y. x < y) place places rise k d low, (All-tail (λ p. (first ≤ p) × (p ≤ n)) place places within k d low).1)) in
      let sum = sum_by-cons f place places in
      elim (cases_lt first place) as (λ _. sum_by f (place ∷ places) ≤ total) [
        | inl past ↦
            let less : suc (n - place) * Each ≤ (n - first) * Each = mul-le-mul_right Each (omega (arith, past, here.1)) in
            omega (arith, sum, rest, later_each place past here.1, later_shares, less, suc-mul (n - place) Each)
        | inr least ↦
            let same : first ≡ place = omega (arith, least, here.0) in
            let one : f place ≤ min limit total = subst (λ (p : ℕ). f p ≤ min limit total) same first_most in
            let less : (n - place) * Each ≤ (n - first) * Each = mul-le-mul_right Each (omega (arith, same)) in
            omega (arith, sum, rest, one, later_shares, less)
      ]

pub shares_are_within : SharesAreWithin
shares_are_within limit total n first [] rise within = omega arith
shares_are_within limit total n first (place ∷ places) rise within =
    sum_from limit total n first place places (AllPairs-from_increasing (place ∷ places) rise) within

module _ {X : Type 0} (token : X → ℕ) (g : Grammar) (table : Table) (lexemes : List X) where
  -- a lexeme was fed, and then those from the next one on
  pub comes_fed : (st next : List ℕ) (i j : ℕ) (o : Option ℕ) → IsStepTaken token g table lexemes st i PlainShift next o → o ≡ Some j
      → (after : List ℕ) (k : ℕ) (ps : List ℕ) → Comes token g table lexemes next (i + 1) ps after k
      → (qs : List ℕ) × Comes token g table lexemes st i qs after k
  comes_fed st next i j o by is after k ps rest =
      let step = subst (λ (p : Option ℕ). IsStepTaken token g table lexemes st i PlainShift next p) is by in
      (step.0 ++ ps, comes_on st i step.0 ps next after k step.1.0 step.1.1 rest)

  -- it can't be fed
  pub stops_there : (st next : List ℕ) (i : ℕ) (o : Option ℕ) → i < length lexemes → IsStepTaken token g table lexemes st i PlainShift next o → o ≡ None
      → (ps after : List ℕ) → ¬ (Feeds g table (token_at token g lexemes i) st ps after)
  stops_there st next i o inside by is ps after feeds =
      let fails = subst (λ (p : Option ℕ). IsStepTaken token g table lexemes st i PlainShift next p) is by in
      fails ps after (i + 1) (inside, feeds, refl)

  comes_up : (st : List ℕ) (i : ℕ) (ps after : List ℕ) (j : ℕ) → Comes token g table lexemes st i ps after j → i ≤ j
  comes_up _ _ _ _ _ (stays st i) = omega arith
  comes_up _ _ _ _ _ (comes_on st i ps qs next after j inside feeds rest) =
      let more = comes_up next (i + 1) qs after j rest in omega (arith, more)

  -- of two runs from a stack one feeds the lexeme at which the other one ends
  comes_past : (st : List ℕ) (i : ℕ) (ps a : List ℕ) (p : ℕ) (qs b : List ℕ) (q : ℕ) → Comes token g table lexemes st i ps a p
      → Comes token g table lexemes st i qs b q → p < q → (rs next : List ℕ) × Feeds g table (token_at token g lexemes p) a rs next
  comes_past _ _ _ _ _ _ _ _ (stays st i) (stays st' i') less = absurd (omega (arith, less))
  comes_past _ _ _ _ _ _ _ _ (stays st i) (comes_on st' i' ps qs next after j inside feeds rest) less = (ps, next, feeds)
  comes_past _ _ _ _ _ _ _ _ (comes_on st i ps qs next after j inside feeds rest) (stays st' i') less =
      absurd (omega (arith, less, comes_up next (i + 1) qs after j rest))
  comes_past _ _ _ _ _ _ _ _ (comes_on st i ps qs next after j inside feeds rest) (comes_on st' i' ps' qs' next' after' j' inside' feeds' rest') less =
      let same = feeds_one_way g table (token_at token g lexemes i) st ps next ps' next' feeds feeds' in
      comes_past next (i + 1) qs after j qs' after' j' rest
      (subst (λ (l : List ℕ). Comes token g table lexemes l (i + 1) qs' after' j') (sym same.1) rest') less

module _ {X : Type 0} (token : X → ℕ) (at : Asked X) where
  none_before : (m n : ℕ) → IsFirstError token at m → IsFirstError token at n → ¬ (m < n)
  none_before m n one other less =
      let fed = comes_past token at.checked.grammar at.checked.table at.lexemes (at.checked.table.start ∷ []) 0 one.fed.0 one.stack m other.fed.0 other.stack n
      one.fed.1 other.fed.1 less in
      one.stops (omega (arith, less, other.within)) fed.0 fed.1 fed.2

  -- there is one first error
  one_first : (m n : ℕ) → IsFirstError token at m → IsFirstError token at n → m ≡ n
  one_first m n one other =
      elim (cases_lt m n) as (λ _. m ≡ n) [
        | inl less ↦ absurd (none_before m n one other less)
        | inr least ↦ elim (cases_lt n m) as (λ _. m ≡ n) [
          | inl less ↦ absurd (none_before n m other one less)
          | inr also ↦ omega (arith, least, also)
        ]
      ]

  one_known : (limit total n m k : ℕ) (b : Bool) → (IsTrue b → IsFirstError token at m) → (IsTrue b → IsFirstError token at k)
      → (if b then (if nat_lt m at.place then later_share limit total (n - m) else min limit total) else later_share limit total n)
      ≡ (if b then (if nat_lt k at.place then later_share limit total (n - k) else min limit total) else later_share limit total n)
  one_known limit total n m k true one other =
      ap (λ (first : ℕ). if nat_lt first at.place then later_share limit total (n - first) else min limit total) (one_first m k (one refl) (other refl))
  one_known limit total n m k false one other = refl

  one_share : (limit total a b : ℕ) → IsShare token limit total at a → IsShare token limit total at b → a ≡ b
  one_share limit total a b one other =
      one.2 ∙ one_known limit total (length at.lexemes) one.0 other.0 (near total (length at.lexemes) at.place) one.1 other.1 ∙ sym other.2

  one_limit_of : (limit : ℕ) (total : Option ℕ) (a b : ℕ) → MatchOption total (a ≡ limit) (λ t. IsShare token limit t at a)
      → MatchOption total (b ≡ limit) (λ t. IsShare token limit t at b) → a ≡ b
  one_limit_of limit None a b one other = one ∙ sym other
  one_limit_of limit (Some total) a b one other = one_share limit total a b one other

-- so there is one answer
pub listed_within_are_one : {X : Type 0} → ListedWithinAreOne X
listed_within_are_one token settings at xs ys one other =
    let same = one_limit_of token at settings.limit settings.total one.0 other.0 one.1 other.1 in
    listed_are_one token (record settings { limit = one.0 }) at xs ys one.2
    (subst (λ (n : ℕ). AreListed token (record settings { limit = n }) at ys) (sym same) other.2)

-- an answer is that for the limit, if that is the limit at the error point
listed_by_limit : {X : Type 0} (token : X → ℕ) (settings : Settings) (at : Asked X) → IsLimitAt token settings at settings.limit
    → (answer : List (List PlainStep)) → AreListedWithin token settings at answer ↔ AreListed token settings at answer
listed_by_limit token settings at is answer = (
  λ within.
      let same = one_limit_of token at settings.limit settings.total within.0 settings.limit within.1 is in
      subst (λ (n : ℕ). AreListed token (record settings { limit = n }) at answer) same within.2,
  λ listed. (settings.limit, is, listed),
)

pub listed_without_total : {X : Type 0} → ListedWithoutTotal X
listed_without_total token settings at answer none =
    listed_by_limit token settings at
    (subst (λ (o : Option ℕ). MatchOption o (settings.limit ≡ settings.limit) (λ total. IsShare token settings.limit total at settings.limit)) (sym none) refl) answer

pub listed_at_first_error : {X : Type 0} → ListedAtFirstError X
listed_at_first_error token settings at answer total some enough close first =
    let least : settings.limit ≡ min settings.limit total = omega (arith, enough) in
    let share : IsShare token settings.limit total at settings.limit = (at.place, λ _. first, least ∙ sym (near_share settings.limit total (length at.lexemes) at.place close)) in
    listed_by_limit token settings at
    (subst (λ (o : Option ℕ). MatchOption o (settings.limit ≡ settings.limit) (λ t. IsShare token settings.limit t at settings.limit)) (sym some) share) answer
