-- The budget of a parse: how many configurations a search may keep at an error point, of those that all searches of the parse may.
use Rattle.std.specs.Prelude.{◌≡◌, ◌<◌, ◌≤◌, ◌↔◌, ◌-◌, ◌/◌, ℕ, List, Some, None, MatchOption, Bool, IsTrue, if◌then◌else◌, All, length, min, nat_le, nat_lt, sum_by}
use Rattle.std.specs.List.Sorted.{IsStrictlyIncreasing}
use Rattle.lrpar_table_stacks.specs.Reduction.{Feeds}
use Rattle.lrpar_table_stacks.specs.Run.{token_at}
use Rattle.lrpar_table_check.specs.ExpectedRuns.{FeedsFront}
use Rattle.lrpar_parse_repair.specs.Asked.{Asked}
use Rattle.lrpar_parse_repair.specs.Sequences.{PlainStep}
use Rattle.lrpar_parse_cpctplus.specs.Listing.{AreListed, Settings}

-- what each of some places after the first error may use of a total: an equal part of what the first one leaves, up to the limit
abbrev pub later_share : ℕ → ℕ → ℕ → ℕ
later_share limit total places = min limit ((total - min limit total) / places)

-- Whether the first error of a parse of n lexemes is looked for at an error at the place: only where its lexemes are so few that all that
-- are parsed for it, at n errors, are some eight for each configuration of the total.
abbrev pub near : ℕ → ℕ → ℕ → Bool
near total n place = nat_le (place / 8) (total / n)

-- What the error at a place may use of a total, if a parse of n lexemes has its first error at the place `first`: the first error up to
-- the limit, and each place after it an equal share. Where the first error isn't looked for, each place has as much as if all came after it.
abbrev pub share_at : ℕ → ℕ → ℕ → ℕ → ℕ → ℕ
share_at limit total n first place =
    if near total n place then (if nat_lt first place then later_share limit total (n - first) else min limit total) else later_share limit total n

-- Whichever places errors have, from that of the first one on, in ascending order, their shares are together at most the total.
abbrev pub SharesAreWithin : Type 0
SharesAreWithin =
    (limit total n first : ℕ) (places : List ℕ) → IsStrictlyIncreasing places → All (λ place. (first ≤ place) × (place ≤ n)) places
    → sum_by (share_at limit total n first) places ≤ total

-- The place of a parse's first error, as it is known at an error point: all lexemes before it can be fed from the start on; and it is
-- the place of the error point, or its lexeme can't be fed.
pub record IsFirstError {X : Type 0} (token : X → ℕ) (at : Asked X) (first : ℕ) : Type 0 where
  pub stack : List ℕ
  pub fed : FeedsFront token at.checked.grammar at.checked.table at.lexemes first stack
  pub within : first ≤ at.place
  pub stops : first < at.place → (ps next : List ℕ)
      → ¬ (Feeds at.checked.grammar at.checked.table (token_at token at.checked.grammar at.lexemes first) stack ps next)

-- the place is that of the first error, if this is looked for
abbrev pub IsKnownFirst : {X : Type 0} → (X → ℕ) → ℕ → Asked X → ℕ → Type 0
IsKnownFirst token total at first = IsTrue (near total (length at.lexemes) at.place) → IsFirstError token at first

-- what the error point may use of the total, up to the limit
abbrev pub IsShare : {X : Type 0} → (X → ℕ) → ℕ → ℕ → Asked X → ℕ → Type 0
IsShare token limit total at share =
    (first : ℕ) × IsKnownFirst token total at first × (share ≡ share_at limit total (length at.lexemes) first at.place)

module _ {X : Type 0} (token : X → ℕ) (settings : Settings) (at : Asked X) where
  -- how many configurations may be kept at the error point: the limit, or its share of a total
  abbrev pub IsLimitAt : ℕ → Type 0
  IsLimitAt limit = MatchOption settings.total (limit ≡ settings.limit) (λ total. IsShare token settings.limit total at limit)

  -- the answer is that which is listed with so many configurations
  abbrev pub AreListedWithin : List (List PlainStep) → Type 0
  AreListedWithin answer = (limit : ℕ) × IsLimitAt limit × AreListed token (record settings { limit = limit }) at answer

-- at an error point there is one answer
abbrev pub ListedWithinAreOne : Type 0 → Type 0
ListedWithinAreOne X =
    (token : X → ℕ) (settings : Settings) (at : Asked X) (xs ys : List (List PlainStep))
    → AreListedWithin token settings at xs → AreListedWithin token settings at ys → xs ≡ ys

-- without a total each answer is that for the limit
abbrev pub ListedWithoutTotal : Type 0 → Type 0
ListedWithoutTotal X =
    (token : X → ℕ) (settings : Settings) (at : Asked X) (answer : List (List PlainStep)) → settings.total ≡ None
    → AreListedWithin token settings at answer ↔ AreListed token settings at answer

-- at the first error of a parse each answer is that for the limit, if the total isn't less, and the first error is looked for there
abbrev pub ListedAtFirstError : Type 0 → Type 0
ListedAtFirstError X =
    (token : X → ℕ) (settings : Settings) (at : Asked X) (answer : List (List PlainStep)) (total : ℕ) → settings.total ≡ Some total
    → settings.limit ≤ total → IsTrue (near total (length at.lexemes) at.place) → IsFirstError token at at.place
    → AreListedWithin token settings at answer ↔ AreListed token settings at answer
