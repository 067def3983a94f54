-- Productions with the same numbers: the first of them, and the next one of each.
use Rattle.std.specs.Prelude.{◌≡◌, ◌<◌, ◌≤◌, ◌+◌, ℕ, List, drop, length, slice_index_or, take, Option, Some, None, Vec}
use Rattle.std.specs.BTreeMap.{BTreeMap, get_by}
use Rattle.std.specs.Borrow.{Bor}
use Rattle.std.specs.Cmp.Lexicographic.{slice_cmp}
use Rattle.std.specs.Ordering.{nat_cmp}
use Rattle.lrpar_grammar.specs.Spelled.{count_of, numbers_at}

-- production p has these numbers, and n earlier ones have them
pub record IsNthAt (prods : List (List ℕ)) (numbers : List ℕ) (n p : ℕ) : Type 0 where
  pub within : p < length prods
  pub is : numbers_at prods p ≡ numbers
  pub nth : count_of numbers (take p prods) ≡ n

-- the production with these numbers that n earlier ones have, if there is one
abbrev pub IsNth : List (List ℕ) → List ℕ → ℕ → Option ℕ → Type 0
IsNth prods numbers n None = count_of numbers prods ≤ n
IsNth prods numbers n (Some p) = IsNthAt prods numbers n p

-- the first production from number i on with these numbers, if there is one
abbrev pub IsFirstFrom : List (List ℕ) → List ℕ → ℕ → Option ℕ → Type 0
IsFirstFrom prods numbers i None = count_of numbers (drop i prods) ≡ 0
IsFirstFrom prods numbers i (Some p) = (i ≤ p) × IsNthAt prods numbers (count_of numbers (take i prods)) p

-- what a map from numbers of productions has at these numbers
abbrev pub found : BTreeMap (Bor (List ℕ)) ℕ → List ℕ → Option ℕ
found numbers q = get_by (λ k. slice_cmp nat_cmp q k.now) numbers

-- the map has, for all numbers, the first production from number i on that has them
abbrev pub AreFirstFrom : List (List ℕ) → ℕ → BTreeMap (Bor (List ℕ)) ℕ → Type 0
AreFirstFrom prods i first = (q : List ℕ) → IsFirstFrom prods q i (found first q)

-- from number i on, each production has the next one with the same numbers
abbrev pub AreNextFrom : List (List ℕ) → ℕ → List (Option ℕ) → Type 0
AreNextFrom prods i next =
    (p : ℕ) → i ≤ p → p < length prods → IsNth prods (numbers_at prods p) (count_of (numbers_at prods p) (take p prods) + 1) (slice_index_or next p None)

-- each number below `len` is at its place
abbrev pub AreOwnNumbers : {A : Type 0} → ℕ → Vec (Option ℕ) A → Type 0
AreOwnNumbers len numbers = (p : ℕ) → p < len → slice_index_or numbers.items p None ≡ Some p
