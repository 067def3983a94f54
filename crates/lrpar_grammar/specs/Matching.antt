-- Productions and the texts so far, each text at its production.
use Rattle.std.specs.Prelude.{◌≡◌, ◌<◌, ◌≤◌, ℕ, List, IsSome, length, map, slice_index_or, take, Option, Some, None}
use Rattle.std.specs.BTreeMap.{BTreeMap}
use Rattle.std.specs.Borrow.{Bor}
use Rattle.lrpar_grammar.specs.declared.grammar.matching.Matching.{Matching}
use Rattle.lrpar_grammar.specs.declared.grammar.matching.Misfit.{Misfit}
use Rattle.lrpar_grammar.specs.declared.grammar.matching.Misfit.TheVariants.{Unknown, Repeated, Memory}
use Rattle.lrpar_grammar.specs.SameProds.{AreFirstFrom, AreNextFrom, IsNth, found}
use Rattle.lrpar_grammar.specs.Spelled.{IsTextOfSome, IsTextOf, count_of, numbers_at}

-- the place of a production's text; if there is none, the texts so far that spell it are for earlier productions
abbrev pub IsTextIndexOf : List (List ℕ) → List (List ℕ) → ℕ → Option ℕ → Type 0
IsTextIndexOf prods texts p None = count_of (numbers_at prods p) texts ≤ count_of (numbers_at prods p) (take p prods)
IsTextIndexOf prods texts p (Some t) = IsTextOf prods texts p t

-- The texts so far are at the places of their productions. Of productions with the same numbers, `free` has at the first the one
-- that gets the next text.
pub record AreMatched (prods texts : List (List ℕ)) (first : BTreeMap (Bor (List ℕ)) ℕ) (next free places : List (Option ℕ)) : Type 0 where
  pub first_are : AreFirstFrom prods 0 first
  pub next_len : length next ≡ length prods
  pub next_are : AreNextFrom prods 0 next
  pub free_len : length free ≡ length prods
  pub free_are : (q : List ℕ) (p : ℕ) → found first q ≡ Some p → IsNth prods q (count_of q texts) (slice_index_or free p None)
  pub texts_len : length places ≡ length prods
  pub texts_are : (p : ℕ) → p < length prods → IsTextIndexOf prods texts p (slice_index_or places p None)
  pub taken : (t : ℕ) → t < length texts → IsTextOfSome prods places t

-- the productions of a matching
abbrev pub prods_of : Matching → List (List ℕ)
prods_of m = map (λ x. x.items) m.prods.now

-- the texts so far
abbrev pub texts_of : Matching → List (List ℕ)
texts_of m = map (λ x. x.items) m.texts.items

-- the texts so far are at the places of their productions
abbrev pub IsMatched : Matching → Type 0
IsMatched m = AreMatched (prods_of m) (texts_of m) m.first m.next.items m.free.items m.places.items

-- why a text is refused: no production has its numbers; or each that has them has a text already; or an allocation failed
abbrev pub IsMisfit : List (List ℕ) → List (List ℕ) → List ℕ → Misfit → Type 0
IsMisfit prods texts numbers Unknown = count_of numbers prods ≡ 0
IsMisfit prods texts numbers Repeated = (0 < count_of numbers prods) × (count_of numbers prods ≤ count_of numbers texts)
IsMisfit prods texts numbers Memory = Unit {0}

-- the first n productions have places
abbrev pub HaveTexts : List (Option ℕ) → ℕ → Type 0
HaveTexts places n = (p : ℕ) → p < n → IsSome (slice_index_or places p None)

-- production p is the first that has no place
pub record IsFirstWithout (places : List (Option ℕ)) (p : ℕ) : Type 0 where
  pub within : p < length places
  pub none : slice_index_or places p None ≡ None
  pub first : HaveTexts places p

-- each production of the matching has a place
abbrev pub HasAllTexts : Matching → Type 0
HasAllTexts m = HaveTexts m.places.items (length m.places.items)
