-- Sets of tokens, as they are changed.
use Rattle.std.proofs.Common.{◌≡◌, ◌≢◌, ◌<◌, ◌≤◌, ◌+◌, ◌∙◌, ◌||◌, ◌==◌, inl, inr, refl, sym, ap, subst, arith, ℕ, zero, suc, Bool, true, false, List, [], ◌∷◌, ◌++◌, get_or, length}
use Rattle.std.proofs.Math.ListN.{set}
use Rattle.std.specs.Prelude.{IsTrue}
use Rattle.std.proofs.lemmas.Bool.{cases_eq, cases_lt}
use Rattle.std.proofs.lemmas.Bool.Decides.{eqb_tells}
use Rattle.lrpar_grammar.specs.Tokens.{IsEmptySet, PutsToken, has, missing}
use Rattle.lrpar_grammar.proofs.TokenSetLemmas.{fewer_missing}
use Rattle.lrpar_table_pops.specs.Growth.{KeepRoom}
use Rattle.lrpar_table_pops.specs.Sets.{HaveNoTokens, tokens_by}

-- a token more is a place less
pub put_room : (old new : List Bool) (token : ℕ) → length new ≡ length old → PutsToken old new token → has old token ≡ false
    → missing new < missing old
put_room old new token long puts absent =
    let here : has new token ≡ (token == token) = puts token ∙ ap (λ (b : Bool). b || token == token) absent in
    let itself : (token == token) ≡ true = elim (eqb_tells token token) as (λ _. (token == token) ≡ true) [ inl same ↦ same.0 | inr other ↦ absurd (other.1 refl) ] in
    fewer_missing old new (sym long) (λ t is. puts t ∙ ap (λ (b : Bool). b || t == token) is)
    (λ same. let no : true ≡ false = sym itself ∙ sym here ∙ sym (ap (λ (bits : List Bool). has bits token) same) ∙ absent in absurd (let none : ⊥ = cc in none))

-- an empty set has no token
empty_none : (bits : List Bool) → IsEmptySet bits → (t : ℕ) → ¬ (IsTrue (has bits t))
empty_none bits empty t is = let no : true ≡ false = sym is ∙ empty t in absurd (let none : ⊥ = cc in none)

-- past the last set there is none
pub none_past : (sets : List (List Bool)) (r : ℕ) → length sets ≤ r → tokens_by sets r ≡ []
none_past [] r past = refl
none_past (x ∷ sets) zero past = absurd (omega (arith, past))
none_past (x ∷ sets) (suc r) past = none_past sets r (omega (arith, past))

-- one more empty set
pub none_pushed : (sets : List (List Bool)) (bits : List Bool) → HaveNoTokens sets → IsEmptySet bits → HaveNoTokens (sets ++ bits ∷ [])
none_pushed [] bits none empty zero t is = empty_none bits empty t is
none_pushed [] bits none empty (suc r) t is = let no : false ≡ true = is in absurd (let never : ⊥ = cc in never)
none_pushed (x ∷ sets) bits none empty zero t is = none zero t is
none_pushed (x ∷ sets) bits none empty (suc r) t is = none_pushed sets bits (λ q. none (suc q)) empty r t is

-- the first sets are empty
abbrev pub AreEmptyUpTo : List (List Bool) → ℕ → Type 0
AreEmptyUpTo sets n = (r : ℕ) → r < n → IsEmptySet (tokens_by sets r)

-- the tokens of a set that was replaced, and of the others
pub tokens_set : (sets : List (List Bool)) (i : ℕ) (bits : List Bool) → i < length sets → tokens_by (set sets i bits) i ≡ bits
tokens_set [] i bits low = absurd (omega (arith, low))
tokens_set (x ∷ sets) zero bits low = refl
tokens_set (x ∷ sets) (suc i) bits low = tokens_set sets i bits (omega (arith, low))

pub tokens_kept : (sets : List (List Bool)) (i r : ℕ) (bits : List Bool) → r ≢ i → tokens_by (set sets i bits) r ≡ tokens_by sets r
tokens_kept [] i r bits other = refl
tokens_kept (x ∷ sets) zero zero bits other = absurd (other refl)
tokens_kept (x ∷ sets) zero (suc r) bits other = refl
tokens_kept (x ∷ sets) (suc i) zero bits other = refl
tokens_kept (x ∷ sets) (suc i) (suc r) bits other = tokens_kept sets i r bits (λ same. other (ap suc same))

pub empty_more : (sets : List (List Bool)) (n : ℕ) (bits : List Bool) → n < length sets → AreEmptyUpTo sets n → IsEmptySet bits
    → AreEmptyUpTo (set sets n bits) (n + 1)
empty_more sets n bits low before empty r below =
    elim (cases_eq r n) as (λ _. IsEmptySet (tokens_by (set sets n bits) r)) [
      | inl here ↦
          subst (λ (k : ℕ). IsEmptySet (tokens_by (set sets n bits) k)) (sym here) (subst IsEmptySet (sym (tokens_set sets n bits low)) empty)
      | inr other ↦ subst IsEmptySet (sym (tokens_kept sets n r bits other)) (before r (omega (arith, below, other)))
    ]

pub all_empty : (sets : List (List Bool)) (n : ℕ) → length sets ≤ n → AreEmptyUpTo sets n → HaveNoTokens sets
all_empty sets n all empty r t is =
    elim (cases_lt r n) as (λ _. ⊥) [
      | inr past ↦
          let none : has [] t ≡ true = subst (λ (bits : List Bool). has bits t ≡ true) (none_past sets r (omega (arith, past, all))) is in
          absurd (let never : ⊥ = cc in never)
      | inl low ↦ empty_none (tokens_by sets r) (empty r low) t is
    ]

-- the set that was there
pub set_there : (sets : List (List Bool)) (i : ℕ) (old : List Bool) → i < length sets → old ≡ get_or sets i old → tokens_by sets i ≡ old
set_there [] i old low there = absurd (omega (arith, low))
set_there (x ∷ sets) zero old low there = sym there
set_there (x ∷ sets) (suc i) old low there = set_there sets i old (omega (arith, low)) there

-- a set was replaced by one with as much room
pub room_kept : (sets : List (List Bool)) (i : ℕ) (old new : List Bool) → i < length sets → old ≡ get_or sets i old → length new ≡ length old
    → KeepRoom sets (set sets i new)
room_kept sets i old new low there long r =
    elim (cases_eq r i) as (λ _. length (tokens_by (set sets i new) r) ≡ length (tokens_by sets r)) [
      | inl here ↦
          let now : length (tokens_by (set sets i new) i) ≡ length new = ap (λ (l : List Bool). length l) (tokens_set sets i new low) in
          let was : length (tokens_by sets i) ≡ length old = ap (λ (l : List Bool). length l) (set_there sets i old low there) in
          subst (λ (k : ℕ). length (tokens_by (set sets i new) k) ≡ length (tokens_by sets k)) (sym here) (now ∙ long ∙ sym was)
      | inr other ↦ ap (λ (l : List Bool). length l) (tokens_kept sets i r new other)
    ]

-- one more set with room
pub room_pushed : (sets : List (List Bool)) (bits : List Bool) (n count : ℕ) → length sets ≡ count → ((r : ℕ) → r < count → length (tokens_by sets r) ≡ n)
    → length bits ≡ n → (r : ℕ) → r < count + 1 → length (tokens_by (sets ++ bits ∷ []) r) ≡ n
room_pushed sets bits n count long before here r below =
    elim (cases_lt r count) as (λ _. length (tokens_by (sets ++ bits ∷ []) r) ≡ n) [
      | inl low ↦ ap (λ (l : List Bool). length l) (front sets r (omega (arith, long, low))) ∙ before r low
      | inr past ↦
          let last : r ≡ length sets = omega (arith, past, below, long) in
          subst (λ (k : ℕ). length (tokens_by (sets ++ bits ∷ []) k) ≡ n) (sym last) (ap (λ (l : List Bool). length l) (end sets) ∙ here)
    ]
  where
    front : (l : List (List Bool)) (k : ℕ) → k < length l → tokens_by (l ++ bits ∷ []) k ≡ tokens_by l k
    front [] k low = absurd (omega (arith, low))
    front (x ∷ l) zero low = refl
    front (x ∷ l) (suc k) low = front l k (omega (arith, low))

    end : (l : List (List Bool)) → tokens_by (l ++ bits ∷ []) (length l) ≡ bits
    end [] = refl
    end (x ∷ l) = end l
