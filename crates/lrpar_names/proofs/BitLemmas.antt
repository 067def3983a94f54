-- Tests and bits, and sets of tokens.
use Rattle.std.proofs.Common.{◌≡◌, ℕ, ◌<◌, ◌≤◌, ◌==◌, ◌||◌, ◌⊎◌, Bool, true, false, List, [], ◌∷◌, ◌++◌, length, inl, inr, sym, subst, ◌∙◌, refl, arith, eqb-true, eq-eqb}
use Rattle.std.specs.List.{Contains}
use Rattle.std.proofs.lemmas.Bool.{cases_lt, false≢true}
use Rattle.std.proofs.lemmas.List.{get_or_past}
use Rattle.std.proofs.lemmas.List.Elements.{Contains-append_left, Contains-push, Contains-push_cases}
use Rattle.lrpar_grammar.specs.Tokens.{PutsToken, has}
use Rattle.lrpar_names.specs.Choosing.{AreTokensBelow}

pub or_none : (b : Bool) → (b || false) ≡ b
or_none true = refl
or_none false = refl

pub or_left : (a b : Bool) → a ≡ true → (a || b) ≡ true
or_left true b is = refl
or_left false b is = absurd (false≢true is)

pub or_right : (a b : Bool) → b ≡ true → (a || b) ≡ true
or_right true b is = refl
or_right false b is = is

pub or_cases : (a b : Bool) → (a || b) ≡ true → (a ≡ true) ⊎ (b ≡ true)
or_cases true b is = inl refl
or_cases false b is = inr is

-- a token of a set is within its room
pub in_room : (bits : List Bool) (t : ℕ) → has bits t ≡ true → t < length bits
in_room bits t is = elim (cases_lt t (length bits)) [
  | inl within ↦ within
  | inr past ↦ absurd (false≢true (sym (get_or_past bits t false past) ∙ is))
]

-- one token more
pub set_with : (len : ℕ) (tokens : List ℕ) (old new : List Bool) (t : ℕ) → length new ≡ length old → PutsToken old new t → t < len
    → AreTokensBelow len tokens old → AreTokensBelow len (tokens ++ t ∷ []) new
set_with len tokens old new t same puts within are = record {
  room = same ∙ are.room;
  exact = λ q. (
    λ is. elim (or_cases (has old q) (q == t) (sym (puts q) ∙ is)) [
      | inl was ↦ let both = (are.exact q).0 was in (both.0, Contains-append_left tokens (t ∷ []) q both.1)
      | inr now ↦ let here : q ≡ t = eqb-true q t now in
          (omega arith, subst (Contains (tokens ++ t ∷ [])) (sym here) (Contains-push tokens t))
    ],
    λ both. elim (Contains-push_cases tokens t q both.1) [
      | inl before ↦ puts q ∙ or_left (has old q) (q == t) ((are.exact q).1 (both.0, before))
      | inr here ↦ puts q ∙ or_right (has old q) (q == t) (eq-eqb q t (sym here))
    ],
  );
}

-- a token for which there is no room
pub set_without : (len : ℕ) (tokens : List ℕ) (bits : List Bool) (t : ℕ) → len ≤ t → AreTokensBelow len tokens bits
    → AreTokensBelow len (tokens ++ t ∷ []) bits
set_without len tokens bits t past are = record {
  room = are.room;
  exact = λ q. (
    λ is. let both = (are.exact q).0 is in (both.0, Contains-append_left tokens (t ∷ []) q both.1),
    λ both. elim (Contains-push_cases tokens t q both.1) [
      | inl before ↦ (are.exact q).1 (both.0, before)
      | inr here ↦ let less : q < len = both.0 in absurd (omega arith)
    ],
  );
}
