-- There is one first lexeme that has a fault.
use Rattle.std.proofs.Common.{◌≡◌, ◌<◌, ◌≤◌, ◌+◌, ◌⊎◌, ℕ, List, get_or, length, map, Some, None, inl, inr, sym, subst, ap, ◌∙◌, refl, arith}
use Rattle.std.specs.List.{slice_get}
use Rattle.std.proofs.lemmas.Bool.{cases_order, cases_lt}
use Rattle.std.specs.Option.{option_map}
use Rattle.std.proofs.lemmas.Option.{slice_get-map, slice_get_read, slice_get_within, same_Some}
use Rattle.lrpar_grammar.specs.Grammar.{Grammar, end_token}
use Rattle.lrpar_grammar.specs.Sentence.{LexemeFacts, HasBadToken, HasEarlyStart, HasGoodTokens, HasOrderedStarts, IsValidList, IsFirstBadToken, IsFirstEarlyStart}
use Rattle.lrpar_parse.specs.LexemeFault.{IsLexemeFault}
use Rattle.lrpar_parse.specs.declared.fault.ParseFault.TheVariants.{BadToken, StartsDecrease}

-- the start of the lexeme before lexeme i, or 0 before the first
abbrev pub IsPreviousStart : List LexemeFacts → ℕ → ℕ → Type 0
IsPreviousStart lexemes i start =
    ((i ≡ 0) × (start ≡ 0)) ⊎ ((j : ℕ) × (x : LexemeFacts) × (j + 1 ≡ i) × (slice_get lexemes j ≡ Some x) × (x.span.start ≡ start))

-- two facts of one place are one
same_facts : (lexemes : List LexemeFacts) (i : ℕ) (x y : LexemeFacts) → slice_get lexemes i ≡ Some x → slice_get lexemes i ≡ Some y → x ≡ y
same_facts lexemes i x y a b = same_Some x y (sym a ∙ b)

-- one good token more
pub good_more : (g : Grammar) (lexemes : List LexemeFacts) (i : ℕ) (x : LexemeFacts) → HasGoodTokens g lexemes i → slice_get lexemes i ≡ Some x → x.token < end_token g → HasGoodTokens g lexemes (i + 1)
good_more g lexemes i x good at below k y k_below y_at =
    elim (cases_order k i) [
      | inl same ↦ subst (λ z. z.token < end_token g) (same_facts lexemes i x y at (ap (slice_get lexemes) (sym same) ∙ y_at)) below
      | inr (inl before) ↦ good k y before y_at
      | inr (inr after) ↦ absurd (omega arith)
    ]

-- one ordered start more
pub ordered_more : (lexemes : List LexemeFacts) (i start : ℕ) (x : LexemeFacts) → HasOrderedStarts lexemes i → IsPreviousStart lexemes i start → slice_get lexemes i ≡ Some x → start ≤ x.span.start → HasOrderedStarts lexemes (i + 1)
ordered_more lexemes i start x ordered previous at later k y z k_below y_at z_at =
    elim (cases_order (k + 1) i) [
      | inl same ↦
          let here : z ≡ x = same_facts lexemes i z x (ap (slice_get lexemes) (sym same) ∙ z_at) at in
          elim previous [
            | inl none ↦ absurd (let zero : i ≡ 0 = none.0 in omega arith)
            | inr before ↦
                let place : before.0 ≡ k = let p : before.0 + 1 ≡ i = before.2 in omega arith in
                let front : before.1 ≡ y = same_facts lexemes k before.1 y (ap (slice_get lexemes) (sym place) ∙ before.3) y_at in
                let start_is : y.span.start ≡ start = ap (λ w. w.span.start) (sym front) ∙ before.4 in
                subst (λ w. y.span.start ≤ w.span.start) (sym here) (omega arith)
          ]
      | inr (inl before) ↦ ordered k y z before y_at z_at
      | inr (inr after) ↦ absurd (omega arith)
    ]

-- a start before the previous one is early
pub early_here : (lexemes : List LexemeFacts) (i start : ℕ) (x : LexemeFacts) → IsPreviousStart lexemes i start → slice_get lexemes i ≡ Some x → x.span.start < start → HasEarlyStart lexemes i
early_here lexemes i start x (inl none) at earlier = absurd (omega (arith, none.1))
early_here lexemes i start x (inr (j, before, place, before_at, is)) at earlier = (j, before, x, place, before_at, at, omega (arith, is))

-- good tokens rule out a bad one among them
not_bad : (g : Grammar) (lexemes : List LexemeFacts) (n k : ℕ) → HasGoodTokens g lexemes n → k < n → HasBadToken g lexemes k → ⊥
not_bad g lexemes n k good below (x, at, bad) = let fine : x.token < end_token g = good k x below at in absurd (omega arith)

-- ordered starts rule out an early one among them
not_early : (lexemes : List LexemeFacts) (n k : ℕ) → HasOrderedStarts lexemes n → k < n → HasEarlyStart lexemes k → ⊥
not_early lexemes n k ordered below (j, x, y, place, x_at, y_at, early) =
    let fine : x.span.start ≤ y.span.start = ordered j x y (omega arith) x_at (subst (λ m. slice_get lexemes m ≡ Some y) (sym place) y_at) in
    absurd (omega arith)

-- a lexeme with a fault is one of the list
bad_within : (g : Grammar) (lexemes : List LexemeFacts) (k : ℕ) → HasBadToken g lexemes k → k < length lexemes
bad_within g lexemes k (x, at, bad) = slice_get_within lexemes k x at

early_within : (lexemes : List LexemeFacts) (k : ℕ) → HasEarlyStart lexemes k → k < length lexemes
early_within lexemes k (j, x, y, place, x_at, y_at, early) = slice_get_within lexemes k y y_at

-- of two lexemes that are the first with a bad token, both are one
pub one_bad : (g : Grammar) (lexemes : List LexemeFacts) (i k : ℕ) → IsFirstBadToken g lexemes i → IsFirstBadToken g lexemes k → k ≡ i
one_bad g lexemes i k a b =
    elim (cases_order k i) [
      | inl same ↦ same
      | inr (inl before) ↦ absurd (not_bad g lexemes i k a.tokens before b.bad)
      | inr (inr after) ↦ absurd (not_bad g lexemes k i b.tokens after a.bad)
    ]

-- of two lexemes that are the first with an early start, both are one
pub one_early : (g : Grammar) (lexemes : List LexemeFacts) (i k : ℕ) → IsFirstEarlyStart g lexemes i → IsFirstEarlyStart g lexemes k → k ≡ i
one_early g lexemes i k a b =
    elim (cases_order k i) [
      | inl same ↦ same
      | inr (inl before) ↦ absurd (not_early lexemes i k a.starts before b.early)
      | inr (inr after) ↦ absurd (not_early lexemes k i b.starts after a.early)
    ]

-- the first fault is of one kind
pub one_kind : (g : Grammar) (lexemes : List LexemeFacts) (i k : ℕ) → IsFirstBadToken g lexemes i → IsFirstEarlyStart g lexemes k → ⊥
one_kind g lexemes i k a b =
    elim (cases_lt k i) [
      | inl before ↦ not_early lexemes i k a.starts before b.early
      | inr after ↦ not_bad g lexemes (k + 1) i b.tokens (omega arith) a.bad
    ]

-- a valid list has no bad token
pub valid_not_bad : (g : Grammar) (lexemes : List LexemeFacts) (i : ℕ) → IsValidList g lexemes → IsFirstBadToken g lexemes i → ⊥
valid_not_bad g lexemes i valid a = not_bad g lexemes (length lexemes) i valid.tokens (bad_within g lexemes i a.bad) a.bad

-- a valid list has no early start
pub valid_not_early : (g : Grammar) (lexemes : List LexemeFacts) (i : ℕ) → IsValidList g lexemes → IsFirstEarlyStart g lexemes i → ⊥
valid_not_early g lexemes i valid a = not_early lexemes (length lexemes) i valid.starts (early_within lexemes i a.early) a.early

-- the first bad token is the fault
pub bad_is_fault : (g : Grammar) (lexemes : List LexemeFacts) (i : ℕ) → IsFirstBadToken g lexemes i → IsLexemeFault g lexemes (Some (BadToken i))
bad_is_fault g lexemes i bad = record {
  bad_token = λ k. (λ e. let same : i ≡ k = cc in subst (IsFirstBadToken g lexemes) same bad, λ other. ap (λ n. Some (BadToken n)) (sym (one_bad g lexemes i k bad other)));
  starts_decrease = λ k. (λ e. cc, λ other. absurd (one_kind g lexemes i k bad other));
  none = (λ e. cc, λ valid. absurd (valid_not_bad g lexemes i valid bad));
}

-- the first early start is the fault
pub early_is_fault : (g : Grammar) (lexemes : List LexemeFacts) (i : ℕ) → IsFirstEarlyStart g lexemes i → IsLexemeFault g lexemes (Some (StartsDecrease i))
early_is_fault g lexemes i early = record {
  bad_token = λ k. (λ e. cc, λ other. absurd (one_kind g lexemes k i other early));
  starts_decrease = λ k. (λ e. let same : i ≡ k = cc in subst (IsFirstEarlyStart g lexemes) same early, λ other. ap (λ n. Some (StartsDecrease n)) (sym (one_early g lexemes i k early other)));
  none = (λ e. cc, λ valid. absurd (valid_not_early g lexemes i valid early));
}

-- a valid list has no fault
pub valid_has_no_fault : (g : Grammar) (lexemes : List LexemeFacts) → IsValidList g lexemes → IsLexemeFault g lexemes None
valid_has_no_fault g lexemes valid = record {
  bad_token = λ k. (λ e. cc, λ other. absurd (valid_not_bad g lexemes k valid other));
  starts_decrease = λ k. (λ e. cc, λ other. absurd (valid_not_early g lexemes k valid other));
  none = (λ _. valid, λ _. refl);
}

-- lexeme i is before the next one
pub next_previous : (lexemes : List LexemeFacts) (i start : ℕ) (x : LexemeFacts) → slice_get lexemes i ≡ Some x → start ≡ x.span.start → IsPreviousStart lexemes (i + 1) start
next_previous lexemes i start x at is = inr (i, x, refl, at, sym is)

-- Lexeme i is looked at. Those before it have no fault, and the last of them starts at `previous`.
module _ (g : Grammar) {X : Type 0} (facts : X → LexemeFacts) (lexemes : List X) (i previous : ℕ) (x : X) (below : i < length lexemes) (read : x ≡ get_or lexemes i x)
    (tokens : HasGoodTokens g (map facts lexemes) i) (starts : HasOrderedStarts (map facts lexemes) i) (before : IsPreviousStart (map facts lexemes) i previous) where
  fact_at : slice_get (map facts lexemes) i ≡ Some (facts x)
  fact_at = slice_get-map facts lexemes i ∙ ap (option_map facts) (slice_get_read lexemes (length lexemes) i x refl below read)

  -- its token is bad
  pub bad_here : end_token g ≤ (facts x).token → IsLexemeFault g (map facts lexemes) (Some (BadToken i))
  bad_here bad = bad_is_fault g (map facts lexemes) i (record { bad = (facts x, fact_at, bad); tokens = tokens; starts = starts })

  -- its token is good, but it starts too early
  pub starts_early : (facts x).token < end_token g → (facts x).span.start < previous → IsLexemeFault g (map facts lexemes) (Some (StartsDecrease i))
  starts_early good early =
      early_is_fault g (map facts lexemes) i (record {
        early = early_here (map facts lexemes) i previous (facts x) before fact_at early;
        tokens = good_more g (map facts lexemes) i (facts x) tokens fact_at good;
        starts = starts;
      })

  -- it has no fault
  pub no_fault_here : (start : ℕ) → start ≡ (facts x).span.start → (facts x).token < end_token g → previous ≤ (facts x).span.start
      → HasGoodTokens g (map facts lexemes) (i + 1) × HasOrderedStarts (map facts lexemes) (i + 1) × IsPreviousStart (map facts lexemes) (i + 1) start
  no_fault_here start is good later = (
    good_more g (map facts lexemes) i (facts x) tokens fact_at good,
    ordered_more (map facts lexemes) i previous (facts x) starts before fact_at later,
    next_previous (map facts lexemes) i start (facts x) fact_at is,
  )
