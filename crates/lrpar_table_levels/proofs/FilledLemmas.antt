-- Slots that are filled from entries, one by one.
use Rattle.std.proofs.Common.{◌≡◌, ◌≢◌, ◌<◌, ◌≤◌, ◌+◌, ◌++◌, ◌∷◌, ◌==◌, ◌∙◌, ℕ, suc, Bool, true, false, cond, nat_eq, List, [], Option, Some, None, refl, sym, ap, subst, arith, inl, inr, length, set, add-zero, zero-add, take, drop, slice_index_or}
use Rattle.std.specs.Map.{keys_of, lookup}
use Rattle.std.specs.Option.{is_some, option_or}
use Rattle.std.proofs.Math.Seq.{drop-cons}
use Rattle.std.proofs.lemmas.Bool.{cases_eq, eq-eqb, ne_eqb}
use Rattle.std.proofs.lemmas.Grind.{get_or-set_at}
use Rattle.std.proofs.lemmas.List.{get_or-set_other, map-append, take-append-drop, take_more}
use Rattle.std.proofs.lemmas.List.Sums.{sum_by-append, sum_by-cons}
use Rattle.lrpar_table_precedence.specs.declared.precedence.Precedence.{Precedence}
use Rattle.lrpar_table_precedence.specs.Precedence.{slot_at}
use Rattle.lrpar_table_levels.specs.Filled.{AreFilled}
use Rattle.lrpar_table_levels.specs.Levels.{count_in}

-- a key in entries, and in one more
pub lookup_push : {K : Type 0} (test : K → Bool) (es : List (K × Precedence)) (e : K × Precedence)
    → lookup test (es ++ e ∷ []) ≡ option_or (lookup test es) (cond (test e.0) (Some e.1) None)
lookup_push test [] e = refl
lookup_push test (d ∷ es) e =
    elim (test d.0) as (λ b. cond b (Some d.1) (lookup test (es ++ e ∷ [])) ≡ option_or (cond b (Some d.1) (lookup test es)) (cond (test e.0) (Some e.1) None)) [
      | true ↦ refl
      | false ↦ lookup_push test es e
    ]

-- nothing more
pub or_none : (o : Option Precedence) → option_or o None ≡ o
or_none None = refl
or_none (Some x) = refl

-- how often a number is in entries, one after another
times_append : (n : ℕ) (es fs : List (ℕ × Precedence))
    → count_in (keys_of (es ++ fs)) n ≡ count_in (keys_of es) n + count_in (keys_of fs) n
times_append n es fs =
    ap (λ ks. count_in ks n) (map-append (λ e. e.0) es fs) ∙ sum_by-append (λ k. cond (k == n) 1 0) (keys_of es) (keys_of fs)

times_same : (n : ℕ) (e : ℕ × Precedence) (es : List (ℕ × Precedence)) → e.0 ≡ n → count_in (keys_of (e ∷ es)) n ≡ 1 + count_in (keys_of es) n
times_same n e es same =
    sum_by-cons (λ k. cond (k == n) 1 0) e.0 (keys_of es) ∙ ap (λ b. cond b 1 0 + count_in (keys_of es) n) (eq-eqb e.0 n same)

times_other : (n : ℕ) (e : ℕ × Precedence) (es : List (ℕ × Precedence)) → e.0 ≢ n → count_in (keys_of (e ∷ es)) n ≡ count_in (keys_of es) n
times_other n e es other =
    sum_by-cons (λ k. cond (k == n) 1 0) e.0 (keys_of es) ∙ ap (λ b. cond b 1 0 + count_in (keys_of es) n) (ne_eqb e.0 n other)
    ∙ zero-add (count_in (keys_of es) n)

-- before the first entry
pub fill_none : (slots : List (Option Precedence)) → ((n : ℕ) → slot_at slots n ≡ None) → AreFilled [] slots
fill_none slots empty = record {
  found = empty;
  once = λ n. sym (ap (λ o. cond (is_some o) 1 0) (empty n));
}

-- one more entry, whose slot is empty
pub fill_more : (es : List (ℕ × Precedence)) (k : ℕ) (x : Precedence) (slots : List (Option Precedence)) → k < length slots → slot_at slots k ≡ None
    → AreFilled es slots → AreFilled (es ++ (k, x) ∷ []) (set slots k (Some x))
fill_more es k x slots within empty filled = record {
  found = λ n.
      elim (cases_eq n k) [
        | inl same ↦
            let none : lookup (nat_eq n) es ≡ None = sym (filled.found n) ∙ ap (slot_at slots) same ∙ empty in
            get_or-set_at slots k n (Some x) None same within
            ∙ sym (lookup_push (nat_eq n) es (k, x) ∙ ap (λ o. option_or o (cond (nat_eq n k) (Some x) None)) none ∙ ap (λ b. cond b (Some x) None) (eq-eqb n k same))
        | inr other ↦
            get_or-set_other slots k n (Some x) None other ∙ filled.found n
            ∙ sym (lookup_push (nat_eq n) es (k, x) ∙ ap (λ b. option_or (lookup (nat_eq n) es) (cond b (Some x) None)) (ne_eqb n k other)
            ∙ or_none (lookup (nat_eq n) es))
      ];
  once = λ n.
      let both = times_append n es ((k, x) ∷ []) in
      elim (cases_eq n k) [
        | inl same ↦
            let before : count_in (keys_of es) n ≡ 0 = filled.once n ∙ ap (λ o. cond (is_some o) 1 0) (ap (slot_at slots) same ∙ empty) in
            both ∙ ap (λ m. m + count_in (keys_of ((k, x) ∷ [])) n) before ∙ zero-add (count_in (keys_of ((k, x) ∷ [])) n)
            ∙ times_same n (k, x) [] (sym same) ∙ sym (ap (λ o. cond (is_some o) 1 0) (get_or-set_at slots k n (Some x) None same within))
        | inr other ↦
            let differs : k ≢ n = λ is. other (sym is) in
            both ∙ ap (λ m. count_in (keys_of es) n + m) (times_other n (k, x) [] differs) ∙ add-zero (count_in (keys_of es) n) ∙ filled.once n
            ∙ sym (ap (λ o. cond (is_some o) 1 0) (get_or-set_other slots k n (Some x) None other))
      ];
}

-- nothing is in an empty slot
pub empty_from_test : (o : Option Precedence) → is_some o ≡ false → o ≡ None
empty_from_test None is = refl
empty_from_test (Some x) is = absurd (cc)

module _ (entries : List (ℕ × Precedence)) (i : ℕ) (d : ℕ × Precedence) (slots : List (Option Precedence)) (within : i < length entries)
    (filled : AreFilled (take i entries) slots) where
  -- the next entry, whose slot is empty
  pub fill_next : (slice_index_or entries i d).0 < length slots → is_some (slot_at slots (slice_index_or entries i d).0) ≡ false
      → AreFilled (take (i + 1) entries) (set slots (slice_index_or entries i d).0 (Some (slice_index_or entries i d).1))
  fill_next below empty =
      let e = slice_index_or entries i d in
      subst (λ es. AreFilled es (set slots e.0 (Some e.1))) (sym (take_more entries i d within))
      (fill_more (take i entries) e.0 e.1 slots below (empty_from_test (slot_at slots e.0) empty) filled)

  -- the next entry, whose slot is full
  pub fill_twice : is_some (slot_at slots (slice_index_or entries i d).0) ≡ true → 2 ≤ count_in (keys_of entries) (slice_index_or entries i d).0
  fill_twice full =
      let e = slice_index_or entries i d in
      let same : i + 1 ≡ suc i = omega arith in
      let later = drop (suc i) entries in
      let parts : take i entries ++ e ∷ later ≡ entries =
      ap (λ s. take i entries ++ s) (sym (drop-cons entries i d within)) ∙ take-append-drop i entries in
      let before : count_in (keys_of (take i entries)) e.0 ≡ 1 = filled.once e.0 ∙ ap (λ b. cond b 1 0) full in
      let here = times_same e.0 e later refl in
      let both = times_append e.0 (take i entries) (e ∷ later) in
      let all = ap (λ es. count_in (keys_of es) e.0) parts in
      omega (arith, before, here, both, all)

-- each number is there at most once
pub filled_once : (entries : List (ℕ × Precedence)) (slots : List (Option Precedence)) → AreFilled entries slots → (n : ℕ)
    → count_in (keys_of entries) n ≤ 1
filled_once entries slots filled n =
    let P : ℕ → Type 0 = λ m. m ≤ 1 in
    subst P (sym (filled.once n)) (elim (is_some (slot_at slots n)) as (λ b. cond b 1 0 ≤ 1) [ true ↦ omega arith | false ↦ omega arith ])
