-- The distances of configurations by numbers: each number is at one distance, and what a new distance changes.
use Rattle.std.proofs.Common.{◌≡◌, ◌<◌, ◌≤◌, ◌+◌, ◌⊎◌, inl, inr, ℕ, zero, suc, List, [], ◌∷◌, ◌++◌, length, refl, arith}
use Rattle.std.proofs.lemmas.Bool.{cases_lt}
use Rattle.std.proofs.lemmas.List.{get_or_past, length_push}
use Rattle.lrpar_parse_cpctplus.specs.Levels.{AreLevels, IsAt, first_of}

-- past the last distance there is nothing
first_past : (firsts : List ℕ) (count d : ℕ) → length firsts ≤ d → first_of firsts count d ≡ count
first_past firsts count d past = get_or_past firsts d count past

-- a new distance: what it changes before there is anything at it
pub first_begins : (firsts : List ℕ) (count d : ℕ) → first_of (firsts ++ count ∷ []) count d ≡ first_of firsts count d
first_begins [] count zero = refl
first_begins [] count (suc d) = refl
first_begins (x ∷ xs) count zero = refl
first_begins (x ∷ xs) count (suc d) = first_begins xs count d

-- and after that
first_pushed : (firsts : List ℕ) (count more d : ℕ) → d ≤ length firsts → first_of (firsts ++ count ∷ []) more d ≡ first_of firsts count d
first_pushed [] count more zero below = refl
first_pushed [] count more (suc d) below = absurd (omega (arith, below))
first_pushed (x ∷ xs) count more zero below = refl
first_pushed (x ∷ xs) count more (suc d) below = first_pushed xs count more d (omega (arith, below))

first_after : (firsts : List ℕ) (count more d : ℕ) → length firsts < d → first_of (firsts ++ count ∷ []) more d ≡ more
first_after firsts count more d past = first_past (firsts ++ count ∷ []) more d (omega (arith, past, length_push firsts count))

module _ (firsts : List ℕ) (count : ℕ) (levels : AreLevels firsts count) where
  most_from : (k d : ℕ) → length firsts ≤ d + k → first_of firsts count d ≤ count
  most_from zero d enough = omega (arith, first_past firsts count d (omega (arith, enough)))
  most_from (suc k) d enough = omega (arith, levels.rising d, most_from k (d + 1) (omega (arith, enough)))

  pub first_most : (d : ℕ) → first_of firsts count d ≤ count
  first_most d = most_from (length firsts) d (omega arith)

  level_from : (n k d : ℕ) → n < count → length firsts ≤ d + k → first_of firsts count d ≤ n → (e : ℕ) × IsAt firsts count e n
  level_from n zero d below enough low = absurd (omega (arith, first_past firsts count d (omega (arith, enough)), below, low))
  level_from n (suc k) d below enough low =
      elim (cases_lt n (first_of firsts count (d + 1))) as (λ _. (e : ℕ) × IsAt firsts count e n) [
        | inl less ↦ (d, record { low = low; high = less })
        | inr more ↦ level_from n k (d + 1) below (omega (arith, enough)) (omega (arith, more))
      ]

  pub has_level : (n : ℕ) → n < count → (d : ℕ) × IsAt firsts count d n
  has_level n below = level_from n (length firsts) 0 below (omega arith) (omega (arith, levels.zero))

  pub level_below : (d n : ℕ) → n < count → IsAt firsts count d n → d < length firsts
  level_below d n below at =
      elim (cases_lt d (length firsts)) as (λ _. d < length firsts) [
        | inl less ↦ less
        | inr past ↦ absurd (omega (arith, first_past firsts count d (omega (arith, past)), at.low, below))
      ]

  -- a new distance, at which there is what is added
  zero_pushed : (xs : List ℕ) (more : ℕ) → first_of xs count 0 ≡ 0 → first_of (xs ++ count ∷ []) more 0 ≡ 0
  zero_pushed [] more none = none
  zero_pushed (x ∷ xs) more none = none

  pub levels_pushed : (more : ℕ) → count ≤ more → AreLevels (firsts ++ count ∷ []) more
  levels_pushed more grown = record {
    zero = zero_pushed firsts more levels.zero;
    rising = λ d.
        elim (cases_lt d (length firsts)) as (λ _. first_of (firsts ++ count ∷ []) more d ≤ first_of (firsts ++ count ∷ []) more (d + 1)) [
          | inl below ↦
              let one = first_pushed firsts count more d (omega (arith, below)) in
              let next = first_pushed firsts count more (d + 1) (omega (arith, below)) in
              omega (arith, one, next, levels.rising d)
          | inr past ↦
              let next = first_after firsts count more (d + 1) (omega (arith, past)) in
              elim (cases_lt (length firsts) d) as (λ _. first_of (firsts ++ count ∷ []) more d ≤ first_of (firsts ++ count ∷ []) more (d + 1)) [
                | inl over ↦ omega (arith, next, first_after firsts count more d over)
                | inr within ↦ omega (arith, next, first_pushed firsts count more d (omega (arith, within)), first_most d, grown)
              ]
        ];
  }

  pub at_before : (more d n : ℕ) → n < count → IsAt firsts count d n → IsAt (firsts ++ count ∷ []) more d n
  at_before more d n below at =
      let less = level_below d n below at in
      record {
        low = omega (arith, at.low, first_pushed firsts count more d (omega (arith, less)));
        high = omega (arith, at.high, first_pushed firsts count more (d + 1) (omega (arith, less)));
      }

  pub at_pushed : (more d n : ℕ) → n < more → IsAt (firsts ++ count ∷ []) more d n → IsAt firsts count d n ⊎ ((d ≡ length firsts) × (count ≤ n))
  at_pushed more d n below at =
      elim (cases_lt d (length firsts)) as (λ _. IsAt firsts count d n ⊎ ((d ≡ length firsts) × (count ≤ n))) [
        | inl less ↦ inl (record {
          low = omega (arith, at.low, first_pushed firsts count more d (omega (arith, less)));
          high = omega (arith, at.high, first_pushed firsts count more (d + 1) (omega (arith, less)));
        })
        | inr past ↦ elim (cases_lt (length firsts) d) as (λ _. IsAt firsts count d n ⊎ ((d ≡ length firsts) × (count ≤ n))) [
          | inl over ↦ absurd (omega (arith, at.low, first_after firsts count more d over, below))
          | inr within ↦
              inr (omega (arith, past, within), omega (arith, at.low, first_pushed firsts count more d (omega (arith, within)), first_past firsts count d (omega (arith, past))))
        ]
      ]
