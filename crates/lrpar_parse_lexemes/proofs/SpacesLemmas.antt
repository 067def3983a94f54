-- Texts to which blocks of spaces are added.
use Rattle.std.proofs.Common.{◌≡◌, ◌≤◌, ◌-◌, ℕ, List, ◌++◌, Result, Ok, Err, OnOk, is_ok, if◌then◌else◌, arith, ◌+◌, ap, replicate, take, subst, sym, ◌∙◌, append_assoc}
use Rattle.std.specs.Str.{IsCharBoundary}
use Rattle.std.specs.List.{slice_range}
use Rattle.std.proofs.lemmas.List.{get_or-replicate, length-replicate, replicate-append-replicate, take-replicate}
use Rattle.std.specs.declared.alloc.AllocError.{AllocError}

-- a text of spaces can be cut anywhere
pub spaces_boundary : (block : List ℕ) (n i : ℕ) → block ≡ replicate n 32 → i ≤ n → IsCharBoundary block i
spaces_boundary block n i is within =
    subst (λ s. IsCharBoundary s i) (sym is) (
      (rw length-replicate within),
      (λ inside high. let short = rw length-replicate at inside in absurd (omega (arith, get_or-replicate {A = ℕ} n i 32 0 short))),
    )

-- a block is added, and what is left is the less for it
pub spaces_more : (old new block whole : List ℕ) (n left : ℕ) → new ≡ old ++ block → block ≡ replicate n 32 → n ≤ left
    → old ++ replicate left 32 ≡ whole → new ++ replicate (left - n) 32 ≡ whole
spaces_more old new block whole n left added is fits before =
    let count : n + (left - n) ≡ left = omega arith in
    ap (λ s. s ++ replicate (left - n) 32) (added ∙ ap (λ s. old ++ s) is)
    ∙ append_assoc old (replicate n 32) (replicate (left - n) 32)
    ∙ ap (λ s. old ++ s) (replicate-append-replicate n (left - n) 32 ∙ ap (λ k. replicate k 32) count)
    ∙ before

-- the first spaces of a block are the last ones
pub spaces_last : (r : Result (Unit {0}) AllocError) (old new block part whole : List ℕ) (n left : ℕ)
    → new ≡ (if is_ok r then old ++ part else old) → part ≡ slice_range block 0 left → block ≡ replicate n 32 → left ≤ n
    → old ++ replicate left 32 ≡ whole → OnOk r (new ≡ whole)
spaces_last (Ok x) old new block part whole n left added cut is fits before =
    let all : left - 0 ≡ left = omega arith in
    added ∙ ap (λ s. old ++ s) (cut ∙ ap (λ s. take (left - 0) s) is ∙ ap (λ k. take k (replicate n 32)) all ∙ take-replicate left n 32 fits) ∙ before
spaces_last (Err e) old new block part whole n left added cut is fits before = tt
