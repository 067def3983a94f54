-- The current stack: the states of a numbered one, and those of a list above them.
use Rattle.std.proofs.Common.{◌≡◌, ◌<◌, ◌≤◌, ◌+◌, ◌-◌, ◌∙◌, sym, ap, append-nil, arith, ℕ, List, [], ◌∷◌, ◌++◌, length, map, take, get_or, slice_get, Some, append_assoc, length-append}
use Rattle.std.proofs.Math.Seq.{take-append-add}
use Rattle.std.proofs.lemmas.List.{get_or-map, length-map, map-append, take-append-le, take-map, take_more}
use Rattle.lrpar_table_stacks.specs.Stack.{top_of}
use Rattle.lrpar_table_stacks.proofs.OverlayLemmas.{top_of_tail}
use Rattle.std.proofs.Math.Seq.{take-length}
use Rattle.std.proofs.Common.{subst}

-- only states of the list are dropped
pub left_above : (lower above : List ℕ) (count : ℕ) → count ≤ length above
    → lower ++ take (length above - count) above ≡ take (length (lower ++ above) - count) (lower ++ above)
left_above lower above count few =
    let left : length (lower ++ above) - count ≡ length lower + (length above - count) = omega (arith, length-append lower above, few) in
    sym (ap (λ (n : ℕ). take n (lower ++ above)) left ∙ take-append-add lower above (length above - count))

-- all of them are, and some below
pub left_lower : (lower above st : List ℕ) (count : ℕ) → length above < count → st ≡ take (length lower - (count - length above)) lower
    → st ++ [] ≡ take (length (lower ++ above) - count) (lower ++ above)
left_lower lower above st count many is =
    let left : length (lower ++ above) - count ≡ length lower - (count - length above) = omega (arith, length-append lower above, many) in
    append-nil st ∙ is ∙ sym (take-append-le (length lower - (count - length above)) lower above (omega arith))
    ∙ sym (ap (λ (n : ℕ). take n (lower ++ above)) left)

module _ {A : Type 0} (number : A → ℕ) where
  -- the last of the list is the top
  pub top_above : (lower : List ℕ) (above : List A) (x : A) → Some x ≡ slice_get above (length above - 1)
      → top_of (lower ++ map number above) ≡ Some (number x)
  top_above lower above x last =
      subst (λ (st : List ℕ). top_of (st ++ map number above) ≡ Some (number x)) (take-length lower) (top_of_tail number lower (length lower) above x last)

  -- a state is pushed onto what is left
  pub pushed_left : (lower part : List ℕ) (above : List A) (left : ℕ) (next : A) (after : List A) → lower ++ take left (map number above) ≡ part
      → after ≡ take left above ++ next ∷ [] → lower ++ map number after ≡ part ++ number next ∷ []
  pushed_left lower part above left next after is put =
      let numbers : map number after ≡ take left (map number above) ++ number next ∷ [] =
      ap (map number) put ∙ map-append number (take left above) (next ∷ []) ∙ ap (λ (st : List ℕ). st ++ number next ∷ []) (sym (take-map number left above)) in
      ap (λ (st : List ℕ). lower ++ st) numbers ∙ sym (append_assoc lower (take left (map number above)) (number next ∷ []))
      ∙ ap (λ (st : List ℕ). st ++ number next ∷ []) is

  -- one state of the list more
  pub numbered_more : (lower all stack : List ℕ) (items : List A) (i : ℕ) (x : A) → map number items ≡ all → i < length items → x ≡ get_or items i x
      → stack ≡ lower ++ take i all → stack ++ number x ∷ [] ≡ lower ++ take (i + 1) all
  numbered_more lower all stack items i x same within read is =
      let long : i < length all = omega (arith, within, length-map items number, ap (λ (l : List ℕ). length l) same) in
      let there : get_or all i (number x) ≡ number x =
      ap (λ (l : List ℕ). get_or l i (number x)) (sym same) ∙ get_or-map number items i x (number x) within ∙ ap number (sym read) in
      let more : take (i + 1) all ≡ take i all ++ number x ∷ [] =
      take_more all i (number x) long ∙ ap (λ (n : ℕ). take i all ++ n ∷ []) there in
      ap (λ (st : List ℕ). st ++ number x ∷ []) is ∙ append_assoc lower (take i all) (number x ∷ []) ∙ ap (λ (st : List ℕ). lower ++ st) (sym more)
