-- The states that an overlay represents: the lower states of its base, and those of its tail above them.
use Rattle.std.proofs.Common.{◌≡◌, ◌<◌, ◌≤◌, ◌+◌, ◌-◌, ◌∙◌, ◌⊎◌, inl, inr, sym, subst, ap, arith, ℕ, suc, List, [], ◌∷◌, ◌++◌, length, map, take, min, get_or, slice_get, Some, None, refl, length-append, append_assoc, append-nil}
use Rattle.std.proofs.Math.Seq.{take-append-add}
use Rattle.std.proofs.lemmas.Bool.{cases_lt}
use Rattle.std.proofs.lemmas.List.{get_or-map, get_or-take, get_or_append_left, length-map, length-take-le, map-append, take-append-le, take-map, take-take}
use Rattle.std.proofs.lemmas.Option.{none-some, slice_get-get_or, slice_get-map, slice_get_read}
use Rattle.std.specs.Option.{option_map}
use Rattle.lrpar_table_stacks.specs.Overlay.{Overlaid, OverlayFails, OverlayReduces, overlaid}
use Rattle.lrpar_table_stacks.specs.Stack.{top_of}
use Rattle.lrpar_table_stacks.proofs.StepLemmas.{top_of_left}

-- an element past the first list is one of the second
slice_get-past : (xs ys : List ℕ) (i : ℕ) → slice_get (xs ++ ys) (length xs + i) ≡ slice_get ys i
slice_get-past [] ys i = let e : 0 + i ≡ i = omega arith in ap (λ (n : ℕ). slice_get ys n) e
slice_get-past (x ∷ xs) ys i =
    let e : length (x ∷ xs) + i ≡ suc (length xs + i) = omega arith in
    ap (λ (n : ℕ). slice_get (x ∷ (xs ++ ys)) n) e ∙ slice_get-past xs ys i

-- the top of the second list is that of both
top-append : (xs ys : List ℕ) (s : ℕ) → top_of ys ≡ Some s → top_of (xs ++ ys) ≡ Some s
top-append xs [] s top = absurd (none-some s top)
top-append xs (y ∷ ys) s top =
    let many : length (xs ++ y ∷ ys) - 1 ≡ length xs + (length (y ∷ ys) - 1) = omega (arith, length-append xs (y ∷ ys)) in
    ap (λ (n : ℕ). slice_get (xs ++ y ∷ ys) n) many ∙ slice_get-past xs (y ∷ ys) (length (y ∷ ys) - 1) ∙ top

-- the lower elements of two lists
take-both : (n : ℕ) (xs ys : List ℕ) → length xs ≤ n → take n (xs ++ ys) ≡ xs ++ take (n - length xs) ys
take-both n xs ys many =
    let e : n ≡ length xs + (n - length xs) = omega arith in
    ap (λ (m : ℕ). take m (xs ++ ys)) e ∙ take-append-add xs ys (n - length xs)

module _ {A : Type 0} (number : A → ℕ) where
  top-map : (xs : List A) (x : A) → slice_get xs (length xs - 1) ≡ Some x → top_of (map number xs) ≡ Some (number x)
  top-map xs x last =
      ap (λ (n : ℕ). slice_get (map number xs) (n - 1)) (length-map xs number) ∙ slice_get-map number xs (length xs - 1)
      ∙ ap (option_map number) last

  -- the last of the tail is the top
  pub top_of_tail : (base : List ℕ) (kept : ℕ) (tail : List A) (x : A) → Some x ≡ slice_get tail (length tail - 1)
      → top_of (take kept base ++ map number tail) ≡ Some (number x)
  top_of_tail base kept tail x last = top-append (take kept base) (map number tail) (number x) (top-map tail x (sym last))

  -- a list whose last element can't be read is empty
  no_last : (tail : List A) → None ≡ slice_get tail (length tail - 1) → tail ≡ []
  no_last [] none = refl
  no_last (x ∷ xs) none =
      let below : length (x ∷ xs) - 1 < length (x ∷ xs) = omega arith in
      absurd (none-some (get_or (x ∷ xs) (length (x ∷ xs) - 1) x) (none ∙ slice_get-get_or (x ∷ xs) (length (x ∷ xs) - 1) x below))

  -- otherwise the last kept state of the base is the top
  pub top_of_base : (base tail : List A) (kept : ℕ) (x : A) → 0 < kept → kept ≤ length base → x ≡ get_or base (kept - 1) x
      → None ≡ slice_get tail (length tail - 1) → top_of (take kept (map number base) ++ map number tail) ≡ Some (number x)
  top_of_base base tail kept x some within read none =
      let st : List ℕ = map number base in
      let many : length st ≡ length base = length-map base number in
      let at : slice_get st (kept - 1) ≡ Some (number x) =
      slice_get-map number base (kept - 1) ∙ ap (option_map number) (slice_get_read base (length base) (kept - 1) x refl (omega arith) read) in
      let dropped : length st - (length st - kept) ≡ kept = omega (arith, many) in
      let here : slice_get st (length st - (length st - kept) - 1) ≡ Some (number x) = rw dropped at in
      let top : top_of (take kept st) ≡ Some (number x) =
      subst (λ (n : ℕ). top_of (take n st) ≡ Some (number x)) dropped (top_of_left st (length st - kept) (number x) (omega (arith, many)) here) in
      rw (no_last tail none) (rw append-nil top)

  -- below what is kept, the states are those of the base
  pub over_base_at : (base tail : List A) (kept at : ℕ) (x : A) → kept ≤ length base → at < kept → x ≡ get_or base at x
      → slice_get (take kept (map number base) ++ map number tail) at ≡ Some (number x)
  over_base_at base tail kept at x within below read =
      let lower : List ℕ = take kept (map number base) in
      let len : length lower ≡ kept = length-take-le kept (map number base) (omega (arith, length-map base number)) in
      let is : get_or (lower ++ map number tail) at (number x) ≡ number x =
      get_or_append_left lower (map number tail) (number x) at (omega (arith, len)) ∙ get_or-take kept (map number base) at (number x) below
      ∙ get_or-map number base at x (number x) (omega arith) ∙ ap number (sym read) in
      slice_get-get_or (lower ++ map number tail) at (number x) (omega (arith, len, length-append lower (map number tail)))
      ∙ ap (λ (n : ℕ). Some n) is

  -- a place from there on is one of the tail
  pub over_inside : (base tail : List A) (kept at : ℕ) → kept ≤ length base → kept ≤ at → at < length (take kept (map number base) ++ map number tail)
      → at - kept < length tail
  over_inside base tail kept at within above below =
      let lower : List ℕ = take kept (map number base) in
      let len : length lower ≡ kept = length-take-le kept (map number base) (omega (arith, length-map base number)) in
      omega (arith, len, length-append lower (map number tail), length-map tail number)

  -- from there on, the states are those of the tail
  pub over_tail_at : (base tail : List A) (kept at : ℕ) (x : A) → kept ≤ length base → kept ≤ at → at - kept < length tail
      → x ≡ get_or tail (at - kept) x → slice_get (take kept (map number base) ++ map number tail) at ≡ Some (number x)
  over_tail_at base tail kept at x within above inside read =
      let lower : List ℕ = take kept (map number base) in
      let len : length lower ≡ kept = length-take-le kept (map number base) (omega (arith, length-map base number)) in
      let place : at ≡ length lower + (at - kept) = omega (arith, len) in
      ap (λ (n : ℕ). slice_get (lower ++ map number tail) n) place ∙ slice_get-past lower (map number tail) (at - kept)
      ∙ slice_get-map number tail (at - kept) ∙ ap (option_map number) (slice_get_read tail (length tail) (at - kept) x refl inside read)

  -- some of the states of a base and of a tail are dropped, and one is pushed
  pub over_put : (base : List ℕ) (kept : ℕ) (tail : List A) (left at least : ℕ) (next : A) (after : List A) → kept ≤ length base
      → at ≡ left - kept → least ≡ min kept left → after ≡ take at tail ++ next ∷ []
      → take least base ++ map number after ≡ take left (take kept base ++ map number tail) ++ number next ∷ []
  over_put base kept tail left at least next after within is_at is_least put =
      let len : length (take kept base) ≡ kept = length-take-le kept base within in
      let numbers : map number after ≡ take at (map number tail) ++ number next ∷ [] =
      ap (map number) put ∙ map-append number (take at tail) (next ∷ []) ∙ ap (λ (st : List ℕ). st ++ number next ∷ []) (sym (take-map number at tail)) in
      let lower : take left (take kept base ++ map number tail) ≡ take least base ++ take at (map number tail) =
      elim (cases_lt left kept) as (λ _. take left (take kept base ++ map number tail) ≡ take least base ++ take at (map number tail)) [
        | inl below ↦
            let e : least ≡ left = omega arith in
            let none : at ≡ 0 = omega arith in
            rw (e, none) (take-append-le left (take kept base) (map number tail) (omega (arith, len)) ∙ take-take left kept base (omega arith) ∙ sym (append-nil (take left base)))
        | inr above ↦
            let e : least ≡ kept = omega arith in
            let same : left - length (take kept base) ≡ at = omega (arith, len) in
            rw (e, ← same) (take-both left (take kept base) (map number tail) (omega (arith, len)))
      ] in
      ap (λ (st : List ℕ). take least base ++ st) numbers ∙ sym (append_assoc (take least base) (take at (map number tail)) (number next ∷ []))
      ∙ ap (λ (st : List ℕ). st ++ number next ∷ []) (sym lower)

  -- the lower elements of a list with those of another represent the numbers of both
  pub over_list : (base tail first states : List A) (kept : ℕ) → first ≡ take kept base → states ≡ first ++ tail
      → map number states ≡ take kept (map number base) ++ map number tail
  over_list base tail first states kept is_first is_states =
      ap (map number) is_states ∙ map-append number first tail
      ∙ ap (λ (st : List ℕ). st ++ map number tail) (ap (map number) is_first ∙ sym (take-map number kept base))

-- a reduction keeps the base's states that it leaves
pub reduces_over : (view old : Overlaid) (more : List ℕ) (grown least len symbols : ℕ) → view ≡ old → len ≡ length (overlaid old) → least ≡ min view.kept (len - symbols)
    → view.room ≤ grown → OverlayReduces old symbols (record { base = view.base; kept = least; tail = more; room = grown })
reduces_over view old more grown least len symbols is height lower wider = record {
  base = ap (λ (o : Overlaid). o.base) is;
  kept = lower ∙ ap (λ (n : ℕ). min view.kept (n - symbols)) height ∙ ap (λ (o : Overlaid). min o.kept (length (overlaid old) - symbols)) is;
  room = subst (λ (o : Overlaid). o.room ≤ grown) is wider;
}

-- if an allocation failed, the states stay
pub stays_over : (view old : Overlaid) (more : List ℕ) (grown : ℕ) → view ≡ old → more ≡ view.tail
    → overlaid (record { base = view.base; kept = view.kept; tail = more; room = grown }) ≡ overlaid old
stays_over view old more grown is same = ap (λ (st : List ℕ). take view.kept view.base ++ st) same ∙ ap overlaid is

-- and the tail would have become longer
longer_over : (kept len symbols at : ℕ) (tail : List ℕ) → len ≡ kept + length tail → at ≡ len - symbols - kept → at ≡ length tail → (symbols ≡ 0) ⊎ (tail ≡ [])
longer_over kept len symbols at [] height left whole = inr refl
longer_over kept len symbols at (x ∷ tail) height left whole = inl (omega arith)

pub fails_over : (view old : Overlaid) (more : List ℕ) (grown len symbols at : ℕ) → view ≡ old → view.kept ≤ length view.base → len ≡ length (overlaid old)
    → at ≡ len - symbols - view.kept → at ≡ length view.tail → more ≡ view.tail → view.room ≤ grown → grown ≤ length more
    → OverlayFails old symbols (record { base = view.base; kept = view.kept; tail = more; room = grown })
fails_over view old more grown len symbols at is within height left whole same wider full =
    let lower : length (take view.kept view.base) ≡ view.kept = length-take-le view.kept view.base within in
    let many : len ≡ view.kept + length view.tail =
    height ∙ ap (λ (o : Overlaid). length (overlaid o)) (sym is) ∙ length-append (take view.kept view.base) view.tail ∙ ap (λ (n : ℕ). n + length view.tail) lower in
    record {
      stays = record {
        base = ap (λ (o : Overlaid). o.base) is;
        kept = ap (λ (o : Overlaid). o.kept) is;
        tail = same ∙ ap (λ (o : Overlaid). o.tail) is;
        room = subst (λ (o : Overlaid). o.room ≤ grown) is wider;
        full = inl full;
      };
      longer = subst (λ (o : Overlaid). (symbols ≡ 0) ⊎ (o.tail ≡ [])) is (longer_over view.kept len symbols at view.tail many left whole);
    }

-- with one more state the number of states would overflow
pub full_over : (old : Overlaid) (symbols len : ℕ) → len ≡ length (overlaid old) → len < 18446744073709551616 → len - symbols ≡ 18446744073709551615
    → OverlayFails old symbols old
full_over old symbols len height counted most = record {
  stays = record { base = refl; kept = refl; tail = refl; room = omega arith; full = inr (omega (arith, height, counted, most)) };
  longer = inl (omega (arith, counted, most));
}
