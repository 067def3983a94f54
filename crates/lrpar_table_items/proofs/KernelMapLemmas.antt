-- In the order of the map, kernels that compare equal are the same, and the code compares kernels in this order. So the map finds a
-- kernel exactly if it has a number, and a new kernel leaves the other numbers as they are.
use Rattle.std.proofs.Common.{◌≡◌, ◌≢◌, ◌<◌, ◌∷◌, ◌++◌, ◌∙◌, refl, sym, ap, subst, inl, inr, arith, ℕ, true, false, List, [], Some, None, get_or, length, map}
use Rattle.std.specs.BTreeMap.{BTreeMap, Updates, get_by, is_at}
use Rattle.std.specs.Cmp.Lexicographic.{slice_cmp}
use Rattle.std.specs.Map.{lookup}
use Rattle.std.specs.Option.{option_map}
use Rattle.std.specs.Ordering.{bool_cmp, is_eq, nat_cmp, ordering_then}
use Rattle.std.specs.declared.cmp.Ordering.{Ordering}
use Rattle.std.specs.declared.cmp.Ordering.TheVariants.{Less, Equal, Greater}
use Rattle.std.specs.declared.vec.Vec.{Vec}
use Rattle.std.proofs.lemmas.Bool.{cases_Bool, cases_lt}
use Rattle.std.proofs.lemmas.List.{get_or-map, get_or_append_left, get_or_push, length-map, length_push, map-append}
use Rattle.std.proofs.lemmas.Map.Lookups.{exact_unsigned}
use Rattle.lrpar_grammar_places.specs.declared.span.StIdx.{StIdx}
use Rattle.lrpar_table_rows.specs.Ascending.{ComparesExactly}
use Rattle.lrpar_table_items.specs.Cores.{CoreSet, core_set}
use Rattle.lrpar_table_items.specs.KernelMap.{NumbersKernels, core_cmp, key_cmp}
use Rattle.lrpar_table_items.specs.Next.{kernel_rows, kernel_at}
use Rattle.lrpar_table_items.specs.KernelMap.{IsFresh}
use Rattle.lrpar_table_items.specs.declared.cores.CoreItems.{CoreItems}
use Rattle.lrpar_table_items.proofs.CoreLemmas.{core_is}

-- if two comparisons one after the other tie, each of them ties
both_tie : (a b : Ordering) → ordering_then a b ≡ Equal → (a ≡ Equal) × (b ≡ Equal)
both_tie Less b h = absurd (cc)
both_tie Equal b h = (refl, h)
both_tie Greater b h = absurd (cc)

-- if elements that compare equal are the same, so are lists
lists_compare_exactly : {X : Type 0} (R : X → X → Ordering) → ComparesExactly R → ComparesExactly (slice_cmp R)
lists_compare_exactly R apart [] [] h = refl
lists_compare_exactly R apart [] (y ∷ ys) h = absurd (cc)
lists_compare_exactly R apart (x ∷ xs) [] h = absurd (cc)
lists_compare_exactly R apart (x ∷ xs) (y ∷ ys) h =
    let ties = both_tie (R x y) (slice_cmp R xs ys) h in
    let first = apart x y ties.0 in
    let rest = lists_compare_exactly R apart xs ys ties.1 in
    cc

bools_compare_exactly : ComparesExactly bool_cmp
bools_compare_exactly true true h = refl
bools_compare_exactly false false h = refl
bools_compare_exactly true false h = absurd (cc)
bools_compare_exactly false true h = absurd (cc)

cores_compare_exactly : ComparesExactly core_cmp
cores_compare_exactly a b h =
    let prod = both_tie (nat_cmp a.prod b.prod) (ordering_then (nat_cmp a.dot b.dot) (slice_cmp bool_cmp a.tokens b.tokens)) h in
    let rest = both_tie (nat_cmp a.dot b.dot) (slice_cmp bool_cmp a.tokens b.tokens) prod.1 in
    core_is a b (exact_unsigned a.prod b.prod prod.0) (exact_unsigned a.dot b.dot rest.0)
    (lists_compare_exactly bool_cmp bools_compare_exactly a.tokens b.tokens rest.1)

-- so kernels that compare equal are the same
pub kernels_compare_exactly : ComparesExactly (slice_cmp core_cmp)
kernels_compare_exactly = lists_compare_exactly core_cmp cores_compare_exactly

-- if elements compare as their images do, so do lists
pub lists_compare : {X Y : Type 0} (R : X → X → Ordering) (Q : Y → Y → Ordering) (f : X → Y) → ((x y : X) → R x y ≡ Q (f x) (f y))
    → (xs ys : List X) → slice_cmp R xs ys ≡ slice_cmp Q (map f xs) (map f ys)
lists_compare R Q f same [] [] = refl
lists_compare R Q f same [] (y ∷ ys) = refl
lists_compare R Q f same (x ∷ xs) [] = refl
lists_compare R Q f same (x ∷ xs) (y ∷ ys) = λ i. ordering_then (same x y i) (lists_compare R Q f same xs ys i)

-- the order of the code's cores, by the order of its numbers
abbrev pub order_of : {S : Type 0} → (S → S → Ordering) → CoreItems S → CoreItems S → Ordering
order_of cmp x y =
    ordering_then (cmp x.prod.0 y.prod.0) (ordering_then (nat_cmp x.dot y.dot) (slice_cmp bool_cmp x.tokens y.tokens))

-- it is the order of the cores that they represent
cores_compare : {S : Type 0} (index : S → ℕ) (cmp : S → S → Ordering) → ((a b : S) → cmp a b ≡ nat_cmp (index a) (index b)) → (x y : CoreItems S)
    → order_of cmp x y ≡ core_cmp (core_set index x) (core_set index y)
cores_compare index cmp law x y =
    ap (λ (o : Ordering). ordering_then o (ordering_then (nat_cmp x.dot y.dot) (slice_cmp bool_cmp x.tokens y.tokens)))
    (law x.prod.0 y.prod.0)

module _ {S A : Type 0} (index : S → ℕ) (cmp : S → S → Ordering) (law : (a b : S) → cmp a b ≡ nat_cmp (index a) (index b))
    (cores : List (CoreItems S)) where
  -- so cores compare with a key as their kernel does
  pub key_order : (key : Vec (CoreItems S) A) → slice_cmp (order_of cmp) cores key.items ≡ key_cmp index (map (core_set index) cores) key
  key_order key = lists_compare (order_of cmp) core_cmp (core_set index) (cores_compare index cmp law) cores key.items

  module _ (numbers : BTreeMap (Vec (CoreItems S) A) (StIdx S)) where
    -- a look-up by cores of the code is a look-up by the kernel that they represent
    pub at_kernel : get_by (λ key. slice_cmp (order_of cmp) cores key.items) numbers ≡ get_by (key_cmp index (map (core_set index) cores)) numbers
    at_kernel = λ i. get_by (λ key. key_order key i) numbers

    module _ (rows kernels : List (List CoreSet)) (are : rows ≡ kernels) (has : NumbersKernels index rows numbers) where
      -- if a kernel has a number, the map has that number
      number_of : (s : ℕ) → s < length kernels → kernel_at kernels s ≡ map (core_set index) cores
          → option_map (λ state. index state.0) (get_by (λ key. slice_cmp (order_of cmp) cores key.items) numbers) ≡ Some s
      number_of s below same =
          ap (option_map (λ state. index state.0)) at_kernel
          ∙ subst (λ k. option_map (λ state. index state.0) (get_by (key_cmp index k) numbers) ≡ Some s) same
          (subst (λ found. NumbersKernels index found numbers) are has s below)

      -- so if the map has none, the kernel is new
      pub new_without : None ≡ get_by (λ key. slice_cmp (order_of cmp) cores key.items) numbers → IsFresh kernels (map (core_set index) cores)
      new_without none s below same =
          let some : None ≡ Some s = ap (option_map (λ state. index state.0)) none ∙ number_of s below same in absurd (cc)

      -- the kernel is new, too, if the map has the number of another kernel
      pub new_beside : (state : StIdx S) → Some state ≡ get_by (λ key. slice_cmp (order_of cmp) cores key.items) numbers
          → (index state.0 < length kernels → kernel_at kernels (index state.0) ≢ map (core_set index) cores) → IsFresh kernels (map (core_set index) cores)
      new_beside state found other s below same =
          let some : Some (index state.0) ≡ Some s = ap (option_map (λ state. index state.0)) found ∙ number_of s below same in
          let is : s ≡ index state.0 = cc in
          other (subst (λ n. n < length kernels) is below) (subst (λ n. kernel_at kernels n ≡ map (core_set index) cores) is same)

-- a comparison that a test calls equal ties
tie_is : (o : Ordering) → is_eq o ≡ true → o ≡ Equal
tie_is Less h = absurd (cc)
tie_is Equal h = refl
tie_is Greater h = absurd (cc)

-- a map with the entries of another one has the numbers that it has
pub same_numbers : {S A : Type 0} (index : S → ℕ) (kernels : List (List CoreSet)) (before after : BTreeMap (Vec (CoreItems S) A) (StIdx S))
    → after.entries ≡ before.entries → NumbersKernels index kernels before → NumbersKernels index kernels after
same_numbers index kernels before after same has s below =
    subst (λ entries. option_map (λ state. index state.0) (lookup (is_at (key_cmp index (kernel_at kernels s))) entries) ≡ Some s) (sym same) (has s below)

module _ {S A : Type 0} (index : S → ℕ) (cmp : S → S → Ordering) (law : (a b : S) → cmp a b ≡ nat_cmp (index a) (index b))
    (kernels : List (Vec (CoreItems S) A)) (before after : BTreeMap (Vec (CoreItems S) A) (StIdx S))
    (has : NumbersKernels index (kernel_rows index kernels) before) (rows : List (List CoreSet)) (are : kernel_rows index kernels ≡ rows)
    (kernel key : Vec (CoreItems S) A) (copy : map (core_set index) key.items ≡ map (core_set index) kernel.items) (state : StIdx S)
    (fresh : IsFresh rows (map (core_set index) kernel.items))
    (updates : Updates (λ a b. slice_cmp (order_of cmp) a.items b.items) before after key (Some state)) where
  -- the map has number s for kernel k
  abbrev HasOne : ℕ → List CoreSet → Type 0
  HasOne s k = option_map (λ state. index state.0) (get_by (key_cmp index k) after) ≡ Some s

  -- the key isn't one of the kernels before
  new_key : IsFresh (kernel_rows index kernels) (map (core_set index) key.items)
  new_key = subst (λ k. IsFresh (kernel_rows index kernels) k) (sym copy) (subst (λ found. IsFresh found (map (core_set index) kernel.items)) (sym are) fresh)

  -- so the map still has the numbers of the others
  pub others_stay : NumbersKernels index (kernel_rows index kernels) after
  others_stay s below =
      let other = get_or kernels s key in
      let count = length-map kernels (λ (row : Vec (CoreItems S) A). map (core_set index) row.items) in
      let at : kernel_at (kernel_rows index kernels) s ≡ map (core_set index) other.items =
      get_or-map (λ (row : Vec (CoreItems S) A). map (core_set index) row.items) kernels s key [] (omega (arith, below, count)) in
      let apart : is_at (λ (k : Vec (CoreItems S) A). slice_cmp (order_of cmp) key.items k.items) other ≡ false =
      elim (cases_Bool (is_eq (slice_cmp (order_of cmp) key.items other.items))) [
        | inl ties ↦
            let equal = sym (key_order index cmp law key.items other) ∙ tie_is _ ties in
            absurd (new_key s below (at ∙ sym (kernels_compare_exactly (map (core_set index) key.items) (map (core_set index) other.items) equal)))
        | inr not ↦ not
      ] in
      let stays = updates.2 other apart in
      subst (HasOne s) (sym at)
      (ap (option_map (λ state. index state.0)) (sym (at_kernel index cmp law other.items after) ∙ stays ∙ at_kernel index cmp law other.items before)
      ∙ subst (λ k. option_map (λ state. index state.0) (get_by (key_cmp index k) before) ≡ Some s) at (has s below))

  -- and the number of the new one, which is last
  pub new_is_numbered : index state.0 ≡ length rows → NumbersKernels index (kernel_rows index (kernels ++ kernel ∷ [])) after
  new_is_numbered next s below =
      let before = kernel_rows index kernels in
      let last = map (core_set index) kernel.items in
      let pushed : kernel_rows index (kernels ++ kernel ∷ []) ≡ before ++ last ∷ [] =
      map-append (λ (row : Vec (CoreItems S) A). map (core_set index) row.items) kernels (kernel ∷ []) in
      let more = length_push before last in
      let within = subst (λ (found : List (List CoreSet)). s < length found) pushed below in
      subst (λ found. HasOne s (kernel_at found s)) (sym pushed)
      (elim (cases_lt s (length before)) as (λ _. HasOne s (kernel_at (before ++ last ∷ []) s)) [
        | inl early ↦ subst (HasOne s) (sym (get_or_append_left before (last ∷ []) [] s early)) (others_stay s early)
        | inr past ↦
            let is : length before ≡ s = omega (arith, past, within, more) in
            let number : index state.0 ≡ s = next ∙ ap (λ (found : List (List CoreSet)). length found) (sym are) ∙ is in
            subst (HasOne s) (copy ∙ sym (get_or_push before last [] s is))
            (ap (option_map (λ state. index state.0)) (sym (at_kernel index cmp law key.items after) ∙ updates.1) ∙ ap (λ n. Some n) number)
      ])
