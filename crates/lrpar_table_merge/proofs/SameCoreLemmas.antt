-- Values that represent cores, and what the cores are.
use Rattle.std.proofs.Common.{◌≡◌, ◌<◌, ◌≤◌, ◌+◌, ◌↔◌, ◌∙◌, refl, sym, ap, arith, ℕ, Bool, true, false, IsTrue, List, [], ◌∷◌, get_or, length, map, take}
use Rattle.std.proofs.lemmas.Bool.{false≢true}
use Rattle.std.proofs.lemmas.List.{get_or-map, length-map, take_all}
use Rattle.lrpar_table_items.specs.Cores.{CoreSet, core_set}
use Rattle.lrpar_table_items.specs.declared.cores.CoreItems.{CoreItems}
use Rattle.lrpar_table_items.proofs.FindLemmas.{same_at, same_more}
use Rattle.lrpar_table_merge.specs.Compatible.{HaveSameCores, lookaheads_at, lr0_core}

-- the LR(0) core of a value
abbrev pub lr0_of : {S : Type 0} → (S → ℕ) → CoreItems S → ℕ × ℕ
lr0_of index core = lr0_core (core_set index core)

pub map_twice : {X Y Z : Type 0} (f : Y → Z) (h : X → Y) (xs : List X) → map f (map h xs) ≡ map (λ x. f (h x)) xs
map_twice f h [] = refl
map_twice f h (x ∷ xs) = ap (λ rest. f (h x) ∷ rest) (map_twice f h xs)

module _ {S : Type 0} (index : S → ℕ) where
  values_lr0 : (kernel : List (CoreItems S)) → map lr0_core (map (core_set index) kernel) ≡ map (lr0_of index) kernel
  values_lr0 kernel = map_twice lr0_core (core_set index) kernel

  -- kernels have the same cores exactly if the values have
  pub same_of_values : (kernel other : List (CoreItems S)) → map (lr0_of index) kernel ≡ map (lr0_of index) other
      → HaveSameCores (map (core_set index) kernel) (map (core_set index) other)
  same_of_values kernel other same = values_lr0 kernel ∙ same ∙ sym (values_lr0 other)

  pub values_of_same : (kernel other : List (CoreItems S)) → HaveSameCores (map (core_set index) kernel) (map (core_set index) other)
      → map (lr0_of index) kernel ≡ map (lr0_of index) other
  values_of_same kernel other same = sym (values_lr0 kernel) ∙ same ∙ values_lr0 other

  -- then there are as many of the one as of the other
  pub same_len : (kernel other : List (CoreItems S)) → HaveSameCores (map (core_set index) kernel) (map (core_set index) other)
      → length other ≡ length kernel
  same_len kernel other same =
      sym (length-map other (lr0_of index)) ∙ sym (ap length (values_of_same kernel other same)) ∙ length-map kernel (lr0_of index)

  -- if a test of one place finds no difference, or finds one: whether the kernels have the same cores, or have them up to there
  module _ (kernel other : List (CoreItems S)) (place : ℕ) (core next : CoreItems S) (same : Bool) (low : place < length kernel)
      (below : place < length other) (is : core ≡ get_or kernel place core) (at : next ≡ get_or other place next)
      (test : IsTrue same ↔ (lr0_of index core ≡ lr0_of index next)) where
    pub differ_at : same ≡ false → IsTrue false ↔ HaveSameCores (map (core_set index) kernel) (map (core_set index) other)
    differ_at differs = (
      λ h. absurd (false≢true h),
      λ all. absurd (false≢true (sym differs ∙ test.1 (same_at (lr0_of index) kernel other place core next low below is at (values_of_same kernel other all)))),
    )

    pub same_to : same ≡ true → map (lr0_of index) (take place kernel) ≡ map (lr0_of index) (take place other)
        → map (lr0_of index) (take (place + 1) kernel) ≡ map (lr0_of index) (take (place + 1) other)
    same_to agrees so_far = same_more (lr0_of index) kernel other place core next low below is at so_far (test.0 agrees)

  -- the places of both are all tested
  pub same_through : (kernel other : List (CoreItems S)) (place : ℕ) → length kernel ≤ place → length other ≤ place
      → map (lr0_of index) (take place kernel) ≡ map (lr0_of index) (take place other)
      → IsTrue true ↔ HaveSameCores (map (core_set index) kernel) (map (core_set index) other)
  same_through kernel other place long past same = (
    λ h.
        same_of_values kernel other
        (ap (map (lr0_of index)) (sym (take_all place kernel long)) ∙ same ∙ ap (map (lr0_of index)) (take_all place other past)),
    λ h. refl,
  )

  -- the lookaheads of the core at a place
  pub lookaheads_of : (kernel : List (CoreItems S)) (i : ℕ) (d : CoreItems S) → i < length kernel
      → lookaheads_at (map (core_set index) kernel) i ≡ (get_or kernel i d).tokens
  lookaheads_of kernel i d low =
      let low' : i < length (map (core_set index) kernel) = omega (arith, low, length-map kernel (core_set index)) in
      get_or-map (λ (c : CoreSet). c.tokens) (map (core_set index) kernel) i (core_set index d) [] low'
      ∙ ap (λ (c : CoreSet). c.tokens) (get_or-map (core_set index) kernel i d (core_set index d) low)
