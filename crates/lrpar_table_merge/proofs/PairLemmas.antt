-- Pairs of cores that are compatible.
use Rattle.std.proofs.Common.{◌≡◌, ◌<◌, ◌↔◌, ◌⊎◌, inl, inr, sym, subst, arith, ℕ, Bool, List, get_or, length, map}
use Rattle.std.proofs.lemmas.Bool.{cases_lt}
use Rattle.lrpar_table_items.specs.Cores.{CoreSet, core_set}
use Rattle.lrpar_table_items.specs.declared.cores.CoreItems.{CoreItems}
use Rattle.lrpar_grammar.specs.Tokens.{HaveCommon}
use Rattle.lrpar_table_merge.specs.Compatible.{ArePairCompatible, AreWeaklyCompatible, HaveSameCores, IsPairCompatible, lookaheads_at}
use Rattle.lrpar_table_merge.proofs.SameCoreLemmas.{lookaheads_of}

-- sets of the same tokens
pair_same : (l m l' m' a b a' b' : List Bool) → l ≡ a → m ≡ b → l' ≡ a' → m' ≡ b' → IsPairCompatible l m l' m' → IsPairCompatible a b a' b'
pair_same l m l' m' a b a' b' one two three four h =
    subst (λ x. IsPairCompatible a b a' x) four
    (subst (λ x. IsPairCompatible a b x m') three (subst (λ x. IsPairCompatible a x l' m') two (subst (λ x. IsPairCompatible x m l' m') one h)))

-- the lookaheads of a value
abbrev pub row_in : {S : Type 0} → List (CoreItems S) → ℕ → CoreItems S → List Bool
row_in cores i d = (get_or cores i d).tokens

-- two cores are compatible exactly if their values are
pub pair_values : {S : Type 0} (index : S → ℕ) (kernel other : List (CoreItems S)) (i j : ℕ) (d e d' e' : CoreItems S) → length other ≡ length kernel
    → i < length kernel → j < length kernel
    → IsPairCompatible (row_in kernel i d) (row_in other i e) (row_in kernel j d') (row_in other j e')
    ↔ ArePairCompatible (map (core_set index) kernel) (map (core_set index) other) i j
pair_values index kernel other i j d e d' e' len low below =
    let one = lookaheads_of index kernel i d low in
    let two = lookaheads_of index other i e (omega (arith, low, len)) in
    let three = lookaheads_of index kernel j d' below in
    let four = lookaheads_of index other j e' (omega (arith, below, len)) in (
      pair_same _ _ _ _ _ _ _ _ (sym one) (sym two) (sym three) (sym four),
      pair_same _ _ _ _ _ _ _ _ one two three four,
    )

common_back : (l m : List Bool) → HaveCommon l m → HaveCommon m l
common_back l m h = (h.0, h.2, h.1)

-- whether two cores are compatible doesn't depend on their order
pub pair_back : (kernel other : List CoreSet) (i j : ℕ) → ArePairCompatible kernel other i j → ArePairCompatible kernel other j i
pair_back kernel other i j h =
    let l = lookaheads_at kernel in
    let m = lookaheads_at other in
    elim h as (λ _. ArePairCompatible kernel other j i) [
      | inl apart ↦ inl ((λ (c : HaveCommon (l j) (m i)). apart.1 (common_back (l j) (m i) c)), (λ (c : HaveCommon (m j) (l i)). apart.0 (common_back (m j) (l i) c)))
      | inr together ↦
          inr (elim together as (λ _. HaveCommon (l j) (l i) ⊎ HaveCommon (m j) (m i)) [
            | inl first ↦ inl (common_back (l i) (l j) first)
            | inr second ↦ inr (common_back (m i) (m j) second)
          ])
    ]

-- each core of weakly compatible kernels is compatible with those before it
pub compatible_earlier : (kernel other : List CoreSet) (i : ℕ) → i < length kernel → AreWeaklyCompatible kernel other → (j : ℕ) → j < i
    → ArePairCompatible kernel other i j
compatible_earlier kernel other i low both j before = both.pairs i j low (omega (arith, low, before)) (λ same. omega (arith, before, same))

-- kernels with the same cores are weakly compatible, if each core is compatible with those before it
pub compatible_all : (kernel other : List CoreSet) → HaveSameCores kernel other
    → ((i : ℕ) → i < length kernel → (j : ℕ) → j < i → ArePairCompatible kernel other i j) → AreWeaklyCompatible kernel other
compatible_all kernel other same earlier = record {
  same = same;
  pairs = λ i j low below differ.
      elim (cases_lt j i) [
        | inl before ↦ earlier i low j before
        | inr after ↦
            elim (cases_lt i j) [
              | inl before ↦ pair_back kernel other j i (earlier j below i before)
              | inr back ↦ let is : i ≡ j = omega (arith, after, back) in absurd (differ is)
            ]
      ];
}
