-- Each state is listed for the production of its kernel's first core, so a kernel is compared with all states that have its LR(0) cores.
use Rattle.std.proofs.Common.{Vec, ◌≡◌, ◌<◌, ◌+◌, ◌∙◌, refl, sym, ap, subst, inl, inr, arith, ℕ, Bool, false, IsTrue, List, [], ◌∷◌, ◌++◌, get_or, length, map, set}
use Rattle.std.specs.List.{Contains}
use Rattle.std.proofs.lemmas.Bool.{cases_eq, cases_lt, false≢true}
use Rattle.std.proofs.lemmas.List.{get_or_append_left, get_or_default, get_or-map, get_or_push, get_or-set_other, get_or-set_same, length-map, length-set, length_push, map-set}
use Rattle.std.proofs.lemmas.List.Elements.{All-contains, Contains-append_left, Contains-append_right}
use Rattle.lrpar_table_items.specs.Cores.{CoreSet, core_set}
use Rattle.lrpar_table_items.specs.declared.cores.CoreItems.{CoreItems}
use Rattle.lrpar_table_items.specs.Next.{kernel_at}
use Rattle.lrpar_table_merge.specs.Compatible.{AreWeaklyCompatible, HaveSameCores, lr0_core}
use Rattle.lrpar_table_merge.specs.Merging.{AreRegistered, NoneIsCompatible, NoneOfIsCompatible, first_prod, numbers_for}
use Rattle.lrpar_table_merge.proofs.KernelLemmas.{image_len}

-- kernels with the same cores begin with the same production
pub first_same : (kernel other : List CoreSet) → HaveSameCores kernel other → first_prod kernel ≡ first_prod other
first_same [] [] same = refl
first_same [] (core ∷ cores) same = let len = image_len lr0_core [] (core ∷ cores) same in absurd (omega (arith, len))
first_same (core ∷ cores) [] same = let len = image_len lr0_core (core ∷ cores) [] same in absurd (omega (arith, len))
first_same (core ∷ cores) (other ∷ others) same = ap (λ (rows : List (ℕ × ℕ)). (get_or rows 0 (0, 0)).0) same

-- one more of the numbers is tested
pub tested_more : (kernels : List (List CoreSet)) (kernel : List CoreSet) (numbers : List ℕ) (i n : ℕ) (compatible : Bool) → i < length numbers
    → n ≡ get_or numbers i n → (n < length kernels → AreWeaklyCompatible (kernel_at kernels n) kernel → IsTrue compatible) → compatible ≡ false
    → ((k d : ℕ) → k < i → get_or numbers k d < length kernels → AreWeaklyCompatible (kernel_at kernels (get_or numbers k d)) kernel → ⊥)
    → (k d : ℕ) → k < i + 1 → get_or numbers k d < length kernels → AreWeaklyCompatible (kernel_at kernels (get_or numbers k d)) kernel → ⊥
tested_more kernels kernel numbers i n compatible within is test fails so_far k d low =
    elim (cases_lt k i) [
      | inl before ↦ so_far k d before
      | inr end ↦
          let last : i ≡ k = omega (arith, low, end) in
          let at : n ≡ get_or numbers k d = is ∙ get_or_default numbers i n d within ∙ ap (λ j. get_or numbers j d) last in
          subst (λ m. m < length kernels → AreWeaklyCompatible (kernel_at kernels m) kernel → ⊥) at
          (λ below both. false≢true (sym fails ∙ test below both))
    ]

-- the production with which a kernel begins, as a value
pub begins_is : {S : Type 0} (index : S → ℕ) (kernel : List (CoreItems S)) (d : CoreItems S) → 0 < length kernel
    → first_prod (map (core_set index) kernel) ≡ index (get_or kernel 0 d).prod.0
begins_is index [] d some = absurd (omega (arith, some))
begins_is index (core ∷ cores) d some = refl

-- the numbers that are listed for a production, as they are read
pub listed_read : {A : Type 0} (lists : List (Vec ℕ A)) (p : ℕ) (list : Vec ℕ A) → p < length lists → list ≡ get_or lists p list
    → list.items ≡ numbers_for lists p
listed_read lists p list low is = ap (λ (v : Vec ℕ _). v.items) is ∙ sym (get_or-map (λ (v : Vec ℕ _). v.items) lists p list [] low)

module _ {A : Type 0} (lists : List (Vec ℕ A)) (kernels : List (List CoreSet)) (listed : AreRegistered lists kernels) where
  -- if none of the states that are listed for its production is compatible with a kernel, none is at all
  pub none_compatible : (kernel : List CoreSet) (p : ℕ) → first_prod kernel ≡ p → NoneOfIsCompatible kernels (numbers_for lists p) kernel
      → NoneIsCompatible kernels kernel
  none_compatible kernel p is none s low compatible =
      All-contains (λ n. n < length kernels → AreWeaklyCompatible (kernel_at kernels n) kernel → ⊥) (numbers_for lists p) s none
      (subst (λ q. Contains (numbers_for lists q) s) (first_same (kernel_at kernels s) kernel compatible.same ∙ is) (listed s low)) low compatible

  -- a state's kernel gets other lookaheads
  pub listed_set : (s : ℕ) (new : List CoreSet) → s < length kernels → HaveSameCores new (kernel_at kernels s) → AreRegistered lists (set kernels s new)
  listed_set s new low same n below =
      let within : n < length kernels = omega (arith, below, length-set kernels s new) in
      elim (cases_eq n s) [
        | inl is ↦
            let at : first_prod (kernel_at kernels s) ≡ first_prod (kernel_at (set kernels s new) s) =
            sym (first_same new (kernel_at kernels s) same) ∙ ap first_prod (sym (get_or-set_same kernels s new [] low)) in
            subst (λ k. Contains (numbers_for lists (first_prod (kernel_at (set kernels s new) k))) k) (sym is)
            (subst (λ p. Contains (numbers_for lists p) s) at (listed s low))
        | inr other ↦
            subst (λ kernel. Contains (numbers_for lists (first_prod kernel)) n) (sym (get_or-set_other kernels s n new [] other)) (listed n within)
      ]

  -- a state is added, and listed
  module _ (after : List (Vec ℕ A)) (kernel : List CoreSet) (p number : ℕ) (list : Vec ℕ A) (low : p < length lists) (is : after ≡ set lists p list)
      (at : number ≡ length kernels) (items : list.items ≡ numbers_for lists p ++ number ∷ []) (begins : first_prod kernel ≡ p) where
    abbrev lists_of : List (Vec ℕ A) → List (List ℕ)
    lists_of = map (λ v. v.items)

    after_is : lists_of after ≡ set (lists_of lists) p list.items
    after_is = ap lists_of is ∙ map-set (λ (v : Vec ℕ A). v.items) lists p list

    here : numbers_for after p ≡ numbers_for lists p ++ number ∷ []
    here =
        ap (λ rows. get_or rows p []) after_is
        ∙ get_or-set_same (lists_of lists) p list.items [] (omega (arith, low, length-map lists (λ (v : Vec ℕ A). v.items))) ∙ items

    away : (q : ℕ) → (q ≡ p → ⊥) → numbers_for after q ≡ numbers_for lists q
    away q other = ap (λ rows. get_or rows q []) after_is ∙ get_or-set_other (lists_of lists) p q list.items [] other

    still : (q n : ℕ) → Contains (numbers_for lists q) n → Contains (numbers_for after q) n
    still q n there =
        elim (cases_eq q p) [
          | inl same ↦
              subst (λ k. Contains (numbers_for after k) n) (sym same)
              (subst (λ xs. Contains xs n) (sym here)
              (Contains-append_left (numbers_for lists p) (number ∷ []) n (subst (λ k. Contains (numbers_for lists k) n) same there)))
          | inr other ↦ subst (λ xs. Contains xs n) (sym (away q other)) there
        ]

    pub listed_push : AreRegistered after (kernels ++ kernel ∷ [])
    listed_push n below =
        elim (cases_lt n (length kernels)) [
          | inl first ↦
              subst (λ k. Contains (numbers_for after (first_prod k)) n) (sym (get_or_append_left kernels (kernel ∷ []) [] n first))
              (still (first_prod (kernel_at kernels n)) n (listed n first))
          | inr end ↦
              let last : n ≡ length kernels = omega (arith, below, end, length_push kernels kernel) in
              let mine : number ≡ n = at ∙ sym last in
              subst (λ k. Contains (numbers_for after (first_prod k)) n) (sym (get_or_push kernels kernel [] n (sym last)))
              (subst (λ q. Contains (numbers_for after q) n) (sym begins)
              (subst (λ xs. Contains xs n) (sym here)
              (Contains-append_right (numbers_for lists p) (number ∷ []) n (subst (Contains (number ∷ [])) mine (0, omega arith, refl)))))
        ]
