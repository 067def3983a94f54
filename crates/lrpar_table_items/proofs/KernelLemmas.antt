-- An item set has one kernel: two lists of cores in order, each with at least one lookahead, are the same if their items are.
use Rattle.std.proofs.Common.{◌≡◌, ◌≤◌, ◌+◌, ◌==◌, ◌&&◌, ◌⊎◌, ◌∙◌, refl, sym, ap, subst, inl, inr, arith, zero-add, ℕ, Bool, false, cond, List, [], ◌∷◌, All, length, IsTrue}
use Rattle.std.specs.List.{Contains, count_by}
use Rattle.std.proofs.lemmas.List.Sums.{sum_by-cons}
use Rattle.std.proofs.lemmas.Bool.{and_parts, cases_Bool, eqb-true, false≢true}
use Rattle.std.proofs.lemmas.List.{ext_get_or}
use Rattle.std.proofs.lemmas.List.Elements.{All-contains, All-head, All-tail, Contains-append_left, Contains-append_right, Contains-push}
use Rattle.lrpar_grammar.specs.Grammar.{Grammar, rule_of}
use Rattle.lrpar_table_rows.specs.Graph.{ItemOf}
use Rattle.lrpar_table_items.specs.Canonical.{AreSame}
use Rattle.lrpar_table_items.specs.Cores.{CoreSet, IsAmong}
use Rattle.lrpar_table_first.specs.FirstRows.{dummy_lookahead}
use Rattle.lrpar_table_items.specs.CoreOrder.{AreCores, AreCoresInOrder, ComesBefore, IsFilled, IsProdBefore, Precedes}
use Rattle.lrpar_grammar.specs.Tokens.{has}
use Rattle.lrpar_table_items.specs.Resolution.{AreOnce}
use Rattle.lrpar_table_items.proofs.CoreLemmas.{among_cons, among_nil, core_is}

-- sets of tokens with the same room and the same tokens are the same
bits_is : (xs ys : List Bool) → length xs ≡ length ys → ((t : ℕ) → IsTrue (has xs t) → IsTrue (has ys t)) → ((t : ℕ) → IsTrue (has ys t) → IsTrue (has xs t)) → xs ≡ ys
bits_is xs ys len to back =
    ext_get_or false xs ys len
    (λ t _. elim (cases_Bool (has xs t)) as (λ _. has xs t ≡ has ys t) [
      | inl there ↦ there ∙ sym (to t there)
      | inr lacks ↦
          elim (cases_Bool (has ys t)) as (λ _. has xs t ≡ has ys t) [
            | inl there ↦ absurd (false≢true (sym lacks ∙ back t there))
            | inr none ↦ lacks ∙ sym none
          ]
    ])

abbrev is_core : ℕ → ℕ → CoreSet → Bool
is_core p k core = (core.prod == p) && (core.dot == k)

module _ (g : Grammar) where
  -- the order of cores is irreflexive and asymmetric
  itself : (p k q l : ℕ) → p ≡ q → k ≡ l → Precedes g p k q l → ⊥
  itself p k q l prod dot h =
      let rule = ap (rule_of g) prod in
      elim h [
        | inl greater ↦ omega (arith, greater, dot)
        | inr further ↦
            elim further.1 [
              | inl less ↦ omega (arith, less, rule)
              | inr same ↦ let low = same.1 in omega (arith, low, prod)
            ]
      ]

  listed_asymmetric : (p q : ℕ) → IsProdBefore g p q → IsProdBefore g q p → ⊥
  listed_asymmetric p q h back =
      elim h [
        | inl less ↦
            elim back [
              | inl more ↦ omega (arith, less, more)
              | inr other ↦ let rule = other.0 in omega (arith, less, rule)
            ]
        | inr same ↦
            let rule = same.0 in
            let low = same.1 in
            elim back [
              | inl more ↦ omega (arith, rule, more)
              | inr other ↦ let high = other.1 in omega (arith, low, high)
            ]
      ]

  precedes_asymmetric : (p k q l : ℕ) → Precedes g p k q l → Precedes g q l p k → ⊥
  precedes_asymmetric p k q l h back =
      elim h [
        | inl greater ↦
            elim back [
              | inl other ↦ omega (arith, greater, other)
              | inr further ↦ let same = further.0 in omega (arith, greater, same)
            ]
        | inr first ↦
            let dots = first.0 in
            elim back [
              | inl other ↦ omega (arith, dots, other)
              | inr further ↦ listed_asymmetric p q first.1 further.1
            ]
      ]

  -- the cores of items among later cores come later
  later : (core : CoreSet) (cores : List CoreSet) (x : ItemOf) → All (ComesBefore g core) cores → IsAmong cores x
      → Precedes g core.prod core.dot x.prod x.dot
  later core cores x all h =
      let before = All-contains (ComesBefore g core) cores h.0 all h.1 in
      subst (λ k. Precedes g core.prod core.dot x.prod k) h.2.1 (subst (λ p. Precedes g core.prod core.dot p h.0.dot) h.2.0 before)

  -- if all items of the first list are among the second, the second list's first core is the first one's, or comes before it
  leads : (a b : CoreSet) (xs ys : List CoreSet) → IsFilled a → AreCoresInOrder g (b ∷ ys) → ((x : ItemOf) → IsAmong (a ∷ xs) x → IsAmong (b ∷ ys) x)
      → ((b.prod ≡ a.prod) × (b.dot ≡ a.dot)) ⊎ ComesBefore g b a
  leads a b xs ys filled order to =
      let x : ItemOf = record { prod = a.prod; dot = a.dot; token = filled.0 } in
      elim ((among_cons b ys x).0 (to x ((among_cons a xs x).1 (inl (refl, refl, filled.1))))) [
        | inl of ↦ inl (of.0, of.1)
        | inr further ↦ inr (later b ys x order.0 further)
      ]

  module _ (a b : CoreSet) (xs ys : List CoreSet) (prod : a.prod ≡ b.prod) (dot : a.dot ≡ b.dot) (order : AreCoresInOrder g (a ∷ xs)) (other : AreCoresInOrder g (b ∷ ys))
      (to : (x : ItemOf) → IsAmong (a ∷ xs) x → IsAmong (b ∷ ys) x) where
    -- if the first cores are the same, the second list's has all lookaheads of the first list's
    first_tokens : (t : ℕ) → IsTrue (has a.tokens t) → IsTrue (has b.tokens t)
    first_tokens t h =
        let x : ItemOf = record { prod = a.prod; dot = a.dot; token = t } in
        elim ((among_cons b ys x).0 (to x ((among_cons a xs x).1 (inl (refl, refl, h))))) [
          | inl of ↦ of.2
          | inr further ↦ absurd (itself b.prod b.dot a.prod a.dot (sym prod) (sym dot) (later b ys x other.0 further))
        ]

    -- and the other items of the first list are among the other items of the second
    others : (x : ItemOf) → IsAmong xs x → IsAmong ys x
    others x h =
        elim ((among_cons b ys x).0 (to x ((among_cons a xs x).1 (inr h)))) [
          | inl of ↦ absurd (itself a.prod a.dot x.prod x.dot (prod ∙ of.0) (dot ∙ of.1) (later a xs x order.0 h))
          | inr further ↦ further
        ]

  -- cores with the same items are the same
  cores_is : (n : ℕ) (xs ys : List CoreSet) → AreCoresInOrder g xs → AreCoresInOrder g ys → All IsFilled xs → All IsFilled ys
      → All (λ core. length core.tokens ≡ n) xs → All (λ core. length core.tokens ≡ n) ys → AreSame (IsAmong xs) (IsAmong ys) → xs ≡ ys
  cores_is n [] [] order other filled full wide broad same = refl
  cores_is n [] (b ∷ ys) order other filled full wide broad same =
      let some = All-head IsFilled b ys full in
      let x : ItemOf = record { prod = b.prod; dot = b.dot; token = some.0 } in
      absurd (among_nil x ((same x).1 ((among_cons b ys x).1 (inl (refl, refl, some.1)))))
  cores_is n (a ∷ xs) [] order other filled full wide broad same =
      let some = All-head IsFilled a xs filled in
      let x : ItemOf = record { prod = a.prod; dot = a.dot; token = some.0 } in
      absurd (among_nil x ((same x).0 ((among_cons a xs x).1 (inl (refl, refl, some.1)))))
  cores_is n (a ∷ xs) (b ∷ ys) order other filled full wide broad same =
      let to = λ (x : ItemOf). (same x).0 in
      let back = λ (x : ItemOf). (same x).1 in
      let core : (a.prod ≡ b.prod) × (a.dot ≡ b.dot) =
      elim (leads a b xs ys (All-head IsFilled a xs filled) other to) [
        | inl is ↦ (sym is.0, sym is.1)
        | inr before ↦
            elim (leads b a ys xs (All-head IsFilled b ys full) order back) [
              | inl is ↦ is
              | inr after ↦ absurd (precedes_asymmetric b.prod b.dot a.prod a.dot before after)
            ]
      ] in
      let Wide = λ (c : CoreSet). length c.tokens ≡ n in
      let len : length a.tokens ≡ length b.tokens = All-head Wide a xs wide ∙ sym (All-head Wide b ys broad) in
      let tokens =
      bits_is a.tokens b.tokens len (first_tokens a b xs ys core.0 core.1 order other to)
      (first_tokens b a ys xs (sym core.0) (sym core.1) other order back) in
      let first : a ≡ b = core_is a b core.0 core.1 tokens in
      let same_rest : xs ≡ ys =
      cores_is n xs ys order.1 other.1 (All-tail IsFilled a xs filled) (All-tail IsFilled b ys full) (All-tail Wide a xs wide) (All-tail Wide b ys broad)
      (λ x. (others a b xs ys core.0 core.1 order other to x, others b a ys xs (sym core.0) (sym core.1) other order back x)) in
      cc

  -- so are cores of a grammar
  pub one_kernel : (xs ys : List CoreSet) → AreCores g xs → AreCores g ys → AreSame (IsAmong xs) (IsAmong ys) → xs ≡ ys
  one_kernel xs ys cores others same =
      cores_is (dummy_lookahead g + 1) xs ys cores.in_order others.in_order cores.filled others.filled (λ k d low. (cores.of_grammar k d low).wide)
      (λ k d low. (others.of_grammar k d low).wide) same

  -- cores in order have each core once
  none_of : (cores : List CoreSet) (p k : ℕ) → ((core : CoreSet) → Contains cores core → (core.prod ≡ p) × (core.dot ≡ k) → ⊥)
      → count_by (is_core p k) cores ≡ 0
  none_of [] p k apart = refl
  none_of (core ∷ cores) p k apart =
      let rest =
      none_of cores p k (λ c there is. apart c (Contains-append_right (core ∷ []) cores c there) is) in
      elim (cases_Bool (is_core p k core)) as (λ _. count_by (is_core p k) (core ∷ cores) ≡ 0) [
        | inl is ↦
            let parts = and_parts (core.prod == p) (core.dot == k) is in
            absurd (apart core (Contains-append_left (core ∷ []) cores core (Contains-push [] core)) (eqb-true core.prod p parts.0, eqb-true core.dot k parts.1))
        | inr other ↦ sum_by-cons (λ c. cond (is_core p k c) 1 0) core cores ∙ ap (λ b. cond b 1 0 + count_by (is_core p k) cores) other ∙ zero-add (count_by (is_core p k) cores) ∙ rest
      ]

  pub once_in_order : (cores : List CoreSet) → AreCoresInOrder g cores → AreOnce cores
  once_in_order [] order p k = omega arith
  once_in_order (core ∷ cores) order p k =
      let rest = once_in_order cores order.1 p k in
      let count = sum_by-cons (λ c. cond (is_core p k c) 1 0) core cores in
      elim (cases_Bool (is_core p k core)) as (λ _. count_by (is_core p k) (core ∷ cores) ≤ 1) [
        | inl is ↦
            let parts = and_parts (core.prod == p) (core.dot == k) is in
            let prod = eqb-true core.prod p parts.0 in
            let dot = eqb-true core.dot k parts.1 in
            let none =
            none_of cores p k
            (λ c there same. itself core.prod core.dot c.prod c.dot (prod ∙ sym same.0) (dot ∙ sym same.1)
            (All-contains (ComesBefore g core) cores c order.0 there)) in
            let one = count ∙ ap (λ b. cond b 1 0 + count_by (is_core p k) cores) is in omega (arith, one, none)
        | inr other ↦ let same = count ∙ ap (λ b. cond b 1 0 + count_by (is_core p k) cores) other in omega (arith, same, rest)
      ]
