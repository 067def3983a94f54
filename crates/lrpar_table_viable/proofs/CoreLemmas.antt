-- The cores of a state, as they are read: some, none, and those before one.
use Rattle.std.proofs.Common.{◌≡◌, ◌<◌, ◌≤◌, ◌∙◌, ◌∷◌, ◌↔◌, ℕ, List, [], length, map, slice_index_or, refl, sym, ap, subst, inl, inr, arith}
use Rattle.std.specs.Cmp.{nat_cmp_is}
use Rattle.std.specs.List.{Contains}
use Rattle.std.specs.List.Sorted.{IsStrictlySortedBy}
use Rattle.std.specs.Ordering.{nat_cmp, ordering_then}
use Rattle.std.specs.declared.cmp.Ordering.{Ordering}
use Rattle.std.specs.declared.cmp.Ordering.TheVariants.{Greater, Less}
use Rattle.std.proofs.lemmas.Bool.{cases_eq, cases_lt}
use Rattle.std.proofs.lemmas.List.{get_or-map, get_or_default, length-map}
use Rattle.std.proofs.lemmas.Map.Keys.{Less-from_sorted}
use Rattle.lrpar_grammar_places.specs.declared.span.PIdx.{PIdx}
use Rattle.lrpar_grammar.specs.Grammar.{Grammar, prod_len, prods_len}
use Rattle.lrpar_table_rows.specs.Graph.{Graph, HasCore, core_cmp}
use Rattle.lrpar_table_rows.specs.PlainItems.{core_of}
use Rattle.lrpar_table_rows.specs.Safe.{HasShape}
use Rattle.lrpar_table_rows.specs.Table.{Table}
use Rattle.lrpar_table_rows.proofs.ItemLemmas.{Contains-image, Contains-preimage}

-- a core of a greater production isn't less
not_less : (p k q l : ℕ) → q < p → core_cmp (p, k) (q, l) ≡ Less → ⊥
not_less p k q l less is =
    let greater : nat_cmp p q ≡ Greater = sym (nat_cmp_is p q Greater less) in
    let order : core_cmp (p, k) (q, l) ≡ Greater = ap (λ (o : Ordering). ordering_then o (nat_cmp k l)) greater in
    absurd (cc)

module _ {S : Type 0} (index : S → ℕ) where
  -- a core that is read is one of the grammar's that the state has
  pub core_known : (g : Grammar) (graph : Graph) (table : Table) (s : ℕ) (cores : List (PIdx S × ℕ)) (i : ℕ) (core : PIdx S × ℕ) → HasShape g graph table
      → ((p k : ℕ) → HasCore graph s p k ↔ Contains (map (core_of index) cores) (p, k)) → i < length cores → core ≡ slice_index_or cores i core
      → (index core.0.0 < prods_len g) × (core.1 ≤ prod_len g (index core.0.0)) × HasCore graph s (index core.0.0) core.1
  core_known g graph table s cores i core shape all below is =
      let has : HasCore graph s (index core.0.0) core.1 =
      (all (index core.0.0) core.1).1 (Contains-image (core_of index) cores core (i, below, sym is)) in
      let item = shape.items s (index core.0.0) core.1 has.0 has.1 in (item.prod, item.dot, has)

  -- if no core is read, there is none
  pub no_core : (graph : Graph) (s : ℕ) (cores : List (PIdx S × ℕ)) → ((p k : ℕ) → HasCore graph s p k ↔ Contains (map (core_of index) cores) (p, k))
      → length cores ≡ 0 → (p k : ℕ) → ¬ (HasCore graph s p k)
  no_core graph s cores all none p k has =
      let there = (all p k).0 has in
      let count = length-map cores (core_of index) in
      omega (arith, there.1, count, none)

  -- if one is read, there is one
  pub some_core : (graph : Graph) (s : ℕ) (cores : List (PIdx S × ℕ)) → ((p k : ℕ) → HasCore graph s p k ↔ Contains (map (core_of index) cores) (p, k))
      → (length cores ≡ 0 → ⊥) → (p : ℕ) × (k : ℕ) × HasCore graph s p k
  some_core graph s [] all some = absurd (some refl)
  some_core graph s (core ∷ cores) all some =
      (index core.0.0, core.1, (all (index core.0.0) core.1).1 (Contains-image (core_of index) (core ∷ cores) core (0, omega arith, refl)))

  module _ (cores : List (PIdx S × ℕ)) (sorted : IsStrictlySortedBy core_cmp (map (core_of index) cores)) (i : ℕ) (core : PIdx S × ℕ)
      (low : i < length cores) (is : core ≡ slice_index_or cores i core) where
    -- a core at or after a place isn't of a lower production
    not_after : (j : ℕ) (other : PIdx S × ℕ) → i ≤ j → j < length cores → slice_index_or cores j other ≡ other → index other.0.0 < index core.0.0 → ⊥
    not_after j other from inside at less =
        let read : slice_index_or cores i other ≡ core = get_or_default cores i other core low ∙ sym is in
        elim (cases_eq i j) as (λ _. ⊥) [
          | inl same ↦
              let one : core ≡ other = sym read ∙ ap (λ (n : ℕ). slice_index_or cores n other) same ∙ at in
              let number = ap (λ (x : PIdx S × ℕ). index x.0.0) one in
              omega (arith, number, less)
          | inr apart ↦
              let f = core_of index in
              let count = length-map cores f in
              let before = Less-from_sorted core_cmp (map f cores) i j (f other) sorted (omega (arith, from, apart)) (omega (arith, inside, count)) in
              let here : slice_index_or (map f cores) i (f other) ≡ f core = get_or-map f cores i other (f other) low ∙ ap f read in
              let there : slice_index_or (map f cores) j (f other) ≡ f other = get_or-map f cores j other (f other) inside ∙ ap f at in
              not_less (index core.0.0) core.1 (index other.0.0) other.1 less
              (subst (λ (x : ℕ × ℕ). core_cmp (f core) x ≡ Less) there
              (subst (λ (x : ℕ × ℕ). core_cmp x (slice_index_or (map f cores) j (f other)) ≡ Less) here before))
        ]

    -- so what holds of each core before it holds of those of lower productions
    pub holds_of_lower : (P : ℕ → ℕ → Type 0)
        → ((j : ℕ) (d : PIdx S × ℕ) → j < i → P (index (slice_index_or cores j d).0.0) (slice_index_or cores j d).1)
        → (q k : ℕ) → q < index core.0.0 → Contains (map (core_of index) cores) (q, k) → P q k
    holds_of_lower P so_far q k less has =
        let found = Contains-preimage (core_of index) cores (q, k) has in
        let other = found.0 in
        let j = found.1.0 in
        elim (cases_lt j i) as (λ _. P q k) [
          | inl before ↦
              subst (λ (c : ℕ × ℕ). P c.0 c.1) found.2
              (subst (λ (x : PIdx S × ℕ). P (index x.0.0) x.1) found.1.2 (so_far j other before))
          | inr from ↦
              let number : index other.0.0 ≡ q = ap (λ (c : ℕ × ℕ). c.0) found.2 in
              absurd (not_after j other from found.1.1 found.1.2 (omega (arith, number, less)))
        ]
