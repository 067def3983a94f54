-- One kernel of a list gets the lookaheads of another one.
use Rattle.std.proofs.Common.{Vec, ◌≡◌, ◌<◌, ◌↔◌, ◌⊎◌, ◌∙◌, refl, sym, ap, subst, inl, inr, arith, ℕ, List, [], get_or, length, map, set}
use Rattle.std.proofs.lemmas.Bool.{cases_eq}
use Rattle.std.proofs.lemmas.List.{get_or-map, get_or-set_other, get_or-set_same, length-map, length-set, map-set, set-get_or}
use Rattle.std.proofs.lemmas.List.Elements.{All-set}
use Rattle.std.proofs.lemmas.List.Sums.{sum_by-set}
use Rattle.lrpar_grammar.specs.Grammar.{Grammar}
use Rattle.lrpar_table_first.specs.FirstRows.{total_missing}
use Rattle.lrpar_table_rows.specs.Graph.{ItemOf}
use Rattle.lrpar_table_items.specs.CoreOrder.{IsKernel}
use Rattle.lrpar_table_items.specs.Cores.{CoreSet, IsAmong, core_set}
use Rattle.lrpar_table_items.specs.declared.cores.CoreItems.{CoreItems}
use Rattle.lrpar_table_items.specs.Next.{kernel_at, kernel_rows}
use Rattle.lrpar_table_merge.specs.Compatible.{HaveSameCores, lookahead_rows, lr0_core}
use Rattle.lrpar_table_merge.specs.PassedOn.{AreBeginnings, IsBeginning, IsPassedTo, all_missing}
use Rattle.lrpar_table_merge.specs.United.{AreUnited, rooms_of}
use Rattle.lrpar_table_merge.proofs.AmongLemmas.{kernel_by_other, same_rooms, united_among}
use Rattle.lrpar_table_merge.proofs.KernelLemmas.{image_len}

module _ (kernels : List (List CoreSet)) (state : ℕ) (next new : List CoreSet) (low : state < length kernels) (same : HaveSameCores (kernel_at kernels state) next)
    (united : AreUnited (kernel_at kernels state) next new) where
  here : kernel_at (set kernels state new) state ≡ new
  here = get_or-set_same kernels state new [] low

  away : (s : ℕ) → (s ≡ state → ⊥) → kernel_at (set kernels state new) s ≡ kernel_at kernels s
  away s other = get_or-set_other kernels state s new [] other

  cores_after : (s : ℕ) → HaveSameCores (kernel_at (set kernels state new) s) (kernel_at kernels s)
  cores_after s =
      elim (cases_eq s state) as (λ _. HaveSameCores (kernel_at (set kernels state new) s) (kernel_at kernels s)) [
        | inl is ↦
            subst (λ n. HaveSameCores (kernel_at (set kernels state new) n) (kernel_at kernels n)) (sym is)
            (subst (λ kernel. HaveSameCores kernel (kernel_at kernels state)) (sym here) united.same)
        | inr other ↦ subst (λ kernel. HaveSameCores kernel (kernel_at kernels s)) (sym (away s other)) refl
      ]

  items_after : (s : ℕ) (x : ItemOf) → IsAmong (kernel_at (set kernels state new) s) x ↔ (IsAmong (kernel_at kernels s) x ⊎ ((s ≡ state) × IsAmong next x))
  items_after s x =
      elim (cases_eq s state)
      as (λ _. IsAmong (kernel_at (set kernels state new) s) x ↔ (IsAmong (kernel_at kernels s) x ⊎ ((s ≡ state) × IsAmong next x))) [
        | inl is ↦
            let both = united_among (kernel_at kernels state) next new united same x in (
              λ h.
                  let at = subst (λ n. IsAmong (kernel_at (set kernels state new) n) x) is h in
                  elim (both.0 (subst (λ kernel. IsAmong kernel x) here at)) [
                    | inl own ↦ inl (subst (λ n. IsAmong (kernel_at kernels n) x) (sym is) own)
                    | inr came ↦ inr (is, came)
                  ],
              λ h.
                  let all : IsAmong new x = both.1 (elim h [
                    | inl own ↦ inl (subst (λ n. IsAmong (kernel_at kernels n) x) is own)
                    | inr came ↦ inr came.1
                  ]) in
                  subst (λ n. IsAmong (kernel_at (set kernels state new) n) x) (sym is) (subst (λ kernel. IsAmong kernel x) (sym here) all),
            )
        | inr other ↦ (
          λ h. inl (subst (λ kernel. IsAmong kernel x) (away s other) h),
          λ h. elim h [
            | inl own ↦ subst (λ kernel. IsAmong kernel x) (sym (away s other)) own
            | inr came ↦ absurd (other came.0)
          ],
        )
      ]

  -- the items are passed on
  pub passed_to : IsPassedTo kernels state next (set kernels state new)
  passed_to = record { low = low; same = same; len = length-set kernels state new; cores = cores_after; items = items_after }

  pub beginnings_after : (g : Grammar) → rooms_of (kernel_at kernels state) ≡ rooms_of next → AreBeginnings g kernels → IsKernel g next
      → AreBeginnings g (set kernels state new)
  beginnings_after g room are kernel =
      let is = kernel_by_other (kernel_at kernels state) next new united same g room kernel in
      All-set (IsBeginning g) kernels state new (record { of_grammar = is.cores.of_grammar; filled = λ x h. is }) are

-- fewer tokens are missing in all kernels, if they are in one
pub fewer_after : (kernels : List (List CoreSet)) (state : ℕ) (new : List CoreSet) → state < length kernels
    → total_missing (lookahead_rows new) < total_missing (lookahead_rows (kernel_at kernels state))
    → all_missing (set kernels state new) < all_missing kernels
fewer_after kernels state new low less =
    let sums = sum_by-set (λ (kernel : List CoreSet). total_missing (lookahead_rows kernel)) kernels state new [] low in omega (arith, sums, less)

pub same_after : (kernels : List (List CoreSet)) (state : ℕ) (new : List CoreSet) → new ≡ kernel_at kernels state → set kernels state new ≡ kernels
same_after kernels state new same = ap (set kernels state) same ∙ set-get_or kernels state []

-- a state's kernel has as much room as one that is passed to it
pub rooms_at : (kernels : List (List CoreSet)) (state : ℕ) (next : List CoreSet) → state < length kernels → HaveSameCores (kernel_at kernels state) next
    → (g : Grammar) → AreBeginnings g kernels → IsKernel g next → rooms_of (kernel_at kernels state) ≡ rooms_of next
rooms_at kernels state next low same g are kernel =
    same_rooms g (kernel_at kernels state) next (image_len lr0_core (kernel_at kernels state) next same) (are state [] low).of_grammar kernel.cores.of_grammar

module _ {S A : Type 0} (index : S → ℕ) where
  abbrev cores_of : Vec (CoreItems S) A → List CoreSet
  cores_of kernel = map (core_set index) kernel.items

  -- the kernel of a state, as a value
  pub kernel_value : (kernels : List (Vec (CoreItems S) A)) (s : ℕ) (d : Vec (CoreItems S) A) → s < length kernels
      → kernel_at (kernel_rows index kernels) s ≡ map (core_set index) (get_or kernels s d).items
  kernel_value kernels s d low = get_or-map cores_of kernels s d [] low

  pub rows_len : (kernels : List (Vec (CoreItems S) A)) → length (kernel_rows index kernels) ≡ length kernels
  rows_len kernels = length-map kernels cores_of

  -- a kernel of a list of values gets the lookaheads of another one
  module _ (kernels : List (Vec (CoreItems S) A)) (state : ℕ) (d new : Vec (CoreItems S) A) (next : List CoreSet) (low : state < length kernels) where
    rows_low : state < length (kernel_rows index kernels)
    rows_low = omega (arith, low, rows_len kernels)

    rows_after : kernel_rows index (set kernels state new) ≡ set (kernel_rows index kernels) state (map (core_set index) new.items)
    rows_after = map-set cores_of kernels state new

    own : kernel_at (kernel_rows index kernels) state ≡ map (core_set index) (get_or kernels state d).items
    own = kernel_value kernels state d low

    module _ (same : HaveSameCores (kernel_at (kernel_rows index kernels) state) next)
        (united : AreUnited (map (core_set index) (get_or kernels state d).items) next (map (core_set index) new.items)) where
      united_row : AreUnited (kernel_at (kernel_rows index kernels) state) next (map (core_set index) new.items)
      united_row = subst (λ kernel. AreUnited kernel next (map (core_set index) new.items)) (sym own) united

      pub passed_value : IsPassedTo (kernel_rows index kernels) state next (kernel_rows index (set kernels state new))
      passed_value =
          subst (IsPassedTo (kernel_rows index kernels) state next) (sym rows_after)
          (passed_to (kernel_rows index kernels) state next (map (core_set index) new.items) rows_low same united_row)

      pub beginnings_value : (g : Grammar) → AreBeginnings g (kernel_rows index kernels) → IsKernel g next
          → AreBeginnings g (kernel_rows index (set kernels state new))
      beginnings_value g are kernel =
          subst (AreBeginnings g) (sym rows_after)
          (beginnings_after (kernel_rows index kernels) state next (map (core_set index) new.items) rows_low same united_row g
          (rooms_at (kernel_rows index kernels) state next rows_low same g are kernel) are kernel)

    pub fewer_kernels : total_missing (lookahead_rows (map (core_set index) new.items))
        < total_missing (lookahead_rows (map (core_set index) (get_or kernels state d).items))
        → all_missing (kernel_rows index (set kernels state new)) < all_missing (kernel_rows index kernels)
    fewer_kernels less =
        subst (λ rows. all_missing rows < all_missing (kernel_rows index kernels)) (sym rows_after)
        (fewer_after (kernel_rows index kernels) state (map (core_set index) new.items) rows_low
        (subst (λ kernel. total_missing (lookahead_rows (map (core_set index) new.items)) < total_missing (lookahead_rows kernel)) (sym own) less))

    pub same_kernels : map (core_set index) new.items ≡ map (core_set index) (get_or kernels state d).items
        → kernel_rows index (set kernels state new) ≡ kernel_rows index kernels
    same_kernels same = rows_after ∙ same_after (kernel_rows index kernels) state (map (core_set index) new.items) (same ∙ sym own)
