-- Kernels whose lookaheads are removed, one core after the other.
use Rattle.std.proofs.Common.{Vec, ◌≡◌, ◌<◌, ◌+◌, ◌∙◌, sym, ap, subst, inl, inr, arith, ℕ, IsTrue, false, List, [], ◌++◌, All, drop, get_or, length, map, set, take}
use Rattle.std.proofs.lemmas.Bool.{cases_eq, false≢true}
use Rattle.std.proofs.lemmas.List.{get_or-map, get_or-set_other, get_or-set_same, get_or_default, length-map, length-set, map-set}
use Rattle.std.proofs.lemmas.List.Elements.{All-set}
use Rattle.std.proofs.Math.Seq.{take-append_seam}
use Rattle.lrpar_grammar.specs.Grammar.{Grammar}
use Rattle.lrpar_grammar.specs.Tokens.{has}
use Rattle.lrpar_table_rows.specs.Graph.{ItemOf}
use Rattle.lrpar_table_items.specs.Cores.{CoreSet, IsAmong, IsCoreOf, core_set}
use Rattle.lrpar_table_items.specs.declared.cores.CoreItems.{CoreItems}
use Rattle.lrpar_table_items.specs.Next.{kernel_at, kernel_rows}
use Rattle.lrpar_table_merge.specs.Compatible.{HaveSameCores, lookaheads_at, lr0_core}
use Rattle.lrpar_table_merge.specs.PassedOn.{AreBeginnings}
use Rattle.lrpar_table_merge.specs.Propagated.{AreAlike}
use Rattle.lrpar_table_merge.specs.StoredKernels.{AreSameCores, HasNoLookahead, HaveNoItem, IsSameCore, KeepCores, StayAlike, StayCores, StaysCore}
use Rattle.lrpar_table_merge.proofs.PropagateLemmas.{alike_on, among_low}
use Rattle.lrpar_table_merge.proofs.UniteLemmas.{at_other, at_same, map_set_same}

-- a list that was lent and written back
pub back : {X : Type 0} (items lent new : List X) (len : ℕ) → length items ≡ len → lent ≡ items → length new ≡ length lent
    → take len (new ++ drop (length new) items) ≡ new
back items lent new len held value same =
    let lent_len = ap (λ (xs : List _). length xs) value in
    let long : len ≡ length new = omega (arith, held, same, lent_len) in
    ap (λ n. take n (new ++ drop (length new) items)) long ∙ take-append_seam new (drop (length new) items)

-- cores without lookaheads have no items
pub no_lookaheads : (cores : List CoreSet) → ((k : ℕ) → k < length cores → (t : ℕ) → has (lookaheads_at cores k) t ≡ false)
    → (x : ItemOf) → IsAmong cores x → ⊥
no_lookaheads cores none x h =
    let k = h.1.0 in
    let low = h.1.1 in
    let at : lookaheads_at cores k ≡ h.0.tokens = get_or-map (λ (c : CoreSet). c.tokens) cores k h.0 [] low ∙ ap (λ (c : CoreSet). c.tokens) h.1.2 in
    false≢true (sym (none k low x.token) ∙ subst (λ row. IsTrue (has row x.token)) (sym at) h.2.2)

-- the cores at the first n places have no lookaheads; all are still cores of a grammar, with the same LR(0) cores
pub record AreClearedTo {S : Type 0} (index : S → ℕ) (first now : List (CoreItems S)) (n : ℕ) : Type 0 where
  pub cores : StayCores index first now
  pub same : AreSameCores index now first
  pub none : (k : ℕ) → k < n → (t : ℕ) → has (lookaheads_at (map (core_set index) now) k) t ≡ false

-- the same of the first n kernels
pub record AreKernelsClearedTo {S A : Type 0} (index : S → ℕ) (first now : List (Vec (CoreItems S) A)) (n : ℕ) : Type 0 where
  pub cores : KeepCores index first now
  pub alike : StayAlike index first now
  pub none : (s : ℕ) → s < n → (x : ItemOf) → IsAmong (kernel_at (kernel_rows index now) s) x → ⊥

module _ {S : Type 0} (index : S → ℕ) (kernel : List (CoreItems S)) (place : ℕ) (core d : CoreItems S) (low : place < length kernel) where
  low_value : place < length (map (core_set index) kernel)
  low_value = omega (arith, low, length-map kernel (core_set index))

  -- one more core has no lookaheads
  pub cleared_more : ((t : ℕ) → has core.tokens t ≡ false)
      → ((k : ℕ) → k < place → (t : ℕ) → has (lookaheads_at (map (core_set index) kernel) k) t ≡ false)
      → (k : ℕ) → k < place + 1 → (t : ℕ) → has (lookaheads_at (map (core_set index) (set kernel place core)) k) t ≡ false
  cleared_more none so_far k below t =
      let rows = map (core_set index) kernel in
      subst (λ (cores : List CoreSet). has (lookaheads_at cores k) t ≡ false) (sym (map-set (core_set index) kernel place core))
      (elim (cases_eq k place) as (λ _. has (lookaheads_at (set rows place (core_set index core)) k) t ≡ false) [
        | inl is ↦
            ap (λ n. has (lookaheads_at (set rows place (core_set index core)) n) t) is
            ∙ ap (λ row. has row t) (at_same rows place (core_set index core) (core_set index d) low_value) ∙ none t
        | inr other ↦
            ap (λ row. has row t) (at_other rows place (core_set index core) (core_set index d) low_value k other) ∙ so_far k (omega (arith, below, other)) t
      ])

  -- the LR(0) cores stay
  pub same_more : lr0_core (core_set index core) ≡ lr0_core (core_set index (get_or kernel place d))
      → HaveSameCores (map (core_set index) (set kernel place core)) (map (core_set index) kernel)
  same_more same =
      ap (map lr0_core) (map-set (core_set index) kernel place core)
      ∙ map_set_same lr0_core (map (core_set index) kernel) place (core_set index core) (core_set index d) low_value
      (same ∙ sym (ap lr0_core (get_or-map (core_set index) kernel place d (core_set index d) low)))

  -- it is one of the grammar if it was
  pub cores_more : (g : Grammar) → (IsCoreOf g (core_set index (get_or kernel place d)) → IsCoreOf g (core_set index core))
      → All (IsCoreOf g) (map (core_set index) kernel) → All (IsCoreOf g) (map (core_set index) (set kernel place core))
  cores_more g stays are =
      let was = subst (IsCoreOf g) (get_or-map (core_set index) kernel place d (core_set index d) low) (are place (core_set index d) low_value) in
      subst (All (IsCoreOf g)) (sym (map-set (core_set index) kernel place core))
      (All-set (IsCoreOf g) (map (core_set index) kernel) place (core_set index core) (stays was) are)

  -- so one more core is cleared
  pub cleared_on : (first : List (CoreItems S)) → AreClearedTo index first kernel place → StaysCore index (get_or kernel place d) core
      → IsSameCore index core (get_or kernel place d) → HasNoLookahead core → AreClearedTo index first (set kernel place core) (place + 1)
  cleared_on first so_far stays same none = record {
    cores = λ g are. cores_more g (stays g) (so_far.cores g are);
    same = same_more same ∙ so_far.same;
    none = cleared_more none so_far.none;
  }

module _ {S A : Type 0} (index : S → ℕ) (kernels : List (Vec (CoreItems S) A)) (state : ℕ) (new d : Vec (CoreItems S) A) (low : state < length kernels) where
  abbrev cores_of : Vec (CoreItems S) A → List CoreSet
  cores_of kernel = map (core_set index) kernel.items

  low_row : state < length (kernel_rows index kernels)
  low_row = omega (arith, low, length-map kernels cores_of)

  rows_set : kernel_rows index (set kernels state new) ≡ set (kernel_rows index kernels) state (cores_of new)
  rows_set = map-set cores_of kernels state new

  -- one more kernel has no items
  pub empty_more : ((x : ItemOf) → IsAmong (map (core_set index) new.items) x → ⊥)
      → ((s : ℕ) → s < state → (x : ItemOf) → IsAmong (kernel_at (kernel_rows index kernels) s) x → ⊥)
      → (s : ℕ) → s < state + 1 → (x : ItemOf) → IsAmong (kernel_at (kernel_rows index (set kernels state new)) s) x → ⊥
  empty_more none so_far s below x h =
      let rows = kernel_rows index kernels in
      let there = subst (λ (ks : List (List CoreSet)). IsAmong (kernel_at ks s) x) rows_set h in
      elim (cases_eq s state) as (λ _. ⊥) [
        | inl is ↦
            none x (subst (λ kernel. IsAmong kernel x)
            (ap (kernel_at (set rows state (cores_of new))) is ∙ get_or-set_same rows state (cores_of new) [] low_row) there)
        | inr other ↦
            so_far s (omega (arith, below, other)) x (subst (λ kernel. IsAmong kernel x) (get_or-set_other rows state s (cores_of new) [] other) there)
      ]

  pub alike_more : HaveSameCores (map (core_set index) new.items) (map (core_set index) (get_or kernels state d).items)
      → AreAlike (kernel_rows index kernels) (kernel_rows index (set kernels state new))
  alike_more same =
      let rows = kernel_rows index kernels in
      let own : kernel_at rows state ≡ cores_of (get_or kernels state d) = get_or-map cores_of kernels state d [] low in
      subst (AreAlike rows) (sym rows_set) (record {
        len = length-set rows state (cores_of new);
        cores = λ s.
            elim (cases_eq s state) as (λ _. HaveSameCores (kernel_at (set rows state (cores_of new)) s) (kernel_at rows s)) [
              | inl is ↦
                  ap (λ n. map lr0_core (kernel_at (set rows state (cores_of new)) n)) is
                  ∙ ap (map lr0_core) (get_or-set_same rows state (cores_of new) [] low_row) ∙ same ∙ ap (map lr0_core) (sym own)
                  ∙ ap (λ n. map lr0_core (kernel_at rows n)) (sym is)
              | inr other ↦ ap (map lr0_core) (get_or-set_other rows state s (cores_of new) [] other)
            ];
      })

  pub kernels_more : (g : Grammar)
      → (All (IsCoreOf g) (map (core_set index) (get_or kernels state d).items) → All (IsCoreOf g) (map (core_set index) new.items))
      → All (All (IsCoreOf g)) (kernel_rows index kernels) → All (All (IsCoreOf g)) (kernel_rows index (set kernels state new))
  kernels_more g stays are =
      let was = subst (All (IsCoreOf g)) (get_or-map cores_of kernels state d (cores_of d) low) (are state (cores_of d) low_row) in
      subst (All (All (IsCoreOf g))) (sym rows_set) (All-set (All (IsCoreOf g)) (kernel_rows index kernels) state (cores_of new) (stays was) are)

  -- so one more kernel is cleared
  pub kernels_cleared_on : (first : List (Vec (CoreItems S) A)) → AreKernelsClearedTo index first kernels state
      → StayCores index (get_or kernels state d).items new.items → AreSameCores index new.items (get_or kernels state d).items
      → HaveNoItem index new.items → AreKernelsClearedTo index first (set kernels state new) (state + 1)
  kernels_cleared_on first so_far stays same none =
      let rows = kernel_rows index kernels in record {
        cores = λ g are. kernels_more g (stays g) (so_far.cores g are);
        alike = alike_on (kernel_rows index first) rows (kernel_rows index (set kernels state new)) so_far.alike (alike_more same);
        none = empty_more none so_far.none;
      }

-- if no kernel in range has an item, none has
pub all_empty : (kernels : List (List CoreSet)) (n : ℕ) → length kernels ≡ n → ((s : ℕ) → s < n → (x : ItemOf) → IsAmong (kernel_at kernels s) x → ⊥)
    → (s : ℕ) (x : ItemOf) → IsAmong (kernel_at kernels s) x → ⊥
all_empty kernels n count none s x h = let low = among_low kernels s x h in none s (omega (arith, low, count)) x h

-- then they are beginnings of kernels
pub empty_beginnings : (g : Grammar) (kernels : List (List CoreSet)) → All (All (IsCoreOf g)) kernels
    → ((s : ℕ) (x : ItemOf) → IsAmong (kernel_at kernels s) x → ⊥) → AreBeginnings g kernels
empty_beginnings g kernels are none k d low = record {
  of_grammar = are k d low;
  filled = λ x h. absurd (none k x (subst (λ kernel. IsAmong kernel x) (get_or_default kernels k d [] low) h));
}
