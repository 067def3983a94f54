-- The items of united kernels.
use Rattle.std.proofs.Common.{◌≡◌, ◌<◌, ◌||◌, ◌↔◌, ◌⊎◌, ◌∙◌, refl, sym, ap, subst, inl, inr, arith, ℕ, Bool, true, false, IsTrue, List, [], ◌∷◌, All, get_or, length}
use Rattle.std.proofs.lemmas.Bool.{or_cases, or_left, or_right}
use Rattle.std.proofs.lemmas.List.{get_or_default, get_or-map}
use Rattle.std.proofs.lemmas.List.Elements.{All-head, All-tail, Contains-get_or}
use Rattle.lrpar_grammar.specs.Grammar.{Grammar}
use Rattle.lrpar_grammar.specs.Tokens.{has}
use Rattle.lrpar_table_rows.specs.Graph.{ItemOf}
use Rattle.lrpar_table_items.specs.CoreOrder.{IsKernel}
use Rattle.lrpar_table_items.specs.Cores.{CoreSet, IsAmong, IsCoreOf}
use Rattle.lrpar_table_merge.specs.Compatible.{HaveSameCores, lookaheads_at, lr0_core}
use Rattle.lrpar_table_merge.specs.United.{AreUnited, rooms_of}
use Rattle.lrpar_table_merge.proofs.KernelLemmas.{image_at, image_len, kernel_united}

abbrev no_core : CoreSet
no_core = record { prod = 0; dot = 0; tokens = [] }

-- the item is one of core k
record IsOfPlace (cores : List CoreSet) (k : ℕ) (x : ItemOf) : Type 0 where
  low : k < length cores
  core : lr0_core (get_or cores k no_core) ≡ (x.prod, x.dot)
  token : IsTrue (has (lookaheads_at cores k) x.token)

row_is : (cores : List CoreSet) (k : ℕ) (d : CoreSet) → k < length cores → lookaheads_at cores k ≡ (get_or cores k d).tokens
row_is cores k d low = get_or-map (λ (c : CoreSet). c.tokens) cores k d [] low

among_to : (cores : List CoreSet) (x : ItemOf) → IsAmong cores x → (k : ℕ) × IsOfPlace cores k x
among_to cores x h =
    let core = h.0 in
    let k = h.1.0 in
    let low = h.1.1 in
    let is : get_or cores k no_core ≡ core = get_or_default cores k no_core core low ∙ h.1.2 in (
      k,
      record {
        low = low;
        core = ap lr0_core is ∙ ap (λ p. (p, core.dot)) h.2.0 ∙ ap (λ d. (x.prod, d)) h.2.1;
        token = subst (λ row. IsTrue (has row x.token)) (sym (row_is cores k no_core low ∙ ap (λ (c : CoreSet). c.tokens) is)) h.2.2;
      },
    )

among_from : (cores : List CoreSet) (k : ℕ) (x : ItemOf) → IsOfPlace cores k x → IsAmong cores x
among_from cores k x h = (
  get_or cores k no_core,
  Contains-get_or cores k no_core h.low,
  (ap (λ p. p.0) h.core, ap (λ p. p.1) h.core, subst (λ row. IsTrue (has row x.token)) (row_is cores k no_core h.low) h.token),
)

-- the same place of a list with the same cores
moved : (cores others : List CoreSet) (k : ℕ) (x : ItemOf) → HaveSameCores others cores → IsOfPlace cores k x → IsTrue (has (lookaheads_at others k) x.token)
    → IsOfPlace others k x
moved cores others k x same h token =
    let len = image_len lr0_core others cores same in
    let low : k < length others = let below = h.low in omega (arith, below, len) in
    record { low = low; core = image_at lr0_core others cores same k no_core low ∙ h.core; token = token }

module _ (before other after : List CoreSet) (united : AreUnited before other after) (same : HaveSameCores before other) where
  -- united kernels have the items of both
  pub united_among : (x : ItemOf) → IsAmong after x ↔ (IsAmong before x ⊎ IsAmong other x)
  united_among x = (
    λ h.
        let at = among_to after x h in
        let place = at.1 in
        elim (or_cases (has (lookaheads_at before at.0) x.token) (has (lookaheads_at other at.0) x.token) (sym (united.tokens at.0 x.token) ∙ place.token)) [
          | inl own ↦ inl (among_from before at.0 x (moved after before at.0 x (sym united.same) place own))
          | inr came ↦ inr (among_from other at.0 x (moved after other at.0 x (sym same ∙ sym united.same) place came))
        ],
    λ h. elim h [
      | inl own ↦
          let at = among_to before x own in
          let place = at.1 in
          among_from after at.0 x
          (moved before after at.0 x united.same place
          (united.tokens at.0 x.token ∙ or_left (has (lookaheads_at before at.0) x.token) (has (lookaheads_at other at.0) x.token) place.token))
      | inr came ↦
          let at = among_to other x came in
          let place = at.1 in
          among_from after at.0 x
          (moved other after at.0 x (united.same ∙ same) place
          (united.tokens at.0 x.token ∙ or_right (has (lookaheads_at before at.0) x.token) (has (lookaheads_at other at.0) x.token) place.token))
    ],
  )

  or_back : (x y : Bool) → (x || y) ≡ (y || x)
  or_back true true = refl
  or_back true false = refl
  or_back false true = refl
  or_back false false = refl

  -- so they are a kernel, if the other one is
  pub kernel_by_other : (g : Grammar) → rooms_of before ≡ rooms_of other → IsKernel g other → IsKernel g after
  kernel_by_other g room kernel =
      kernel_united g other before after
      (record {
        same = united.same ∙ same;
        room = united.room ∙ room;
        tokens = λ i t. united.tokens i t ∙ or_back (has (lookaheads_at before i) t) (has (lookaheads_at other i) t);
      })
      kernel

-- cores of a grammar have the same room
pub same_rooms : (g : Grammar) (cores others : List CoreSet) → length cores ≡ length others → All (IsCoreOf g) cores → All (IsCoreOf g) others
    → rooms_of cores ≡ rooms_of others
same_rooms g [] [] len are all = refl
same_rooms g [] (other ∷ others) len are all = absurd (omega (arith, len))
same_rooms g (core ∷ cores) [] len are all = absurd (omega (arith, len))
same_rooms g (core ∷ cores) (other ∷ others) len are all =
    let first = All-head (IsCoreOf g) core cores are in
    let second = All-head (IsCoreOf g) other others all in
    ap (λ n. n ∷ rooms_of cores) (first.wide ∙ sym second.wide)
    ∙ ap (λ rest. length other.tokens ∷ rest)
    (same_rooms g cores others (omega (arith, len)) (All-tail (IsCoreOf g) core cores are) (All-tail (IsCoreOf g) other others all))
