-- Two states with the same LR(0) cores have grown from kernels that aren't weakly compatible.
use Rattle.std.proofs.Common.{◌≡◌, ◌<◌, ◌∙◌, sym, subst, inl, inr, arith, ℕ, List, [], ◌∷◌, ◌++◌, All, length, set}
use Rattle.std.proofs.lemmas.Bool.{cases_eq, cases_lt}
use Rattle.std.proofs.lemmas.List.{get_or_append_left, get_or_push, get_or-set_other, get_or-set_same, length-set, length_push}
use Rattle.std.proofs.lemmas.List.Elements.{All-get_or}
use Rattle.lrpar_grammar.specs.Grammar.{Grammar}
use Rattle.lrpar_table_items.specs.Cores.{CoreSet}
use Rattle.lrpar_table_items.specs.Next.{kernel_at}
use Rattle.lrpar_table_merge.specs.Compatible.{HaveSameCores}
use Rattle.lrpar_table_merge.specs.Merging.{AreSplit, HasGrownFrom, IsMade, IsSplit, NoneIsCompatible}
use Rattle.lrpar_table_merge.specs.United.{AreUnited}
use Rattle.lrpar_table_merge.proofs.OriginLemmas.{grown_itself, grown_on}

grown_more : (first before after : List CoreSet) → HasGrownFrom first before → HasGrownFrom before after → HasGrownFrom first after
grown_more first before after one two = record { same = one.same ∙ two.same; tokens = λ i t h. two.tokens i t (one.tokens i t h) }

-- kernels that aren't merged stay so as they grow
split_more : (g : Grammar) (kernel other more others : List CoreSet) → HasGrownFrom kernel more → HasGrownFrom other others → IsSplit g kernel other
    → IsSplit g more others
split_more g kernel other more others one two split = record {
  first = split.first;
  second = split.second;
  first_made = split.first_made;
  second_made = split.second_made;
  first_grown = grown_more split.first kernel more split.first_grown one;
  second_grown = grown_more split.second other others split.second_grown two;
  apart = split.apart;
}

-- what holds of two kernels holds of the same kernels
split_same : (g : Grammar) (kernel other more others : List CoreSet) → more ≡ kernel → others ≡ other
    → (HaveSameCores kernel other → IsSplit g kernel other) → HaveSameCores more others → IsSplit g more others
split_same g kernel other more others one two split same =
    subst (λ k. IsSplit g k others) (sym one)
    (subst (IsSplit g kernel) (sym two) (split (subst (HaveSameCores kernel) two (subst (λ k. HaveSameCores k others) one same))))

-- each kernel has grown, if one of them gets lookaheads
grown_set : (kernels : List (List CoreSet)) (s : ℕ) (next new : List CoreSet) → s < length kernels → AreUnited (kernel_at kernels s) next new → (n : ℕ)
    → HasGrownFrom (kernel_at kernels n) (kernel_at (set kernels s new) n)
grown_set kernels s next new low united n =
    elim (cases_eq n s) as (λ _. HasGrownFrom (kernel_at kernels n) (kernel_at (set kernels s new) n)) [
      | inl is ↦
          let own = kernel_at kernels s in
          subst (λ k. HasGrownFrom (kernel_at kernels k) (kernel_at (set kernels s new) k)) (sym is)
          (subst (HasGrownFrom own) (sym (get_or-set_same kernels s new [] low)) (grown_on own own next new (grown_itself own) united))
      | inr other ↦
          subst (HasGrownFrom (kernel_at kernels n)) (sym (get_or-set_other kernels s n new [] other)) (grown_itself (kernel_at kernels n))
    ]

pub split_none : (g : Grammar) → AreSplit g []
split_none g s n before low = absurd (omega (arith, low))

module _ (g : Grammar) (kernels : List (List CoreSet)) (split : AreSplit g kernels) where
  -- the kernel of a state grows
  pub split_set : (s : ℕ) (next new : List CoreSet) → s < length kernels → AreUnited (kernel_at kernels s) next new → AreSplit g (set kernels s new)
  split_set s next new low united a b before below same =
      let one = grown_set kernels s next new low united a in
      let two = grown_set kernels s next new low united b in
      split_more g (kernel_at kernels a) (kernel_at kernels b) (kernel_at (set kernels s new) a) (kernel_at (set kernels s new) b) one two
      (split a b before (omega (arith, below, length-set kernels s new)) (one.same ∙ same ∙ sym two.same))

  -- a state is made for a kernel with which none is weakly compatible
  pub split_push : (kernel : List CoreSet) → All (IsMade g) kernels → IsMade g kernel → NoneIsCompatible kernels kernel
      → AreSplit g (kernels ++ kernel ∷ [])
  split_push kernel all made fresh s n before below =
      let more = kernels ++ kernel ∷ [] in
      let len = length_push kernels kernel in
      let low : s < length kernels = omega (arith, before, below, len) in
      let own = get_or_append_left kernels (kernel ∷ []) [] s low in
      elim (cases_lt n (length kernels)) as (λ _. HaveSameCores (kernel_at more s) (kernel_at more n) → IsSplit g (kernel_at more s) (kernel_at more n)) [
        | inl first ↦
            split_same g (kernel_at kernels s) (kernel_at kernels n) (kernel_at more s) (kernel_at more n) own
            (get_or_append_left kernels (kernel ∷ []) [] n first) (split s n before first)
        | inr end ↦
            split_same g (kernel_at kernels s) kernel (kernel_at more s) (kernel_at more n) own
            (get_or_push kernels kernel [] n (omega (arith, below, end, len)))
            (λ same. record {
              first = kernel_at kernels s;
              second = kernel;
              first_made = All-get_or (IsMade g) kernels s [] low all;
              second_made = made;
              first_grown = grown_itself (kernel_at kernels s);
              second_grown = grown_itself kernel;
              apart = fresh s low;
            })
      ]
