-- The kernels for which states were made. A kernel that is among those is weakly compatible with what has grown from it, so it makes no new
-- state.
use Rattle.std.proofs.Common.{◌≡◌, ◌<◌, ◌≤◌, ◌+◌, ◌&&◌, ◌⊎◌, ◌∙◌, refl, sym, subst, inl, inr, arith, zero, suc, ℕ, Bool, false, IsTrue, List, [], ◌∷◌, ◌++◌, length, set}
use Rattle.std.proofs.lemmas.Bool.{and_from, and_parts, cases_Bool, cases_eq, cases_lt, false≢true, or_left}
use Rattle.std.proofs.lemmas.List.{get_or_append_left, get_or_push, get_or-set_other, get_or-set_same, length-set, length_push}
use Rattle.std.proofs.lemmas.List.Elements.{All-push}
use Rattle.lrpar_grammar.specs.Grammar.{Grammar}
use Rattle.lrpar_grammar.specs.Tokens.{HaveCommon, has}
use Rattle.lrpar_table_first.proofs.GrowthLemmas.{has_room}
use Rattle.lrpar_table_items.specs.CoreOrder.{IsKernel}
use Rattle.lrpar_table_items.specs.Cores.{CoreSet}
use Rattle.lrpar_table_items.specs.Next.{kernel_at}
use Rattle.lrpar_table_merge.specs.Compatible.{AreWeaklyCompatible, lookaheads_at}
use Rattle.lrpar_table_merge.specs.Merging.{HasGrownFrom, HaveOrigins, IsMade, MergesMore, NoneIsCompatible}
use Rattle.lrpar_table_merge.specs.United.{AreUnited}

-- whether a test passes for a number below n
passes_below : (test : ℕ → Bool) (n : ℕ) → ((t : ℕ) × IsTrue (test t)) ⊎ ((t : ℕ) → t < n → test t ≡ false)
passes_below test zero = inr (λ t low. absurd (omega (arith, low)))
passes_below test (suc n) =
    elim (passes_below test n) [
      | inl found ↦ inl found
      | inr none ↦
          elim (cases_Bool (test n)) [
            | inl passes ↦ inl (n, passes)
            | inr fails ↦ inr (λ t low.
                elim (cases_lt t n) [
                  | inl before ↦ none t before
                  | inr last ↦ let is : n ≡ t = omega (arith, low, last) in subst (λ m. test m ≡ false) is fails
                ])
          ]
    ]

-- whether two sets have a common token
common_or_none : (l m : List Bool) → HaveCommon l m ⊎ (HaveCommon l m → ⊥)
common_or_none l m =
    elim (passes_below (λ t. has l t && has m t) (length l)) [
      | inl found ↦ let both = and_parts (has l found.0) (has m found.0) found.1 in inl (found.0, both.0, both.1)
      | inr none ↦ inr (λ (c : HaveCommon l m). false≢true (sym (none c.0 (has_room l c.0 c.1)) ∙ and_from (has l c.0) (has m c.0) c.1 c.2))
    ]

-- a kernel is weakly compatible with what has grown from it
pub grown_compatible : (before after : List CoreSet) → HasGrownFrom before after → AreWeaklyCompatible after before
grown_compatible before after grown = record {
  same = sym grown.same;
  pairs = λ i j low below differ.
      let l = lookaheads_at after in
      let m = lookaheads_at before in
      elim (common_or_none (l i) (l j)) [
        | inl together ↦ inr (inl together)
        | inr apart ↦
            inl (
              (λ (c : HaveCommon (l i) (m j)). apart (c.0, c.1, grown.tokens j c.0 c.2)),
              (λ (c : HaveCommon (m i) (l j)). apart (c.0, grown.tokens i c.0 c.1, c.2)),
            )
      ];
}

pub grown_itself : (kernel : List CoreSet) → HasGrownFrom kernel kernel
grown_itself kernel = record { same = refl; tokens = λ i t h. h }

-- it grows on
pub grown_on : (origin before next after : List CoreSet) → HasGrownFrom origin before → AreUnited before next after → HasGrownFrom origin after
grown_on origin before next after grown united = record {
  same = grown.same ∙ sym united.same;
  tokens = λ i t h. united.tokens i t ∙ or_left (has (lookaheads_at before i) t) (has (lookaheads_at next i) t) (grown.tokens i t h);
}

-- no states, no origins
pub no_origins : (g : Grammar) → HaveOrigins g []
no_origins g = record {
  origins = [];
  len = refl;
  are = λ k d low. absurd (omega (arith, low));
  made = λ k d low. absurd (omega (arith, low));
  grown = λ s low. absurd (omega (arith, low));
  once = λ s other low below. absurd (omega (arith, low));
}

module _ (g : Grammar) (kernels : List (List CoreSet)) (have : HaveOrigins g kernels) where
  -- the kernel of a state has grown
  pub origins_set : (s : ℕ) (next new : List CoreSet) → s < length kernels → AreUnited (kernel_at kernels s) next new
      → HaveOrigins g (set kernels s new)
  origins_set s next new low united =
      let len = length-set kernels s new in record {
        origins = have.origins;
        len = have.len ∙ sym len;
        are = have.are;
        made = have.made;
        grown = λ n below.
            let within : n < length kernels = omega (arith, below, len) in
            elim (cases_eq n s) [
              | inl is ↦
                  subst (λ k. HasGrownFrom (kernel_at have.origins k) (kernel_at (set kernels s new) k)) (sym is)
                  (subst (HasGrownFrom (kernel_at have.origins s)) (sym (get_or-set_same kernels s new [] low))
                  (grown_on (kernel_at have.origins s) (kernel_at kernels s) next new (have.grown s low) united))
              | inr other ↦
                  subst (HasGrownFrom (kernel_at have.origins n)) (sym (get_or-set_other kernels s n new [] other)) (have.grown n within)
            ];
        once = λ n m below within. have.once n m (omega (arith, below, len)) (omega (arith, within, len));
      }

  -- a state is made for a kernel with which none is weakly compatible
  module _ (kernel : List CoreSet) (is : IsKernel g kernel) (made : IsMade g kernel) (fresh : NoneIsCompatible kernels kernel) where
    abbrev more : List (List CoreSet)
    more = have.origins ++ kernel ∷ []

    old : (s : ℕ) → s < length kernels → kernel_at more s ≡ kernel_at have.origins s
    old s low = let len = have.len in get_or_append_left have.origins (kernel ∷ []) [] s (omega (arith, low, len))

    last : (s : ℕ) → s ≡ length kernels → kernel_at more s ≡ kernel
    last s at = let len = have.len in get_or_push have.origins kernel [] s (omega (arith, at, len))

    -- no state was made for it
    new_kernel : (s : ℕ) → s < length kernels → kernel_at have.origins s ≡ kernel → ⊥
    new_kernel s low same =
        fresh s low (subst (AreWeaklyCompatible (kernel_at kernels s)) same
        (grown_compatible (kernel_at have.origins s) (kernel_at kernels s) (have.grown s low)))

    once_more : (s other : ℕ) → s < length kernels + 1 → other < length kernels + 1 → kernel_at more s ≡ kernel_at more other → s ≡ other
    once_more s other low below same =
        elim (cases_lt s (length kernels)) [
          | inl first ↦
              elim (cases_lt other (length kernels)) [
                | inl second ↦ have.once s other first second (sym (old s first) ∙ same ∙ old other second)
                | inr end ↦ absurd (new_kernel s first (sym (old s first) ∙ same ∙ last other (omega (arith, end, below))))
              ]
          | inr end ↦
              elim (cases_lt other (length kernels)) [
                | inl second ↦ absurd (new_kernel other second (sym (old other second) ∙ sym same ∙ last s (omega (arith, end, low))))
                | inr too ↦ omega (arith, end, low, too, below)
              ]
        ]

    pub origins_push : HaveOrigins g (kernels ++ kernel ∷ [])
    origins_push =
        let len = length_push kernels kernel in
        let count = length_push have.origins kernel in
        let before = have.len in record {
          origins = more;
          len = omega (arith, len, count, before);
          are = All-push (IsKernel g) have.origins kernel have.are is;
          made = All-push (IsMade g) have.origins kernel have.made made;
          grown = λ s low.
              elim (cases_lt s (length kernels)) [
                | inl first ↦
                    subst (λ k. HasGrownFrom k (kernel_at (kernels ++ kernel ∷ []) s)) (sym (old s first))
                    (subst (HasGrownFrom (kernel_at have.origins s)) (sym (get_or_append_left kernels (kernel ∷ []) [] s first)) (have.grown s first))
                | inr end ↦
                    let at : s ≡ length kernels = omega (arith, low, end, len) in
                    subst (λ k. HasGrownFrom k (kernel_at (kernels ++ kernel ∷ []) s)) (sym (last s at))
                    (subst (HasGrownFrom kernel) (sym (get_or_push kernels kernel [] s (sym at))) (grown_itself kernel))
              ];
          once = λ s other low below. once_more s other (omega (arith, low, len)) (omega (arith, below, len));
        }

    -- so merging can make more kernels than there are states
    pub merges_more : (n : ℕ) → n ≤ length kernels → MergesMore g n
    merges_more n full =
        let pushed = origins_push in
        let len = pushed.len in
        let count = length_push kernels kernel in record {
          kernels = pushed.origins;
          more = omega (arith, full, len, count);
          are = pushed.are;
          made = pushed.made;
          once = λ s other low below. pushed.once s other (omega (arith, low, len)) (omega (arith, below, len));
        }
