-- States that have none of the kernels so far, and lists whose kernels differ.
use Rattle.std.proofs.Common.{◌≡◌, ◌<◌, ◌≤◌, ◌+◌, ◌∷◌, ◌++◌, [], arith, inl, inr, subst, sym, ℕ, Bool, IsTrue, List, get_or, length}
use Rattle.std.specs.List.{Contains}
use Rattle.std.proofs.lemmas.Bool.{cases_eq}
use Rattle.std.proofs.lemmas.List.{get_or_append_left, get_or_push, length_push}
use Rattle.std.proofs.lemmas.List.Elements.{Contains-append_left, Contains-get_or, Contains-push, Contains-push_cases}
use Rattle.lrpar_table_rows.specs.Graph.{Graph}
use Rattle.lrpar_table_sentences.specs.Reachable.{is_marked}
use Rattle.lrpar_messages.specs.Groups.{HaveSameKernel, IsFirst, IsInGroup, IsNoFirst}

-- the first elements, whatever they are, and the state of each
module _ {X : Type 0} (state : X → ℕ) (graph : Graph) (xs : List X) where
  -- no two of the elements have the same kernel
  abbrev pub AreApartBy : Type 0
  AreApartBy = (i j : ℕ) (d : X) → i < j → j < length xs → ¬ (HaveSameKernel graph (state (get_or xs i d)) (state (get_or xs j d)))

  -- none of the first elements has the kernel of the state
  abbrev pub NoneSoFar : ℕ → ℕ → Type 0
  NoneSoFar n s = (j : ℕ) (d : X) → j < n → j < length xs → ¬ (HaveSameKernel graph (state (get_or xs j d)) s)

  -- one more of them doesn't
  pub none_more : (n s : ℕ) → NoneSoFar n s → ((d : X) → ¬ (HaveSameKernel graph (state (get_or xs n d)) s)) → NoneSoFar (n + 1) s
  none_more n s before here j d low within same =
      elim (cases_eq j n) as (λ _. ⊥) [
        | inl last ↦ here d (subst (λ k. HaveSameKernel graph (state (get_or xs k d)) s) last same)
        | inr other ↦ before j d (omega (arith, low, other)) within same
      ]

  -- one more element with another kernel
  pub apart_more : (x : X) → AreApartBy → NoneSoFar (length xs) (state x)
      → (i j : ℕ) (d : X) → i < j → j < length (xs ++ x ∷ []) → ¬ (HaveSameKernel graph (state (get_or (xs ++ x ∷ []) i d)) (state (get_or (xs ++ x ∷ []) j d)))
  apart_more x apart none i j d less within same =
      let more = length_push xs x in
      let low : i < length xs = omega (arith, less, within, more) in
      let first : get_or (xs ++ x ∷ []) i d ≡ get_or xs i d = get_or_append_left xs (x ∷ []) d i low in
      elim (cases_eq j (length xs)) as (λ _. ⊥) [
        | inl last ↦
            let second : get_or (xs ++ x ∷ []) j d ≡ x = get_or_push xs x d j (sym last) in
            none i d low low (subst (λ y. HaveSameKernel graph (state y) (state x)) first (subst (λ y. HaveSameKernel graph (state (get_or (xs ++ x ∷ []) i d)) (state y)) second same))
        | inr other ↦
            let early : j < length xs = omega (arith, within, more, other) in
            let second : get_or (xs ++ x ∷ []) j d ≡ get_or xs j d = get_or_append_left xs (x ∷ []) d j early in
            apart i j d less early (subst (λ y. HaveSameKernel graph (state y) (state (get_or xs j d))) first
            (subst (λ y. HaveSameKernel graph (state (get_or (xs ++ x ∷ []) i d)) (state y)) second same))
      ]

  -- if none of all elements has the kernel of the state, none of them does
  pub none_of_all : (n s : ℕ) → length xs ≤ n → NoneSoFar n s → (x : X) → Contains xs x → ¬ (HaveSameKernel graph (state x) s)
  none_of_all n s all none x has same =
      let low = has.1 in
      none has.0 x (omega (arith, all, low)) low (subst (λ y. HaveSameKernel graph (state y) s) (sym has.2) same)

-- the first states of groups, of those below n
abbrev pub AreFirstsBelow : Graph → List Bool → List ℕ → ℕ → Type 0
AreFirstsBelow graph marks firsts n =
    ((first : ℕ) → Contains firsts first → IsTrue (is_marked marks first))
    × ((s : ℕ) → s < n → IsTrue (is_marked marks s) → IsInGroup graph firsts s)
    × AreApartBy (λ k. k) graph firsts

-- none so far
pub no_firsts : (graph : Graph) (marks : List Bool) → AreFirstsBelow graph marks [] 0
no_firsts graph marks = (
  λ first has. let low = has.1 in absurd (omega (arith, low)),
  λ s low. absurd (omega (arith, low)),
  λ i j d less within. absurd (omega (arith, within)),
)

-- one more state
module _ (graph : Graph) (marks : List Bool) (firsts : List ℕ) (n : ℕ) (are : AreFirstsBelow graph marks firsts n) where
  pub one_first : IsFirst graph marks firsts n → AreFirstsBelow graph marks (firsts ++ n ∷ []) (n + 1)
  one_first first = (
    λ s has.
        elim (Contains-push_cases firsts n s has) as (λ _. IsTrue (is_marked marks s)) [
          | inl before ↦ are.0 s before
          | inr last ↦ subst (λ k. IsTrue (is_marked marks k)) last first.0
        ],
    λ s low marked.
        elim (cases_eq s n) as (λ _. IsInGroup graph (firsts ++ n ∷ []) s) [
          | inl same ↦ subst (IsInGroup graph (firsts ++ n ∷ [])) (sym same) (n, Contains-push firsts n, (λ p k has _. has, λ p k has _. has))
          | inr other ↦
              let before = are.1 s (omega (arith, low, other)) marked in
              (before.0, Contains-append_left firsts (n ∷ []) before.0 before.1, before.2)
        ],
    apart_more (λ k. k) graph firsts n are.2 (λ j d _ within same. first.1 (get_or firsts j d, Contains-get_or firsts j d within, same)),
  )

  pub no_first : IsNoFirst graph marks firsts n → AreFirstsBelow graph marks firsts (n + 1)
  no_first none = (
    are.0,
    λ s low marked.
        elim (cases_eq s n) as (λ _. IsInGroup graph firsts s) [
          | inl same ↦ subst (IsInGroup graph firsts) (sym same) (none (subst (λ k. IsTrue (is_marked marks k)) same marked))
          | inr other ↦ are.1 s (omega (arith, low, other)) marked
        ],
    are.2,
  )
