-- What is promised of the choices, from the rules that are chosen.
use Rattle.std.proofs.Common.{◌≡◌, ℕ, ◌<◌, ◌↔◌, ◌⊎◌, Bool, true, false, not, IsTrue, List, [], length, inl, inr, refl, sym, subst, ◌∙◌, ap, arith}
use Rattle.std.specs.List.{All, Contains, filter}
use Rattle.std.specs.List.Sorted.{IsPermutation}
use Rattle.std.proofs.lemmas.Bool.{cases_Bool, cases_lt, false≢true}
use Rattle.std.proofs.lemmas.List.{get_or_past}
use Rattle.std.proofs.lemmas.List.Elements.{All-contains, All-get_or, All-weaker, filter_agree, filter_passes}
use Rattle.std.proofs.lemmas.List.Sorted.{Contains-permutation, IsPermutation-sym}
use Rattle.lrpar_grammar.specs.Tokens.{CoversAll, has}
use Rattle.lrpar_table_first.specs.FirstRows.{row_at}
use Rattle.lrpar_names.specs.Choosing.{AreChosen, AreTokensBelow, IsIn, IsNameable, can_begin_one}
use Rattle.lrpar_names.specs.FirstTokens.{can_begin}
use Rattle.lrpar_names.specs.Names.{NameLists}
use Rattle.lrpar_names.proofs.BitLemmas.{in_room}
use Rattle.lrpar_names.proofs.ListLemmas.{any_member, filter_has, filter_member}

not_true : (b : Bool) → not b ≡ true → b ≡ false
not_true true is = absurd (false≢true is)
not_true false is = refl

-- a rule begins with tokens of the room alone
begins_within : (rows : List (List Bool)) (len r t : ℕ) → All (λ row. length row ≡ len) rows → can_begin rows r t ≡ true → t < len
begins_within rows len r t room is = elim (cases_lt r (length rows)) [
  | inl within ↦
      let long : length (row_at rows r) ≡ len = All-get_or (λ row. length row ≡ len) rows r [] within room in
      let less : t < length (row_at rows r) = in_room (row_at rows r) t is in
      omega arith
  | inr past ↦ absurd (false≢true (sym (ap (λ row. has row t) (get_or_past rows r [] past)) ∙ is))
]

module _ (rows : List (List Bool)) (names : NameLists) (wanted covered : List Bool) (len : ℕ) (expected candidates order rules tokens : List ℕ)
    (room : All (λ row. length row ≡ len) rows) (are : AreTokensBelow len expected wanted) (sorts : IsPermutation candidates order)
    (chosen : AreChosen rows names wanted order rules covered) (kept : tokens ≡ filter (λ t. not (has covered t)) expected) where
  pub keeps_others : tokens ≡ filter (λ t. not (can_begin_one rows rules t)) expected
  keeps_others =
      kept ∙ filter_agree (λ t. not (has covered t)) (λ t. not (can_begin_one rows rules t)) (λ t. ap not (chosen.covers t)) expected

  pub are_apart : All (λ t. can_begin_one rows rules t ≡ false) tokens
  are_apart =
      subst (All (λ t. can_begin_one rows rules t ≡ false)) (sym keeps_others)
      (All-weaker (λ t. not (can_begin_one rows rules t) ≡ true) (λ t. can_begin_one rows rules t ≡ false)
      (λ t passes. not_true (can_begin_one rows rules t) passes) (filter (λ t. not (can_begin_one rows rules t)) expected)
      (filter_passes (λ t. not (can_begin_one rows rules t)) expected))

  is_expected : (r : ℕ) → IsNameable rows names (IsIn wanted) r → IsNameable rows names (Contains expected) r
  is_expected r can = record { named = can.named; some = can.some; only = λ t is. ((are.exact t).0 (can.only t is)).1 }

  is_wanted : (r : ℕ) → IsNameable rows names (Contains expected) r → IsNameable rows names (IsIn wanted) r
  is_wanted r can = record {
    named = can.named;
    some = can.some;
    only = λ t is. (are.exact t).1 (begins_within rows len r t room is, can.only t is);
  }

  pub name_candidates : All (λ r. Contains candidates r × IsNameable rows names (Contains expected) r) rules
  name_candidates =
      All-weaker (λ r. Contains order r × IsNameable rows names (IsIn wanted) r) (λ r. Contains candidates r × IsNameable rows names (Contains expected) r)
      (λ r has. (Contains-permutation order candidates r (IsPermutation-sym candidates order sorts) has.0, is_expected r has.1)) rules chosen.named

  pub leave_none_out : (r : ℕ) → Contains candidates r → IsNameable rows names (Contains expected) r → (t : ℕ) → can_begin rows r t ≡ true
      → can_begin_one rows rules t ≡ true
  leave_none_out r there can t is =
      sym (chosen.covers t)
      ∙ All-contains (λ q. IsNameable rows names (IsIn wanted) q → CoversAll covered (row_at rows q)) order r chosen.complete
      (Contains-permutation candidates order r sorts there) (is_wanted r can) t is

  pub cover_expected : (t : ℕ) → Contains expected t ↔ (Contains tokens t ⊎ IsTrue (can_begin_one rows rules t))
  cover_expected t = (
    λ there. elim (cases_Bool (can_begin_one rows rules t)) [
      | inl covers ↦ inr covers
      | inr not_begun ↦ inl (subst (λ ts. Contains ts t) (sym keeps_others)
          (filter_has (λ t. not (can_begin_one rows rules t)) expected t there (ap not not_begun)))
    ],
    λ either. elim either [
      | inl there ↦ filter_member (λ t. not (can_begin_one rows rules t)) expected t (subst (λ ts. Contains ts t) keeps_others there)
      | inr covers ↦
          let found = any_member (λ r. can_begin rows r t) rules covers in
          (All-contains (λ r. Contains candidates r × IsNameable rows names (Contains expected) r) rules found.0 name_candidates found.1).1.only t found.2
    ],
  )
