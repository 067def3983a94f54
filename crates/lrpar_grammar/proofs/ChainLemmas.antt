-- Productions with the same numbers: the first of them, and the next one of each, as the productions are gone through from the
-- last to the first.
use Rattle.std.proofs.Common.{◌≡◌, ◌≢◌, ◌<◌, ◌≤◌, ◌+◌, ℕ, true, false, cond, List, [], bytes_eq, drop, get_or, length, set, take, Option, Some, None, ap, inl, inr, refl, subst, sym, ◌∙◌, arith, zero-add}
use Rattle.std.proofs.lemmas.Bool.{cases_Bool, cases_eq}
use Rattle.std.proofs.lemmas.List.{drop_all, get_or-set_other, get_or-set_same}
use Rattle.std.proofs.lemmas.List.Sums.{sum_by-drop_more}
use Rattle.std.proofs.lemmas.Slice.Eq.{bytes_eq-Decides}
use Rattle.std.specs.BTreeMap.{BTreeMap}
use Rattle.std.specs.Borrow.{Bor}
use Rattle.std.specs.Map.{update}
use Rattle.lrpar_grammar.specs.SameProds.{AreFirstFrom, AreNextFrom, IsFirstFrom, IsNth, IsNthAt, found}
use Rattle.lrpar_grammar.specs.Spelled.{count_of, numbers_at}
use Rattle.lrpar_grammar.proofs.CountLemmas.{count_more_no, count_more_yes, count_split, same_no}

-- there are none from the end on
pub first_from_end : (prods : List (List ℕ)) (q : List ℕ) (i : ℕ) → length prods ≤ i → IsFirstFrom prods q i None
first_from_end prods q i past = ap (count_of q) (drop_all i prods past)

-- the first one after production i is the next one of it
pub next_is : (prods : List (List ℕ)) (i : ℕ) (q : List ℕ) (o : Option ℕ) → i < length prods → numbers_at prods i ≡ q → IsFirstFrom prods q (i + 1) o
    → IsNth prods q (count_of q (take i prods) + 1) o
next_is prods i q None within is first =
    let more = count_more_yes q prods i within is in
    let split = count_split q prods (i + 1) in
    omega arith
next_is prods i q (Some p) within is first =
    let at : IsNthAt prods q (count_of q (take (i + 1) prods)) p = first.1 in
    record { within = at.within; is = at.is; nth = at.nth ∙ count_more_yes q prods i within is }

-- production i is the first from i on with its numbers
pub first_is : (prods : List (List ℕ)) (i : ℕ) (q : List ℕ) → i < length prods → numbers_at prods i ≡ q → IsFirstFrom prods q i (Some i)
first_is prods i q within is = (omega arith, record { within = within; is = is; nth = refl })

-- the first one with other numbers stays
pub first_stays : (prods : List (List ℕ)) (i : ℕ) (q : List ℕ) (o : Option ℕ) → i < length prods → numbers_at prods i ≢ q → IsFirstFrom prods q (i + 1) o
    → IsFirstFrom prods q i o
first_stays prods i q None within other first =
    let step : count_of q (drop i prods) ≡ cond (bytes_eq q (numbers_at prods i)) 1 0 + count_of q (drop (i + 1) prods) =
    sum_by-drop_more (λ (x : List ℕ). cond (bytes_eq q x) 1 0) prods i [] within in
    step ∙ ap (λ b. cond b 1 0 + count_of q (drop (i + 1) prods)) (same_no q (numbers_at prods i) (λ same. other (sym same)))
    ∙ zero-add (count_of q (drop (i + 1) prods)) ∙ first
first_stays prods i q (Some p) within other first =
    let at : IsNthAt prods q (count_of q (take (i + 1) prods)) p = first.1 in (
      (let after : i + 1 ≤ p = first.0 in omega arith),
      record { within = at.within; is = at.is; nth = at.nth ∙ count_more_no q prods i within other },
    )

-- the first ones from i on, after production i is put into the map
pub first_more : (prods : List (List ℕ)) (i : ℕ) (q : List ℕ) (o : Option ℕ) → i < length prods → IsFirstFrom prods q (i + 1) o
    → IsFirstFrom prods q i (cond (bytes_eq (numbers_at prods i) q) (Some i) o)
first_more prods i q o within first =
    elim (cases_Bool (bytes_eq (numbers_at prods i) q)) [
      | inl same ↦
          subst (λ b. IsFirstFrom prods q i (cond b (Some i) o)) (sym same)
          (first_is prods i q within ((bytes_eq-Decides (numbers_at prods i) q).0 same))
      | inr differ ↦
          subst (λ b. IsFirstFrom prods q i (cond b (Some i) o)) (sym differ)
          (first_stays prods i q o within (λ is. let no : false ≡ true = sym differ ∙ (bytes_eq-Decides (numbers_at prods i) q).1 is in cc) first)
    ]

-- the map, after production i is put into it
pub chain_first : (prods : List (List ℕ)) (i : ℕ) (key : List ℕ) (m n : BTreeMap (Bor (List ℕ)) ℕ) → i < length prods → key ≡ numbers_at prods i
    → AreFirstFrom prods (i + 1) m → ((q : List ℕ) → found n q ≡ update bytes_eq (found m) key (Some i) q) → AreFirstFrom prods i n
chain_first prods i key m n within is so_far put = λ q.
    subst (IsFirstFrom prods q i) (sym (put q ∙ ap (λ x. cond (bytes_eq x q) (Some i) (found m q)) is)) (first_more prods i q (found m q) within (so_far q))

-- the next ones, with that of production i
pub chain_next : (prods : List (List ℕ)) (i : ℕ) (next : List (Option ℕ)) (o : Option ℕ) → i < length prods → length next ≡ length prods
    → IsFirstFrom prods (numbers_at prods i) (i + 1) o → AreNextFrom prods (i + 1) next → AreNextFrom prods i (set next i o)
chain_next prods i next o within len first so_far = λ p from below.
    elim (cases_eq p i) [
      | inl same ↦
          let P : ℕ → Type 0 = λ n. IsNth prods (numbers_at prods n) (count_of (numbers_at prods n) (take n prods) + 1) (get_or (set next i o) n None) in
          subst P (sym same)
          (subst (IsNth prods (numbers_at prods i) (count_of (numbers_at prods i) (take i prods) + 1)) (sym (get_or-set_same next i o None (omega arith)))
          (next_is prods i (numbers_at prods i) o within refl first))
      | inr other ↦
          subst (IsNth prods (numbers_at prods p) (count_of (numbers_at prods p) (take p prods) + 1)) (sym (get_or-set_other next i p o None other))
          (so_far p (omega arith) below)
    ]
