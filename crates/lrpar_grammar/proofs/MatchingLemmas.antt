-- One more text goes to its production.
use Rattle.std.proofs.Common.{◌≡◌, ◌≢◌, ◌<◌, ◌≤◌, ◌+◌, ℕ, true, false, List, [], ◌∷◌, ◌++◌, bytes_eq, get_or, length, set, take, Option, Some, None, ap, inl, inr, refl, subst, sym, ◌∙◌, arith}
use Rattle.std.specs.BTreeMap.{BTreeMap}
use Rattle.std.specs.Borrow.{Bor}
use Rattle.std.proofs.lemmas.Bool.{cases_Bool, cases_eq, cases_lt}
use Rattle.std.proofs.lemmas.List.{get_or_append_left, get_or_push, get_or-set_other, get_or-set_same, length-set, length_push, take-append-le, take_at}
use Rattle.std.proofs.lemmas.Slice.Eq.{bytes_eq-Decides}
use Rattle.lrpar_grammar.specs.SameProds.{AreFirstFrom, AreNextFrom, IsFirstFrom, IsNth, IsNthAt, found}
use Rattle.lrpar_grammar.specs.Matching.{AreMatched, IsTextIndexOf}
use Rattle.lrpar_grammar.specs.Spelled.{HasProduction, IsTextOfSome, IsTextOf, count_of, numbers_at}
use Rattle.lrpar_grammar.proofs.CountLemmas.{count_before, count_push_no, count_push_yes, same_nth}

-- equal options
some_is : (x y : ℕ) → Some x ≡ Some y → x ≡ y
some_is x y same = cc

-- a text stays at its production when one more text comes
text_stays : (prods texts : List (List ℕ)) (k : List ℕ) (p t : ℕ) → IsTextOf prods texts p t → IsTextOf prods (texts ++ k ∷ []) p t
text_stays prods texts k p t of = record {
  within = let within = of.within in omega (arith, length_push texts k);
  spells = get_or_append_left texts (k ∷ []) [] t of.within ∙ of.spells;
  nth = ap (count_of (numbers_at prods p)) (take-append-le t texts (k ∷ []) (let within = of.within in omega arith)) ∙ of.nth;
}

module _ (prods texts : List (List ℕ)) (k : List ℕ) (p : ℕ) (here : IsNthAt prods k (count_of k texts) p) where
  -- the next text is that of the production
  text_new : IsTextOf prods (texts ++ k ∷ []) p (length texts)
  text_new = record {
    within = omega (arith, length_push texts k);
    spells = get_or_push texts k [] (length texts) refl ∙ sym here.is;
    nth = ap (count_of (numbers_at prods p)) (take_at texts (k ∷ []) (length texts) refl)
        ∙ subst (λ q. count_of q texts ≡ count_of q (take p prods)) (sym here.is) (sym here.nth);
  }

  -- another production without a text still has none
  still_none : (o : ℕ) → o < length prods → o ≢ p → count_of (numbers_at prods o) texts ≤ count_of (numbers_at prods o) (take o prods)
      → count_of (numbers_at prods o) (texts ++ k ∷ []) ≤ count_of (numbers_at prods o) (take o prods)
  still_none o within other few =
      elim (cases_Bool (bytes_eq k (numbers_at prods o))) [
        | inl same ↦
            let is : k ≡ numbers_at prods o = (bytes_eq-Decides k (numbers_at prods o)).0 same in
            let few_k : count_of k texts ≤ count_of k (take o prods) = subst (λ q. count_of q texts ≤ count_of q (take o prods)) (sym is) few in
            let apart : count_of k (take o prods) ≢ count_of k texts =
            λ equal. other (same_nth k prods o p within here.within (sym is) here.is (equal ∙ sym here.nth)) in
            let more : count_of k (texts ++ k ∷ []) ≡ count_of k texts + 1 = count_push_yes k texts k refl in
            subst (λ q. count_of q (texts ++ k ∷ []) ≤ count_of q (take o prods)) is (omega (arith, apart))
        | inr differ ↦
            let unlike : k ≢ numbers_at prods o = λ is. let no : false ≡ true = sym differ ∙ (bytes_eq-Decides k (numbers_at prods o)).1 is in cc in
            let stays = count_push_no (numbers_at prods o) texts k unlike in
            omega arith
      ]

  -- so the place of another production stays right
  place_stays : (o : ℕ) (at : Option ℕ) → o < length prods → o ≢ p → IsTextIndexOf prods texts o at → IsTextIndexOf prods (texts ++ k ∷ []) o at
  place_stays o None within other few = still_none o within other few
  place_stays o (Some t) within other of = text_stays prods texts k o t of

module _ (prods texts : List (List ℕ)) (first : BTreeMap (Bor (List ℕ)) ℕ) (next free places : List (Option ℕ)) (so_far : AreMatched prods texts first next free places) where
  -- what is found has the numbers, and is a production
  pub found_is : (q : List ℕ) (f : ℕ) → found first q ≡ Some f → (f < length prods) × (numbers_at prods f ≡ q)
  found_is q f at =
      let from : IsFirstFrom prods q 0 (Some f) = subst (IsFirstFrom prods q 0) at (so_far.first_are q) in
      (from.1.within, from.1.is)

  -- if nothing is found, there is no production with these numbers
  pub not_found_is : (q : List ℕ) → found first q ≡ None → count_of q prods ≡ 0
  not_found_is q at = subst (IsFirstFrom prods q 0) at (so_far.first_are q)

  -- what is found is there
  pub found_some : (q : List ℕ) (f : ℕ) → found first q ≡ Some f → 0 < count_of q prods
  found_some q f at =
      let is = found_is q f at in
      let before = count_before q prods f is.0 is.1 in
      omega arith

  -- the production that gets the next text with these numbers
  pub free_is : (q : List ℕ) (f p : ℕ) → found first q ≡ Some f → get_or free f None ≡ Some p → IsNthAt prods q (count_of q texts) p
  free_is q f p at is = subst (IsNth prods q (count_of q texts)) is (so_far.free_are q f at)

  -- if none gets it, each has its text
  pub none_free : (q : List ℕ) (f : ℕ) → found first q ≡ Some f → get_or free f None ≡ None → count_of q prods ≤ count_of q texts
  none_free q f at is = subst (IsNth prods q (count_of q texts)) is (so_far.free_are q f at)

  -- each text is of a production
  pub all_of : (t : ℕ) → t < length texts → HasProduction prods texts t
  all_of t within =
      let taken = so_far.taken t within in
      (taken.prod, taken.within, subst (IsTextIndexOf prods texts taken.prod) taken.at (so_far.texts_are taken.prod taken.within))

  module _ (k : List ℕ) (f p : ℕ) (at : found first k ≡ Some f) (is : get_or free f None ≡ Some p) where
    -- the production
    here : IsNthAt prods k (count_of k texts) p
    here = free_is k f p at is

    -- the free production after it
    free_next : IsNth prods k (count_of k texts + 1) (get_or next p None)
    free_next =
        let P : List ℕ → Type 0 = λ q. IsNth prods q (count_of q (take p prods) + 1) (get_or next p None) in
        let after : P k = subst P here.is (so_far.next_are p (omega arith) here.within) in
        subst (λ n. IsNth prods k (n + 1) (get_or next p None)) here.nth after

    free_more : (q : List ℕ) (g : ℕ) → found first q ≡ Some g → IsNth prods q (count_of q (texts ++ k ∷ [])) (get_or (set free f (get_or next p None)) g None)
    free_more q g has =
        elim (cases_eq g f) [
          | inl same ↦
              let q_is : k ≡ q = sym (found_is k f at).1 ∙ ap (numbers_at prods) (sym same) ∙ (found_is q g has).1 in
              let count : count_of k texts + 1 ≡ count_of k (texts ++ k ∷ []) = sym (count_push_yes k texts k refl) in
              let put : get_or next p None ≡ get_or (set free f (get_or next p None)) g None =
              sym (ap (λ n. get_or (set free f (get_or next p None)) n None) same
              ∙ get_or-set_same free f (get_or next p None) None (let len = so_far.free_len in let within = (found_is k f at).0 in omega arith)) in
              subst (IsNth prods q (count_of q (texts ++ k ∷ []))) put
              (subst (λ r. IsNth prods r (count_of r (texts ++ k ∷ [])) (get_or next p None)) q_is
              (subst (λ n. IsNth prods k n (get_or next p None)) count free_next))
          | inr other ↦
              let unlike : k ≢ q = λ e.
              let has_f : found first q ≡ Some f = subst (λ r. found first r ≡ Some f) e at in
              other (some_is g f (sym has ∙ has_f)) in
              let count : count_of q texts ≡ count_of q (texts ++ k ∷ []) = sym (count_push_no q texts k unlike) in
              let put : get_or free g None ≡ get_or (set free f (get_or next p None)) g None =
              sym (get_or-set_other free f g (get_or next p None) None other) in
              subst (IsNth prods q (count_of q (texts ++ k ∷ []))) put
              (subst (λ n. IsNth prods q n (get_or free g None)) count (so_far.free_are q g has))
        ]

    -- the places with the new one
    abbrev new_places : List (Option ℕ)
    new_places = set places p (Some (length texts))

    new_place : get_or new_places p None ≡ Some (length texts)
    new_place = get_or-set_same places p (Some (length texts)) None (let len = so_far.texts_len in let within = here.within in omega arith)

    places_more : (o : ℕ) → o < length prods → IsTextIndexOf prods (texts ++ k ∷ []) o (get_or new_places o None)
    places_more o within =
        elim (cases_eq o p) [
          | inl same ↦
              subst (λ n. IsTextIndexOf prods (texts ++ k ∷ []) n (get_or new_places n None)) (sym same)
              (subst (IsTextIndexOf prods (texts ++ k ∷ []) p) (sym new_place) (text_new prods texts k p here))
          | inr other ↦
              subst (IsTextIndexOf prods (texts ++ k ∷ []) o) (sym (get_or-set_other places p o (Some (length texts)) None other))
              (place_stays prods texts k p here o (get_or places o None) within other (so_far.texts_are o within))
        ]

    -- a text that was taken is that of another production
    taken_other : (t : ℕ) → t < length texts → (o : ℕ) → o < length prods → get_or places o None ≡ Some t → o ≢ p
    taken_other t within o o_within is same =
        let of : IsTextOf prods texts o t = subst (IsTextIndexOf prods texts o) is (so_far.texts_are o o_within) in
        let o_is : numbers_at prods o ≡ k = ap (numbers_at prods) same ∙ here.is in
        let less = count_before k texts t within (of.spells ∙ o_is) in
        let nth : count_of k (take t texts) ≡ count_of k (take o prods) = subst (λ q. count_of q (take t texts) ≡ count_of q (take o prods)) o_is of.nth in
        let all : count_of k (take o prods) ≡ count_of k texts = ap (λ n. count_of k (take n prods)) same ∙ here.nth in
        absurd (omega arith)

    taken_more : (t : ℕ) → t < length (texts ++ k ∷ []) → IsTextOfSome prods new_places t
    taken_more t within =
        elim (cases_lt t (length texts)) [
          | inl before ↦
              let was = so_far.taken t before in
              record {
                prod = was.prod;
                within = was.within;
                at = get_or-set_other places p was.prod (Some (length texts)) None (taken_other t before was.prod was.within was.at) ∙ was.at;
              }
          | inr last ↦
              let is : length texts ≡ t = omega (arith, length_push texts k) in
              record { prod = p; within = here.within; at = new_place ∙ ap (λ n. Some n) is }
        ]

    -- one more text is taken
    pub matched_more : AreMatched prods (texts ++ k ∷ []) first next (set free f (get_or next p None)) new_places
    matched_more = record {
      first_are = so_far.first_are;
      next_len = so_far.next_len;
      next_are = so_far.next_are;
      free_len = length-set free f (get_or next p None) ∙ so_far.free_len;
      free_are = free_more;
      texts_len = length-set places p (Some (length texts)) ∙ so_far.texts_len;
      texts_are = places_more;
      taken = taken_more;
    }

-- no text is taken yet
pub matched_none : (prods : List (List ℕ)) (first : BTreeMap (Bor (List ℕ)) ℕ) (next free places : List (Option ℕ)) → AreFirstFrom prods 0 first
    → length next ≡ length prods → AreNextFrom prods 0 next → length free ≡ length prods → ((p : ℕ) → p < length prods → get_or free p None ≡ Some p)
    → length places ≡ length prods → ((p : ℕ) → p < length prods → get_or places p None ≡ None) → AreMatched prods [] first next free places
matched_none prods first next free places first_are next_len next_are free_len own texts_len none = record {
  first_are = first_are;
  next_len = next_len;
  next_are = next_are;
  free_len = free_len;
  free_are = λ q p at.
      let from : IsFirstFrom prods q 0 (Some p) = subst (IsFirstFrom prods q 0) at (first_are q) in
      subst (IsNth prods q 0) (sym (own p from.1.within)) from.1;
  texts_len = texts_len;
  texts_are = λ p within. subst (IsTextIndexOf prods [] p) (sym (none p within)) (omega arith);
  taken = λ t within. absurd (omega arith);
}
