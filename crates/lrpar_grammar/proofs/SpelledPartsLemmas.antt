-- Lists of productions in parts: the places in a part, and those in the whole list.
use Rattle.std.proofs.Common.{inl, inr, ◌≡◌, ◌<◌, ◌≤◌, ◌+◌, ◌-◌, ℕ, zero, suc, List, [], ◌∷◌, ◌++◌, get_or, length, map, take, Option, Some, None, ap, refl, subst, sym, ◌∙◌, arith}
use Rattle.std.specs.List.{AllZip, flat_map, range_with_len, slice_get}
use Rattle.std.proofs.lemmas.Bool.{cases_lt}
use Rattle.std.proofs.lemmas.List.{append-nil, append_assoc, get_or-append-add, get_or_append_left, get_or_past, length-append, length-take-le, map-append, take-append-le, take_all, take_more}
use Rattle.std.proofs.lemmas.List.Concat.{flat_map-append, get_or-flat_map}
use Rattle.std.proofs.lemmas.List.FromFn.{get_or-map-range_with_len, length-map-range_with_len}
use Rattle.std.proofs.lemmas.List.Elements.{same_from_all_zip}
use Rattle.std.proofs.lemmas.Option.{slice_get-get_or, slice_get_past, slice_get_read}
use Rattle.std.specs.Borrow.{Bor}
use Rattle.std.specs.Option.{IfSome, MatchOption, option_copied}
use Rattle.lrpar_grammar_places.proofs.ListLemmas.{range_more}
use Rattle.lrpar_grammar_reader.specs.Grammar.{Grammar, start_prod}
use Rattle.lrpar_grammar.specs.Spelled.{IsListing, named_symbols}
use Rattle.lrpar_grammar.specs.SpelledLaws.{PartsKeepTexts}
use Rattle.lrpar_grammar.specs.SpelledParts.{AreIndexesInParts, IsListingInParts, IsIndexInPart, IsSameText, joined, index_in_parts}
use Rattle.lrpar_grammar.proofs.ListingLemmas.{spell_len}

-- the mapped members of lists, joined
pub map-joined : {X Y Z : Type 0} (f : Y → Z) (g : X → List Y) (xs : List X) → map f (flat_map g xs) ≡ flat_map (λ s. s) (map (λ x. map f (g x)) xs)
map-joined f g [] = refl
map-joined f g (x ∷ xs) = map-append f (g x) (flat_map g xs) ∙ ap (λ s. map f (g x) ++ s) (map-joined f g xs)

-- what a slice has at a place, copied
pub copied_at : {X : Type 0} (Q : Bor X → Type 0) (xs : List X) (i : ℕ) (found : Option (Bor X)) → MatchOption found (length xs ≤ i) (λ x. (i < length xs) × Q x)
    → IfSome found (λ x. x.now ≡ get_or xs i x.now) → option_copied found ≡ slice_get xs i
copied_at Q xs i None is at = sym (slice_get_past xs i is)
copied_at Q xs i (Some x) is at = sym (slice_get_read xs (length xs) i x.now refl is.0 at)

-- clones of all texts are the whole list
pub joined_texts : (R : Bor (List ℕ) → Bor (List ℕ) → Type 0) → ((x y : Bor (List ℕ)) → R x y → y ≡ x) → (parts : List (Bor (List (Bor (List ℕ)))))
    (made texts : List (Bor (List ℕ))) → AllZip R (flat_map (λ x. x.now) parts) made → texts ≡ made
    → map (λ text. text.now) texts ≡ joined (map (λ part. map (λ text. text.now) part.now) parts)
joined_texts R same parts made texts cloned is =
    ap (map (λ text. text.now)) (is ∙ same_from_all_zip R (flat_map (λ x. x.now) parts) made cloned same) ∙ map-joined (λ text. text.now) (λ part. part.now) parts

-- one more part
joined_more : (parts : List (List (List ℕ))) (texts : List (List ℕ)) → joined (parts ++ texts ∷ []) ≡ joined parts ++ texts
joined_more parts texts = flat_map-append (λ s. s) parts (texts ∷ []) ∙ ap (λ s. joined parts ++ s) (append-nil texts)

-- a place in a part stays when parts come after it
place_kept : (parts : List (List (List ℕ))) (texts : List (List ℕ)) (whole part place : ℕ) → IsIndexInPart parts whole part place
    → IsIndexInPart (parts ++ texts ∷ []) whole part place
place_kept parts texts whole part place at =
    elim (cases_lt part (length parts)) [
      | inl below ↦
          let same = get_or_append_left parts (texts ∷ []) [] part below in
          let front = take-append-le part parts (texts ∷ []) (omega arith) in
          record {
            within = subst (λ s. place < length s) (sym same) at.within;
            is = subst (λ s. whole ≡ length (joined s) + place) (sym front) at.is;
          }
      | inr past ↦
          let none = get_or_past parts part [] past in
          let no : place < 0 = subst (λ s. place < length s) none at.within in
          absurd (omega arith)
    ]

-- the places of the last part
place_of_last : (parts : List (List (List ℕ))) (texts : List (List ℕ)) (place : ℕ) → place < length texts
    → IsIndexInPart (parts ++ texts ∷ []) (length (joined parts) + place) (length parts) place
place_of_last parts texts place within =
    let zeroth : length parts + 0 ≡ length parts = omega arith in
    let same : get_or (parts ++ texts ∷ []) (length parts) [] ≡ texts =
    ap (λ k. get_or (parts ++ texts ∷ []) k []) (sym zeroth) ∙ get_or-append-add parts (texts ∷ []) 0 [] in
    let front : take (length parts) (parts ++ texts ∷ []) ≡ parts = take-append-le (length parts) parts (texts ∷ []) (omega arith) ∙ take_all (length parts) parts (omega arith) in
    record {
      within = subst (λ s. place < length s) (sym same) within;
      is = subst (λ s. length (joined parts) + place ≡ length (joined s) + place) (sym front) refl;
    }

-- the places of one more part
pub places_more : (parts : List (List (List ℕ))) (texts : List (List ℕ)) (places : List (ℕ × ℕ)) → AreIndexesInParts parts places
    → AreIndexesInParts (parts ++ texts ∷ []) (places ++ map (λ place. (length parts, place)) (range_with_len 0 (length texts)))
places_more parts texts places are =
    let more : List (ℕ × ℕ) = map (λ place. (length parts, place)) (range_with_len 0 (length texts)) in
    let more_len : length more ≡ length texts = length-map-range_with_len (λ place. (length parts, place)) 0 (length texts) in
    let all_len : length (places ++ more) ≡ length places + length more = length-append places more in
    let joined_len : length (joined (parts ++ texts ∷ [])) ≡ length (joined parts) + length texts =
    ap length (joined_more parts texts) ∙ length-append (joined parts) texts in
    record {
      len = let old = are.len in omega arith;
      each = λ t within. elim (cases_lt t (length places)) [
        | inl below ↦
            let same = get_or_append_left places more (0, 0) t below in
            subst (λ (at : ℕ × ℕ). IsIndexInPart (parts ++ texts ∷ []) t at.0 at.1) (sym same)
            (place_kept parts texts t (get_or places t (0, 0)).0 (get_or places t (0, 0)).1 (are.each t below))
        | inr past ↦
            let old = are.len in
            let inside : t - length places < length texts = omega arith in
            let sum : length places + (t - length places) ≡ t = omega arith in
            let sum_joined : length (joined parts) + (t - length places) ≡ t = omega arith in
            let is : get_or (places ++ more) t (0, 0) ≡ (length parts, t - length places) =
            ap (λ k. get_or (places ++ more) k (0, 0)) (sym sum) ∙ get_or-append-add places more (t - length places) (0, 0)
            ∙ get_or-map-range_with_len (λ place. (length parts, place)) 0 (length texts) (t - length places) (t - length places) (0, 0) inside (omega arith) in
            subst (λ (at : ℕ × ℕ). IsIndexInPart (parts ++ texts ∷ []) t at.0 at.1) (sym is)
            (subst (λ k. IsIndexInPart (parts ++ texts ∷ []) k (length parts) (t - length places)) sum_joined (place_of_last parts texts (t - length places) inside))
      ];
    }

-- the places of the next part
pub part_more : (parts : List (List (List ℕ))) (part len : ℕ) (made pushed : List (ℕ × ℕ)) → part < length parts → len ≡ length (get_or parts part [])
    → AreIndexesInParts (take part parts) made → pushed ≡ made ++ map (λ place. (part, place)) (range_with_len 0 len) → AreIndexesInParts (take (part + 1) parts) pushed
part_more parts part len made pushed within long are more =
    let texts = get_or parts part [] in
    let count : length (take part parts) ≡ part = length-take-le part parts (omega arith) in
    let all = places_more (take part parts) texts made are in
    let same : made ++ map (λ place. (length (take part parts), place)) (range_with_len 0 (length texts)) ≡ pushed =
    ap (λ (k : ℕ). made ++ map (λ place. (k, place)) (range_with_len 0 (length texts))) count
    ∙ ap (λ k. made ++ map (λ place. (part, place)) (range_with_len 0 k)) (sym long) ∙ sym more in
    subst (λ ps. AreIndexesInParts ps pushed) (sym (take_more parts part [] within)) (subst (AreIndexesInParts (take part parts ++ texts ∷ [])) same all)

-- the numbers below n, and n
range_next : (n : ℕ) → range_with_len 0 n ++ n ∷ [] ≡ range_with_len 0 (n + 1)
range_next n = let same : n ≡ 0 + n = omega arith in ap (λ k. range_with_len 0 n ++ k ∷ []) same ∙ range_more 0 n

-- what a loop adds for each number, with one more
pub pushed_more : {X : Type 0} (f : ℕ → X) (base made pushed : List X) (n : ℕ) → made ≡ base ++ map f (range_with_len 0 n) → pushed ≡ made ++ f n ∷ []
    → pushed ≡ base ++ map f (range_with_len 0 (n + 1))
pushed_more f base made pushed n so_far more =
    more ∙ ap (λ s. s ++ f n ∷ []) so_far ∙ append_assoc base (map f (range_with_len 0 n)) (f n ∷ [])
    ∙ ap (λ s. base ++ s) (sym (map-append f (range_with_len 0 n) (n ∷ [])) ∙ ap (map f) (range_next n))

-- no parts, no places
pub no_places : AreIndexesInParts [] []
no_places = record { len = refl; each = λ t within. absurd (omega arith) }

-- places of the whole list, and the same in the parts
same_places : (parts : List (List (List ℕ))) (places : List (ℕ × ℕ)) → AreIndexesInParts parts places → (whole : List (Option ℕ))
    → ((p t : ℕ) → get_or whole p None ≡ Some t → t < length places) → AllZip (IsSameText parts) whole (map (index_in_parts places) whole)
same_places parts places are [] below = tt
same_places parts places are (None ∷ whole) below = (tt, same_places parts places are whole (λ p. below (suc p)))
same_places parts places are (Some t ∷ whole) below =
    let within : t < length places = below 0 t refl in
    let found = slice_get-get_or places t (0, 0) within in
    (subst (IsSameText parts (Some t)) (sym found) (are.each t within), same_places parts places are whole (λ p. below (suc p)))

-- the places of a list are within it
within_list : (g : Grammar) (texts : List (List ℕ)) (whole : List (Option ℕ)) → IsListing g texts whole
    → (p t : ℕ) → get_or whole p None ≡ Some t → t < length texts
within_list g texts whole list p t is =
    elim (cases_lt p (length whole)) [
      | inl below ↦
          let len = list.len in
          let at : p < start_prod g = omega arith in
          let goes = list.each_prod p at in
          let same : Some goes.place ≡ Some t = sym goes.at ∙ is in
          let eq : goes.place ≡ t = cc in
          let many = spell_len (named_symbols g) texts list.spelled list.spell in
          let inside = goes.is.within in
          omega arith
      | inr past ↦ let none = get_or_past whole p None past in absurd (cc)
    ]

-- a list of all parts, with its places in the parts
pub listed_in_parts : (g : Grammar) (parts : List (List (List ℕ))) (places : List (ℕ × ℕ)) (whole : List (Option ℕ)) → AreIndexesInParts parts places
    → IsListing g (joined parts) whole → IsListingInParts g parts (map (index_in_parts places) whole)
listed_in_parts g parts places whole are list = record {
  whole = whole;
  listing = list;
  same = same_places parts places are whole (λ p t is. let below = within_list g (joined parts) whole list p t is in let len = are.len in omega arith);
}

-- a place of the whole list, in a part
is_in_part : (parts : List (List (List ℕ))) (whole : ℕ) → whole < length (joined parts) → (part : ℕ) × (place : ℕ) × IsIndexInPart parts whole part place
is_in_part [] whole within = absurd (omega arith)
is_in_part (texts ∷ parts) whole within =
    let long = length-append texts (joined parts) in
    elim (cases_lt whole (length texts)) [
      | inl below ↦ (0, whole, record { within = below; is = omega arith })
      | inr past ↦
          let rest = is_in_part parts (whole - length texts) (omega arith) in
          let front = length-append texts (joined (take rest.0 parts)) in
          let is = rest.2.is in
          (suc rest.0, rest.1, record { within = rest.2.within; is = omega arith })
    ]

-- in no other one
in_one_part : (parts : List (List (List ℕ))) (whole part place other_part other_place : ℕ) → IsIndexInPart parts whole part place
    → IsIndexInPart parts whole other_part other_place → (part ≡ other_part) × (place ≡ other_place)
in_one_part [] whole part place other_part other_place at other = let no = at.within in absurd (omega arith)
in_one_part (texts ∷ parts) whole zero place zero other_place at other = let a = at.is in let b = other.is in (refl, omega arith)
in_one_part (texts ∷ parts) whole zero place (suc q) other_place at other =
    let a = at.is in
    let inside = at.within in
    let b = other.is in
    let long = length-append texts (joined (take q parts)) in
    absurd (omega arith)
in_one_part (texts ∷ parts) whole (suc p) place zero other_place at other =
    let a = other.is in
    let inside = other.within in
    let b = at.is in
    let long = length-append texts (joined (take p parts)) in
    absurd (omega arith)
in_one_part (texts ∷ parts) whole (suc p) place (suc q) other_place at other =
    let a = at.is in
    let b = other.is in
    let long = length-append texts (joined (take p parts)) in
    let other_long = length-append texts (joined (take q parts)) in
    let rest = in_one_part parts (whole - length texts) p place q other_place (record { within = at.within; is = omega arith }) (record { within = other.within; is = omega arith }) in
    (ap suc rest.0, rest.1)

-- with the same text
same_text : (parts : List (List (List ℕ))) (whole part place : ℕ) → IsIndexInPart parts whole part place
    → get_or (get_or parts part []) place [] ≡ get_or (joined parts) whole []
same_text parts whole part place at =
    elim (cases_lt part (length parts)) [
      | inl below ↦ sym (ap (λ k. get_or (joined parts) k []) at.is ∙ get_or-flat_map (λ s. s) parts part place [] [] below at.within)
      | inr past ↦
          let none = get_or_past parts part [] past in
          let no : place < 0 = subst (λ s. place < length s) none at.within in
          absurd (omega arith)
    ]

pub parts_keep_texts : PartsKeepTexts
parts_keep_texts = record { is_in_part = is_in_part; in_one_part = in_one_part; same_text = same_text }
