-- Rows that lie one after the other in one list.
use Rattle.std.proofs.Common.{subst, ◌≡◌, ◌<◌, ◌≤◌, ◌+◌, ◌-◌, ◌++◌, ◌∙◌, ℕ, zero, suc, List, [], ◌∷◌, length, map, take, drop, slice_index, slice_index_or, add-zero, refl, inl, inr, ap, sym, arith}
use Rattle.std.specs.List.{range_with_len, slice_range, sum_by, zip}
use Rattle.std.proofs.lemmas.List.{map_more, append_assoc, take_more, drop-append-le, drop_at, get_or_append_left, get_or_push, length-drop, length-map, length-take-le, length_push, take-append-le, take_all}
use Rattle.std.proofs.lemmas.Bool.{cases_lt}
use Rattle.std.proofs.lemmas.List.FromFn.{fill_by_all, get_or-map-range_with_len, length-map-range_with_len, map-range_with_len_more, sum_by-map-range_with_len_more}
use Rattle.std.proofs.lemmas.List.Sums.{sum_by-cons}
use Rattle.std.proofs.lemmas.Slice.Zip.{length-zip}
use Rattle.lrpar_table_rows.specs.Entries.{AreParts, AreStarts, cut}

-- the part of the list that is row s
abbrev part : {X : Type 0} → List ℕ → List X → ℕ → List X
part starts xs s = slice_range xs (slice_index starts s) (slice_index starts (s + 1))

-- a row of the rows is its part of the list
pub cut_row : {X : Type 0} (starts : List ℕ) (xs : List X) (s : ℕ) → s + 1 < length starts → slice_index_or (cut starts xs) s [] ≡ part starts xs s
cut_row starts xs s below = get_or-map-range_with_len (part starts xs) 0 (length starts - 1) s s [] (omega (arith, below)) (omega arith)

-- there is a row for each place but the last
pub length-cut : {X : Type 0} (starts : List ℕ) (xs : List X) → length (cut starts xs) ≡ length starts - 1
length-cut starts xs = length-map-range_with_len (part starts xs) 0 (length starts - 1)

-- no place is greater than a later one
starts_up : (starts : List ℕ) (end : ℕ) → AreStarts starts end → (d s : ℕ) → s + d < length starts → slice_index starts s ≤ slice_index starts (s + d)
starts_up starts end are zero s below = rw add-zero (omega arith)
starts_up starts end are (suc d) s below =
    let so_far = starts_up starts end are d s (omega (arith, below)) in
    let more = are.up (s + d) (omega (arith, below)) in
    let same : s + suc d ≡ s + d + 1 = omega arith in
    rw same (omega (arith, so_far, more))

-- no place is past the end
pub start_within : (starts : List ℕ) (end : ℕ) → AreStarts starts end → (s : ℕ) → s < length starts → slice_index starts s ≤ end
start_within starts end are s below =
    let up = starts_up starts end are (length starts - 1 - s) s (omega (arith, below)) in
    let same : s + (length starts - 1 - s) ≡ length starts - 1 = omega (arith, below) in
    let last = are.last in
    let up_to_last = rw same at up in
    omega (arith, up_to_last, last)

-- one more place, at the new end
pub AreStarts-push : (starts : List ℕ) (end more : ℕ) → AreStarts starts end → end ≤ more → AreStarts (starts ++ more ∷ []) more
AreStarts-push starts end more are after = record {
  some = rw length_push (omega arith);
  first = get_or_append_left starts (more ∷ []) 0 0 are.some ∙ are.first;
  up = λ s below.
      let inside : s < length starts = omega (arith, simp length_push at below) in
      elim (cases_lt (s + 1) (length starts)) as (λ _. slice_index (starts ++ more ∷ []) s ≤ slice_index (starts ++ more ∷ []) (s + 1)) [
        | inl before ↦
            let here = get_or_append_left starts (more ∷ []) 0 s inside in
            let next = get_or_append_left starts (more ∷ []) 0 (s + 1) before in
            omega (arith, here, next, are.up s before)
        | inr last ↦
            let here = get_or_append_left starts (more ∷ []) 0 s inside in
            let next = get_or_push starts more 0 (s + 1) (omega (arith, inside, last)) in
            omega (arith, here, next, start_within starts end are s inside)
      ];
  last =
      let same : length (starts ++ more ∷ []) - 1 ≡ length starts = rw length_push (omega arith) in
      rw same (get_or_push starts more 0 (length starts) refl);
}

-- a part that ends within the first list is that of the first list
range_of_append : {X : Type 0} (xs ys : List X) (a b : ℕ) → a ≤ b → b ≤ length xs → slice_range (xs ++ ys) a b ≡ slice_range xs a b
range_of_append xs ys a b up within =
    let dropped = drop-append-le a xs ys (omega (arith, up, within)) in
    let room : b - a ≤ length (drop a xs) = rw length-drop (omega (arith, up, within)) in
    rw dropped (take-append-le (b - a) (drop a xs) ys room)

-- the part after the first list is the second
range_at_end : {X : Type 0} (xs ys : List X) (a b : ℕ) → a ≡ length xs → b ≡ length xs + length ys → slice_range (xs ++ ys) a b ≡ ys
range_at_end xs ys a b from to =
    let dropped = drop_at xs ys a (sym from) in
    rw dropped (take_all (b - a) ys (omega (arith, from, to)))

-- one more row at the end
pub cut_push : {X : Type 0} (starts : List ℕ) (xs ys : List X) (more : ℕ) → AreStarts starts (length xs) → more ≡ length xs + length ys
    → cut (starts ++ more ∷ []) (xs ++ ys) ≡ cut starts xs ++ ys ∷ []
cut_push starts xs ys more are is =
    let n = length starts - 1 in
    let longer = starts ++ more ∷ [] in
    let rows : length longer - 1 ≡ n + 1 = rw length_push (omega (arith, are.some)) in
    let same_part : (s : ℕ) → s < n → slice_index_or (cut starts xs) s [] ≡ part longer (xs ++ ys) s = λ s below.
    let here = get_or_append_left starts (more ∷ []) 0 s (omega (arith, below)) in
    let next = get_or_append_left starts (more ∷ []) 0 (s + 1) (omega (arith, below)) in
    cut_row starts xs s (omega (arith, below))
    ∙ (rw (here, next) (sym (range_of_append xs ys (slice_index starts s) (slice_index starts (s + 1)) (are.up s (omega (arith, below)))
    (start_within starts (length xs) are (s + 1) (omega (arith, below)))))) in
    let before : cut starts xs ≡ map (part longer (xs ++ ys)) (range_with_len 0 n) =
    fill_by_all (part longer (xs ++ ys)) (cut starts xs) n [] (length-cut starts xs) same_part in
    let from : slice_index longer n ≡ length xs = get_or_append_left starts (more ∷ []) 0 n (omega (arith, are.some)) ∙ are.last in
    let to : slice_index longer (n + 1) ≡ length xs + length ys = get_or_push starts more 0 (n + 1) (omega (arith, are.some)) ∙ is in
    let last : part longer (xs ++ ys) n ≡ ys = range_at_end xs ys _ _ from to in
    rw (rows, map-range_with_len_more (part longer (xs ++ ys)) 0 n n (omega arith), ← before, last) refl

-- the pairs of the first elements of two lists
zip-take : {K V : Type 0} (n : ℕ) (ks : List K) (vs : List V) → take n (zip ks vs) ≡ zip (take n ks) (take n vs)
zip-take zero ks vs = refl
zip-take (suc n) [] vs = refl
zip-take (suc n) (k ∷ ks) [] = refl
zip-take (suc n) (k ∷ ks) (v ∷ vs) = ap (λ es. (k, v) ∷ es) (zip-take n ks vs)

-- the pairs of the rest of two lists
zip-drop : {K V : Type 0} (n : ℕ) (ks : List K) (vs : List V) → length vs ≡ length ks → drop n (zip ks vs) ≡ zip (drop n ks) (drop n vs)
zip-drop zero ks vs same = refl
zip-drop (suc n) [] vs same = refl
zip-drop (suc n) (k ∷ ks) [] same = absurd (omega (arith, same))
zip-drop (suc n) (k ∷ ks) (v ∷ vs) same = zip-drop n ks vs (omega (arith, same))

-- the pairs of a part of two lists
pub zip-range : {K V : Type 0} (a b : ℕ) (ks : List K) (vs : List V) → length vs ≡ length ks
    → slice_range (zip ks vs) a b ≡ zip (slice_range ks a b) (slice_range vs a b)
zip-range a b ks vs same = ap (λ es. take (b - a) es) (zip-drop a ks vs same) ∙ zip-take (b - a) (drop a ks) (drop a vs)

-- one more pair at the end
pub zip_push : {K V : Type 0} (ks : List K) (vs : List V) (k : K) (v : V) → length vs ≡ length ks
    → zip (ks ++ k ∷ []) (vs ++ v ∷ []) ≡ zip ks vs ++ (k, v) ∷ []
zip_push [] [] k v same = refl
zip_push [] (w ∷ vs) k v same = absurd (omega (arith, same))
zip_push (j ∷ ks) [] k v same = absurd (omega (arith, same))
zip_push (j ∷ ks) (w ∷ vs) k v same = ap (λ es. (j, w) ∷ es) (zip_push ks vs k v (omega (arith, same)))

-- so far the first entries of a row were appended, keys to keys and values to values
pub record AreAppended {K V : Type 0} (keys before : List K) (values values_before : List V) (row : List (K × V)) (i : ℕ) : Type 0 where
  pub paired : length values ≡ length keys
  pub len : length keys ≡ length before + i
  pub entries : zip keys values ≡ zip before values_before ++ take i row

-- one more
pub appended_more : {K V : Type 0} (keys before : List K) (values values_before : List V) (row : List (K × V)) (i : ℕ) (k : K) (v : V)
    → AreAppended keys before values values_before row i → i < length row → (k, v) ≡ slice_index_or row i (k, v)
    → AreAppended (keys ++ k ∷ []) before (values ++ v ∷ []) values_before row (i + 1)
appended_more keys before values values_before row i k v so_far below is = record {
  paired = rw (length_push, length_push) (omega (arith, so_far.paired));
  len = rw length_push (omega (arith, so_far.len));
  entries =
      zip_push keys values k v so_far.paired
      ∙ rw (so_far.entries, append_assoc, take_more row i (k, v) below, ← is) refl;
}

-- so far the lists make the first rows
pub record AreCutSoFar {K V R : Type 0} (items : R → List (K × V)) (starts : List ℕ) (keys : List K) (values : List V) (rows : List R) (i : ℕ) : Type 0 where
  pub parts : AreParts starts keys values
  pub rows_so_far : cut starts (zip keys values) ≡ map items (take i rows)

-- at first there are no rows
pub cut_first : {K V R : Type 0} (items : R → List (K × V)) (starts : List ℕ) (keys : List K) (values : List V) (rows : List R)
    → starts ≡ 0 ∷ [] → keys ≡ [] → values ≡ [] → AreCutSoFar items starts keys values rows 0
cut_first items starts keys values rows one no_keys no_values =
    rw (one, no_keys, no_values)
    (record {
      parts = record {
        placed = record { some = omega arith; first = refl; up = λ s below. absurd (omega (arith, below)); last = refl };
        paired = refl;
      };
      rows_so_far = refl;
    })

-- one more row
pub cut_more : {K V R : Type 0} (items : R → List (K × V)) (starts : List ℕ) (keys keys_after : List K) (values values_after : List V) (rows : List R)
    (i more : ℕ) (row : R)
    → AreCutSoFar items starts keys values rows i → i < length rows → row ≡ slice_index_or rows i row
    → length values_after ≡ length keys_after → length keys_after ≡ length keys + length (items row) → more ≡ length keys_after
    → zip keys_after values_after ≡ zip keys values ++ items row
    → AreCutSoFar items (starts ++ more ∷ []) keys_after values_after rows (i + 1)
cut_more items starts keys keys_after values values_after rows i more row so_far below is paired len at entries =
    let zipped : length (zip keys values) ≡ length keys = rw (length-zip, so_far.parts.paired) (omega arith) in
    let placed = so_far.parts.placed in
    let placed_zipped : AreStarts starts (length (zip keys values)) = rw zipped placed in
    record {
      parts = record {
        placed = rw (← at) (AreStarts-push starts (length keys) more placed (omega (arith, at, len)));
        paired = paired;
      };
      rows_so_far =
          rw (entries, cut_push starts (zip keys values) (items row) more placed_zipped (omega (arith, zipped, at, len)), so_far.rows_so_far)
          (rw (← is) at (sym (map_more items rows i row below)));
    }

-- the places at which a row begins and ends
pub record IsRowAt (starts : List ℕ) (end row : ℕ) : Type 0 where
  pub next : row + 1 < length starts
  pub up : slice_index starts row ≤ slice_index starts (row + 1)
  pub within : slice_index starts (row + 1) ≤ end

-- each row has a place at which it begins, and one at which it ends
pub row_at : {K V : Type 0} (starts : List ℕ) (keys : List K) (values : List V) (rows : List (List (K × V))) (row : ℕ)
    → AreParts starts keys values → cut starts (zip keys values) ≡ rows → row < length rows → IsRowAt starts (length keys) row
row_at starts keys values rows row parts is below =
    let len = length-cut starts (zip keys values) in
    let there : row + 1 < length starts = omega (arith, len, rw (← is) at below) in
    record {
      next = there;
      up = parts.placed.up row there;
      within = start_within starts (length keys) parts.placed (row + 1) there;
    }

-- the pairs of those parts are the row
pub row_is : {K V : Type 0} (starts : List ℕ) (keys part_keys : List K) (values part_values : List V) (rows : List (List (K × V))) (row a b : ℕ)
    → AreParts starts keys values → cut starts (zip keys values) ≡ rows → row < length rows
    → a ≡ slice_index starts row → b ≡ slice_index starts (row + 1)
    → part_keys ≡ slice_range keys a b → part_values ≡ slice_range values a b → zip part_keys part_values ≡ slice_index_or rows row []
row_is starts keys part_keys values part_values rows row a b parts is below from to keys_are values_are =
    let at = row_at starts keys values rows row parts is below in
    let here = cut_row starts (zip keys values) row at.next in
    rw (keys_are, values_are, ← is, here, from, to) (sym (zip-range (slice_index starts row) (slice_index starts (row + 1)) keys values parts.paired))

-- the first rows have as many elements as there are before the next row
first_rows_len : {X : Type 0} (starts : List ℕ) (xs : List X) → AreStarts starts (length xs) → (n : ℕ) → n < length starts
    → sum_by (λ row. length row) (map (part starts xs) (range_with_len 0 n)) ≡ slice_index starts n
first_rows_len starts xs are zero below = sym are.first
first_rows_len {X} starts xs are (suc n) below =
    let len : List X → ℕ = λ row. length row in
    let so_far = first_rows_len starts xs are n (omega (arith, below)) in
    let more = sum_by-map-range_with_len_more len (part starts xs) 0 n n (omega arith) in
    let next : suc n ≡ n + 1 = omega arith in
    let up = are.up n (omega (arith, below)) in
    let within = start_within starts (length xs) are (n + 1) (omega (arith, below)) in
    let dropped = length-drop (slice_index starts n) xs in
    let taken = length-take-le (slice_index starts (n + 1) - slice_index starts n) (drop (slice_index starts n) xs) (omega (arith, dropped, up, within)) in
    subst (λ (m : ℕ). sum_by len (map (part starts xs) (range_with_len 0 m)) ≡ slice_index starts m) (sym next) (omega (arith, more, so_far, taken, up))

-- all rows have the elements of the list
pub rows_len_is : {X : Type 0} (starts : List ℕ) (xs : List X) → AreStarts starts (length xs) → sum_by (λ row. length row) (cut starts xs) ≡ length xs
rows_len_is starts xs are = first_rows_len starts xs are (length starts - 1) (omega (arith, are.some)) ∙ are.last

-- rows of pairs have as many elements as there are keys
pub pairs_len_is : {K V : Type 0} (starts : List ℕ) (keys : List K) (values : List V) → AreParts starts keys values
    → sum_by (λ row. length row) (cut starts (zip keys values)) ≡ length keys
pairs_len_is starts keys values parts =
    let zipped : length (zip keys values) ≡ length keys = rw (length-zip, parts.paired) (omega arith) in
    let placed = parts.placed in
    let placed_zipped : AreStarts starts (length (zip keys values)) = rw zipped placed in
    rows_len_is starts (zip keys values) placed_zipped ∙ zipped

-- images of rows have as many elements
pub image_len : {X Y : Type 0} (f : X → Y) (rows : List (List X)) → sum_by (λ row. length row) (map (map f) rows) ≡ sum_by (λ row. length row) rows
image_len f [] = refl
image_len {X} {Y} f (row ∷ rows) =
    let len : List X → ℕ = λ r. length r in
    let image : List Y → ℕ = λ r. length r in
    let first = sum_by-cons image (map f row) (map (map f) rows) in
    let second = sum_by-cons len row rows in
    let one = length-map row f in
    let more = image_len f rows in
    omega (arith, first, second, one, more)
