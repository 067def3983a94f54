-- The lists that the loops over productions and tokens build, by what one more production or token adds; and shifts that ascend.
use Rattle.std.proofs.Common.{◌≡◌, ◌≢◌, ◌<◌, ◌+◌, ◌++◌, ◌∷◌, ◌∙◌, ℕ, Bool, true, false, cond, nat_eq, List, [], Some, None, refl, sym, ap, arith, length, map, take, get_or, zero-add}
use Rattle.std.specs.List.{range_with_len, flat_map}
use Rattle.std.specs.Map.{keys_of, lookup}
use Rattle.std.proofs.lemmas.Bool.{ne_eqb}
use Rattle.std.proofs.lemmas.List.{append-nil, append_assoc, map-append}
use Rattle.std.specs.Option.{is_none}
use Rattle.std.proofs.lemmas.List.Concat.{flat_map-append}
use Rattle.std.proofs.lemmas.List.Elements.{filter_map-append}
use Rattle.lrpar_grammar_places.proofs.ListLemmas.{map-take_more, range_more}
use Rattle.lrpar_table_precedence.specs.Precedence.{PrecedenceLists, resolution_of}
use Rattle.lrpar_table_rows.specs.PlainConflicts.{reduce_reduce_of, resolved_conflict_of, shift_reduce_of}
use Rattle.lrpar_table_rows.specs.Table.{ReduceReduce, ShiftReduce}
use Rattle.lrpar_table_items.specs.Resolution.{AscendFrom, reduce_conflicts_at, resolution_with, resolutions, unresolved}
use Rattle.lrpar_table_items.specs.StoredRows.{AddsConflicts}
use Rattle.lrpar_table_items.specs.declared.resolution.FoundConflicts.{FoundConflicts}

-- the conflicts with the first production, with one more production
pub conflicts_more : {X Y : Type 0} (view : Y → ReduceReduce) (f : X → ℕ) (s t p : ℕ) (later : List X) (i : ℕ) (x : X) (made pushed : List Y) (y : Y)
    (base : List ReduceReduce) → i < length later → x ≡ get_or later i x
    → map view made ≡ base ++ reduce_conflicts_at s t (p ∷ map f (take i later)) → pushed ≡ made ++ y ∷ []
    → view y ≡ record { token = t; first = p; second = f x; state = s }
    → map view pushed ≡ base ++ reduce_conflicts_at s t (p ∷ map f (take (i + 1) later))
conflicts_more view f s t p later i x made pushed y base within is so_far more same =
    let conflict : ℕ → ReduceReduce = λ q. record { token = t; first = p; second = q; state = s } in
    ap (map view) more ∙ map-append view made (y ∷ []) ∙ ap (λ z. z ++ view y ∷ []) so_far
    ∙ append_assoc base (map conflict (map f (take i later))) (view y ∷ [])
    ∙ ap (λ z. base ++ (map conflict (map f (take i later)) ++ z ∷ [])) same
    ∙ ap (λ z. base ++ z) (sym (ap (map conflict) (map-take_more f later i x within is) ∙ map-append conflict (map f (take i later)) (f x ∷ [])))

-- if shifts ascend from a number on, none is by a lower number
pub lookup_past : {X : Type 0} (t n : ℕ) (entries : List (ℕ × X)) → t < n → AscendFrom n (keys_of entries) → lookup (nat_eq t) entries ≡ None
lookup_past t n [] past up = refl
lookup_past t n (e ∷ entries) past up =
    let other : t ≢ e.0 = omega (arith, past, up.0) in
    ap (λ b. cond b (Some e.1) (lookup (nat_eq t) entries)) (ne_eqb t e.0 other) ∙ lookup_past t (e.0 + 1) entries (omega (arith, past, up.0)) up.1

-- if the first isn't by that number, none is by that number either
pub lookup_other : {X : Type 0} (t : ℕ) (e : ℕ × X) (entries : List (ℕ × X)) → AscendFrom t (keys_of (e ∷ entries)) → (e.0 ≡ t → ⊥)
    → lookup (nat_eq t) (e ∷ entries) ≡ None
lookup_other t e entries up other =
    let differs : t ≢ e.0 = λ same. other (sym same) in
    ap (λ b. cond b (Some e.1) (lookup (nat_eq t) entries)) (ne_eqb t e.0 differs) ∙ lookup_past t (e.0 + 1) entries (omega (arith, up.0)) up.1

-- the lists of each number below an end, joined, with one more number
pub flat_more : {Y : Type 0} (f : ℕ → List Y) (n : ℕ) → flat_map f (range_with_len 0 (n + 1)) ≡ flat_map f (range_with_len 0 n) ++ f n
flat_more f n =
    ap (flat_map f) (sym (range_more 0 n)) ∙ flat_map-append f (range_with_len 0 n) ((0 + n) ∷ [])
    ∙ ap (λ s. flat_map f (range_with_len 0 n) ++ s) (append-nil (f (0 + n))) ∙ ap (λ k. flat_map f (range_with_len 0 n) ++ f k) (zero-add n)

-- the same for lists that are seen through a view
pub joined_more : {X Y : Type 0} (view : X → Y) (f : ℕ → List Y) (n : ℕ) (made pushed : List X) (base : List Y)
    → map view made ≡ base ++ flat_map f (range_with_len 0 n) → map view pushed ≡ map view made ++ f n
    → map view pushed ≡ base ++ flat_map f (range_with_len 0 (n + 1))
joined_more view f n made pushed base so_far more =
    more ∙ ap (λ s. s ++ f n) so_far ∙ append_assoc base (flat_map f (range_with_len 0 n)) (f n) ∙ ap (λ s. base ++ s) (sym (flat_more f n))

-- the same for lists of which only some elements are kept, or an image of them
pub joined_kept : {X Y Z : Type 0} (view : X → Z) (keep : List Y → List Z) → ((xs ys : List Y) → keep (xs ++ ys) ≡ keep xs ++ keep ys) → (f : ℕ → List Y) (n : ℕ)
    (made pushed : List X) (base : List Z) → map view made ≡ base ++ keep (flat_map f (range_with_len 0 n)) → map view pushed ≡ map view made ++ keep (f n)
    → map view pushed ≡ base ++ keep (flat_map f (range_with_len 0 (n + 1)))
joined_kept view keep joins f n made pushed base so_far more =
    more ∙ ap (λ s. s ++ keep (f n)) so_far ∙ append_assoc base (keep (flat_map f (range_with_len 0 n))) (keep (f n))
    ∙ ap (λ s. base ++ s) (sym (ap keep (flat_more f n) ∙ joins (flat_map f (range_with_len 0 n)) (f n)))

-- what is kept of two lists of conflicts
pub unresolved-append : (lists : PrecedenceLists) (xs ys : List ShiftReduce) → unresolved lists (xs ++ ys) ≡ unresolved lists xs ++ unresolved lists ys
unresolved-append lists [] ys = refl
unresolved-append lists (x ∷ xs) ys =
    let keep : ShiftReduce → Bool = λ x. is_none (resolution_of lists x.prod x.token) in
    elim (keep x) as (λ b. cond b (x ∷ unresolved lists (xs ++ ys)) (unresolved lists (xs ++ ys))
    ≡ cond b (x ∷ unresolved lists xs) (unresolved lists xs) ++ unresolved lists ys) [
      | true ↦ ap (λ s. x ∷ s) (unresolved-append lists xs ys)
      | false ↦ unresolved-append lists xs ys
    ]

pub resolutions-append : (lists : PrecedenceLists) (xs ys : List ShiftReduce) → resolutions lists (xs ++ ys) ≡ resolutions lists xs ++ resolutions lists ys
resolutions-append lists xs ys = filter_map-append (resolution_with lists) xs ys

-- no conflicts are added
pub adds_none : {S : Type 0} (index : S → ℕ) (lists : PrecedenceLists) (found : FoundConflicts S) → AddsConflicts index lists [] [] found found
adds_none index lists found = record { reduce_reduce = sym (append-nil _); shift_reduce = sym (append-nil _); decided = sym (append-nil _) }

-- the conflicts of each number below an end are added, and those of one more number
pub adds_more : {S : Type 0} (index : S → ℕ) (lists : PrecedenceLists) (reduces : ℕ → List ReduceReduce) (shifts : ℕ → List ShiftReduce) (n : ℕ)
    (base made new : FoundConflicts S)
    → AddsConflicts index lists (flat_map reduces (range_with_len 0 n)) (flat_map shifts (range_with_len 0 n)) base made
    → AddsConflicts index lists (reduces n) (shifts n) made new
    → AddsConflicts index lists (flat_map reduces (range_with_len 0 (n + 1))) (flat_map shifts (range_with_len 0 (n + 1))) base new
adds_more index lists reduces shifts n base made new so_far more = record {
  reduce_reduce =
      joined_more (reduce_reduce_of index) reduces n made.reduce_reduce.items new.reduce_reduce.items
      (map (reduce_reduce_of index) base.reduce_reduce.items) so_far.reduce_reduce more.reduce_reduce;
  shift_reduce =
      joined_kept (shift_reduce_of index) (unresolved lists) (unresolved-append lists) shifts n made.shift_reduce.items new.shift_reduce.items
      (map (shift_reduce_of index) base.shift_reduce.items) so_far.shift_reduce more.shift_reduce;
  decided =
      joined_kept (resolved_conflict_of index) (resolutions lists) (resolutions-append lists) shifts n made.resolved.items new.resolved.items
      (map (resolved_conflict_of index) base.resolved.items) so_far.decided more.decided;
}
