-- What full rows store.
use Rattle.std.proofs.Common.{◌≡◌, ◌≢◌, ◌<◌, ◌≤◌, ◌+◌, ◌++◌, ◌∙◌, ℕ, zero, suc, nat_eq, List, [], ◌∷◌, All, Option, Some, None, unwrap_or, length, map, take, slice_index_or, slice_get, refl, ap, sym, subst, arith}
use Rattle.std.specs.List.{AllByRecursion, enumerate_from, filter_map, cons_option}
use Rattle.std.specs.List.Sorted.{IsStrictlyIncreasing}
use Rattle.std.specs.Map.{keys_of, lookup}
use Rattle.std.specs.Option.{option_and_then, option_map, option_to_list}
use Rattle.std.proofs.lemmas.Bool.{eq-eqb, ne_eqb}
use Rattle.std.proofs.lemmas.List.{get_or-map, length-map, length-take-le, take_more}
use Rattle.std.proofs.lemmas.List.Elements.{All-from_recursion, filter_map-append, All-head, All-map, All-tail}
use Rattle.std.proofs.lemmas.Map.Entries.{lookup_head, lookup_tail}
use Rattle.lrpar_table_rows.specs.Rows.{AreRows, IsActionRow, IsGotoRow, Rows, kept_entry, row_actions, row_entries, row_gotos, table_of, unless_error}
use Rattle.lrpar_table_rows.specs.Table.{AreEntries, IsActionEntry, IsActionWithin, IsGotoEntry, IsGotoWithin, IsTable, TableAction, ShiftTo, ReduceBy, Accepts, Fails, action_of, goto_of}

module _ {A B : Type 0} (keep : A → Option B) where
  -- the entries that are kept of a row whose first element has number n
  abbrev pub kept_from : ℕ → List A → List (ℕ × B)
  kept_from n row = filter_map (kept_entry keep) (enumerate_from n row)

  -- what holds of the first that is kept, and of the others, holds of all
  first_kept : (P : ℕ × B → Type 0) (n : ℕ) (o : Option B) (rest : List (ℕ × B)) → ((b : B) → o ≡ Some b → P (n, b)) → AllByRecursion P rest
      → AllByRecursion P (cons_option (option_map (λ kept. (n, kept)) o) rest)
  first_kept P n None rest here all = all
  first_kept P n (Some b) rest here all = (here b refl, all)

  -- what holds of each element that is kept, with its number, which is below m
  pub kept_all : (P : ℕ × B → Type 0) (Q : A → Type 0) (m : ℕ) → ((i : ℕ) (a : A) (b : B) → i < m → Q a → keep a ≡ Some b → P (i, b))
      → (n : ℕ) (row : List A) → n + length row ≤ m → All Q row → AllByRecursion P (kept_from n row)
  kept_all P Q m each n [] fits all = tt
  kept_all P Q m each n (x ∷ row) fits all =
      first_kept P n (keep x) (kept_from (n + 1) row) (λ b is. each n x b (omega (arith, fits)) (All-head Q x row all) is)
      (kept_all P Q m each (n + 1) row (omega (arith, fits)) (All-tail Q x row all))

  -- all kept entries have numbers from n on
  kept_past : (low n : ℕ) (row : List A) → low ≤ n → AllByRecursion (λ e. low ≤ e.0) (kept_from n row)
  kept_past low n [] from = tt
  kept_past low n (x ∷ row) from =
      first_kept (λ e. low ≤ e.0) n (keep x) (kept_from (n + 1) row) (λ b is. from) (kept_past low (n + 1) row (omega (arith, from)))

  -- a number before greater ones that ascend
  ascending_cons : (n : ℕ) (es : List (ℕ × B)) → AllByRecursion (λ e. n + 1 ≤ e.0) es → IsStrictlyIncreasing (keys_of es)
      → IsStrictlyIncreasing (n ∷ keys_of es)
  ascending_cons n [] all up k h = absurd (omega (arith, h))
  ascending_cons n (e ∷ es) all up zero h = omega (arith, all.0)
  ascending_cons n (e ∷ es) all up (suc k) h =
      let same : suc k + 1 ≡ suc (k + 1) = omega arith in rw same (up k (omega (arith, h)))

  -- later entries that ascend still do with the entry of the first element
  ascending_first : (n : ℕ) (o : Option B) (es : List (ℕ × B)) → AllByRecursion (λ e. n + 1 ≤ e.0) es → IsStrictlyIncreasing (keys_of es)
      → IsStrictlyIncreasing (keys_of (cons_option (option_map (λ kept. (n, kept)) o) es))
  ascending_first n None es all up = up
  ascending_first n (Some b) es all up = ascending_cons n es all up

  -- the kept entries ascend
  pub kept_ascends : (n : ℕ) (row : List A) → IsStrictlyIncreasing (keys_of (kept_from n row))
  kept_ascends n [] = λ k h. absurd (omega (arith, h))
  kept_ascends n (x ∷ row) =
      ascending_first n (keep x) (kept_from (n + 1) row) (kept_past (n + 1) (n + 1) row (omega arith)) (kept_ascends (n + 1) row)

  -- a look-up of another number passes over the first
  skip_first : (n t : ℕ) (o : Option B) (es : List (ℕ × B)) → t ≢ n
      → lookup (nat_eq t) (cons_option (option_map (λ kept. (n, kept)) o) es) ≡ lookup (nat_eq t) es
  skip_first n t None es other = refl
  skip_first n t (Some b) es other = lookup_tail (nat_eq t) (n, b) es (ne_eqb t n other)

  -- a look-up of its number finds the first, or goes on
  find_first : (n t : ℕ) (o : Option B) (es : List (ℕ × B)) → t ≡ n → lookup (nat_eq t) es ≡ None
      → lookup (nat_eq t) (cons_option (option_map (λ kept. (n, kept)) o) es) ≡ o
  find_first n t None es same none = none
  find_first n t (Some b) es same none = lookup_head (nat_eq t) (n, b) es (eq-eqb t n same)

  -- a number below those of all kept entries isn't found
  not_before : (n t : ℕ) (row : List A) → t < n → lookup (nat_eq t) (kept_from n row) ≡ None
  not_before n t [] less = refl
  not_before n t (x ∷ row) less =
      skip_first n t (keep x) (kept_from (n + 1) row) (λ same. omega (arith, same, less)) ∙ not_before (n + 1) t row (omega (arith, less))

  -- a look-up finds the entry that is kept for the element with that number
  pub lookup_kept : (n i t : ℕ) (row : List A) → t ≡ n + i → lookup (nat_eq t) (kept_from n row) ≡ option_and_then keep (slice_get row i)
  lookup_kept n i t [] is = refl
  lookup_kept n zero t (x ∷ row) is =
      find_first n t (keep x) (kept_from (n + 1) row) (omega (arith, is)) (not_before (n + 1) t row (omega (arith, is)))
  lookup_kept n (suc i) t (x ∷ row) is =
      skip_first n t (keep x) (kept_from (n + 1) row) (λ same. omega (arith, same, is)) ∙ lookup_kept (n + 1) i t row (omega (arith, is))

-- the elements of a row and one more, with their numbers
enumerate_push : {A : Type 0} (n m : ℕ) (row : List A) (x : A) → m ≡ n + length row
    → enumerate_from n (row ++ x ∷ []) ≡ enumerate_from n row ++ (m, x) ∷ []
enumerate_push n m [] x is = let same : n ≡ m = omega (arith, is) in rw same refl
enumerate_push n m (y ∷ row) x is = ap (λ es. (n, y) ∷ es) (enumerate_push (n + 1) m row x (omega (arith, is)))

-- what is kept of one element, as a list
kept_alone : {X : Type 0} (o : Option X) → cons_option o [] ≡ option_to_list o
kept_alone None = refl
kept_alone (Some x) = refl

-- what is kept of the first elements of a row's image, and of one more
pub row_entries_more : {S A B : Type 0} (keep : A → Option B) (f : S → A) (row : List S) (i : ℕ) (x : S) → i < length row → x ≡ slice_index_or row i x
    → row_entries keep (take (i + 1) (map f row)) ≡ row_entries keep (take i (map f row)) ++ option_to_list (kept_entry keep (i, f x))
row_entries_more keep f row i x below is =
    let front = take i (map f row) in
    let inside : i < length (map f row) = rw length-map below in
    let here : slice_index_or (map f row) i (f x) ≡ f x = get_or-map f row i x (f x) below ∙ ap f (sym is) in
    let more : take (i + 1) (map f row) ≡ front ++ f x ∷ [] = rw here at (take_more (map f row) i (f x) inside) in
    let short : i ≤ length (map f row) = omega (arith, inside) in
    let len : i ≡ 0 + length front = omega (arith, length-take-le i (map f row) short) in
    rw (more, enumerate_push 0 i front (f x) len, filter_map-append)
    (ap (λ es. filter_map (kept_entry keep) (enumerate_from 0 front) ++ es) (kept_alone (kept_entry keep (i, f x))))

-- an image of an image
pub map-map : {X Y Z : Type 0} (f : X → Y) (h : Y → Z) (xs : List X) → map h (map f xs) ≡ map (λ x. h (f x)) xs
map-map f h [] = refl
map-map f h (x ∷ xs) = ap (λ ys. h (f x) ∷ ys) (map-map f h xs)

-- an image of rows has the image of each row, and the empty row if there is none
pub row_of_image : {X Y : Type 0} (f : List X → List Y) → f [] ≡ [] → (rows : List (List X)) (s : ℕ)
    → slice_index_or (map f rows) s [] ≡ f (slice_index_or rows s [])
row_of_image f none [] s = sym none
row_of_image f none (row ∷ rows) zero = refl
row_of_image f none (row ∷ rows) (suc s) = row_of_image f none rows s

-- the image of the row that was read is the row of the image
pub image_of_row : {X Y : Type 0} (f : X → Y) (rows : List (List X)) (row : List X) (at s : ℕ) → row ≡ slice_index_or rows at [] → at ≡ s
    → map f row ≡ slice_index_or (map (map f) rows) s []
image_of_row f rows row at s is same = ap (map f) (is ∙ ap (λ k. slice_index_or rows k []) same) ∙ sym (row_of_image (map f) refl rows s)

-- what is kept of an action, or else an error, is the action
unless_error_or : (action : TableAction) → unwrap_or (unless_error action) Fails ≡ action
unless_error_or (ShiftTo s) = refl
unless_error_or (ReduceBy p) = refl
unless_error_or Accepts = refl
unless_error_or Fails = refl

-- an action that is kept is that action, and no error
unless_error_keeps : (action kept : TableAction) → unless_error action ≡ Some kept → (action ≡ kept) × (kept ≢ Fails)
unless_error_keeps (ShiftTo s) kept is = let same : ShiftTo s ≡ kept = cc in (same, λ error. absurd cc)
unless_error_keeps (ReduceBy p) kept is = let same : ReduceBy p ≡ kept = cc in (same, λ error. absurd cc)
unless_error_keeps Accepts kept is = let same : Accepts ≡ kept = cc in (same, λ error. absurd cc)
unless_error_keeps Fails kept is = absurd cc

-- what is kept of a row's action, or else an error, is the row's action
action_in_row : (row : List TableAction) (t : ℕ) → unwrap_or (option_and_then unless_error (slice_get row t)) Fails ≡ slice_index_or row t Fails
action_in_row [] t = refl
action_in_row (x ∷ row) zero = unless_error_or x
action_in_row (x ∷ row) (suc t) = action_in_row row t

-- what is kept of a row's goto is the goto
goto_in_row : (row : List (Option ℕ)) (r : ℕ) → option_and_then (λ goto. goto) (slice_get row r) ≡ slice_index_or row r None
goto_in_row [] r = refl
goto_in_row (x ∷ row) zero = refl
goto_in_row (x ∷ row) (suc r) = goto_in_row row r

-- the action of a table of rows is that of the rows
pub action_of_rows : (rows : Rows) (s t : ℕ) → action_of (table_of rows) s t ≡ slice_index_or (slice_index_or rows.actions s []) t Fails
unfolding action_of
action_of_rows rows s t =
    let row = slice_index_or rows.actions s [] in
    let at : slice_index_or (map row_actions rows.actions) s [] ≡ row_actions row = row_of_image row_actions refl rows.actions s in
    rw at (ap (λ o. unwrap_or o Fails) (lookup_kept unless_error 0 t t row (omega arith)) ∙ action_in_row row t)

-- the goto of a table of rows is that of the rows
pub goto_of_rows : (rows : Rows) (s r : ℕ) → goto_of (table_of rows) s r ≡ slice_index_or (slice_index_or rows.gotos s []) r None
unfolding goto_of
goto_of_rows rows s r =
    let row = slice_index_or rows.gotos s [] in
    let at : slice_index_or (map row_gotos rows.gotos) s [] ≡ row_gotos row = row_of_image row_gotos refl rows.gotos s in
    rw at (lookup_kept (λ goto. goto) 0 r r row (omega arith) ∙ goto_in_row row r)

-- the entries that are stored of a row of actions are right entries
row_actions_good : (tokens states : ℕ) (row : List TableAction) → IsActionRow tokens states row → AreEntries (IsActionEntry tokens states) (row_actions row)
row_actions_good tokens states row is = record {
  ascending = kept_ascends unless_error 0 row;
  each =
      All-from_recursion (IsActionEntry tokens states) (row_actions row)
      (kept_all unless_error (IsActionEntry tokens states) (IsActionWithin states) tokens
      (λ t action kept below within keeps.
      let same = unless_error_keeps action kept keeps in
      record { token = below; stored = same.1; within = subst (IsActionWithin states) same.0 within })
      0 row (omega (arith, is.0)) is.1);
}

-- the entries that are stored of a row of gotos are right entries
row_gotos_good : (rules states : ℕ) (row : List (Option ℕ)) → IsGotoRow rules states row → AreEntries (IsGotoEntry rules states) (row_gotos row)
row_gotos_good rules states row is = record {
  ascending = kept_ascends (λ goto. goto) 0 row;
  each =
      All-from_recursion (IsGotoEntry rules states) (row_gotos row)
      (kept_all (λ goto. goto) (IsGotoEntry rules states) (IsGotoWithin states) rules
      (λ r goto kept below within keeps. record { rule = below; within = subst (IsGotoWithin states) keeps within })
      0 row (omega (arith, is.0)) is.1);
}

-- the table of right rows is a table
pub table_from_rows : (limit : ℕ) (rows : Rows) → AreRows limit rows → IsTable limit (table_of rows)
table_from_rows limit rows are = record {
  actions_len = length-map rows.actions row_actions;
  gotos_len = length-map rows.gotos row_gotos ∙ are.gotos_len;
  states_fit = are.states_fit;
  tokens_fit = are.tokens_fit;
  rules_fit = are.rules_fit;
  start_within = are.start_within;
  actions =
      All-map (AreEntries (IsActionEntry rows.tokens (length rows.actions))) row_actions rows.actions
      (λ s d below. row_actions_good rows.tokens (length rows.actions) (slice_index_or rows.actions s d) (are.action_rows s d below));
  gotos =
      All-map (AreEntries (IsGotoEntry rows.rules (length rows.actions))) row_gotos rows.gotos
      (λ s d below. row_gotos_good rows.rules (length rows.actions) (slice_index_or rows.gotos s d) (are.goto_rows s d below));
}
