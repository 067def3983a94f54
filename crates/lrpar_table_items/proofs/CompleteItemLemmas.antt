-- The lists that the loops over cores and tokens build, by what one more core or token adds.
use Rattle.std.proofs.Common.{◌≡◌, ◌<◌, ◌+◌, ◌==◌, ◌&&◌, ◌||◌, ◌++◌, ◌∷◌, ◌∙◌, inl, inr, ℕ, Bool, true, false, not, cond, List, [], Some, sym, ap, subst, arith, length, length-append, map, take, get_or, slice_get, filter, refl, zero-add}
use Rattle.std.specs.List.{range_with_len}
use Rattle.std.proofs.lemmas.Bool.{cases_lt}
use Rattle.std.proofs.lemmas.Option.{get_or_from_slice_get, slice_get-get_or, slice_get_within}
use Rattle.std.proofs.Math.ListN.{get_or-append}
use Rattle.std.proofs.Math.Seq.{get_or-append_seam}
use Rattle.std.proofs.lemmas.List.{append-nil, append_assoc, get_or-map, length-map, map-append, map-id}
use Rattle.std.proofs.lemmas.List.Concat.{flat_map-append}
use Rattle.std.proofs.lemmas.List.Elements.{filter-append}
use Rattle.std.proofs.lemmas.List.Folds.{list_any-append, list_any_at}
use Rattle.lrpar_grammar_places.proofs.ListLemmas.{map-take_more, range_more}
use Rattle.lrpar_grammar.specs.Grammar.{Grammar, tokens_len}
use Rattle.lrpar_grammar.specs.Tokens.{has}
use Rattle.lrpar_grammar_places.specs.declared.span.PIdx.{PIdx}
use Rattle.lrpar_grammar_places.specs.declared.span.TIdx.{TIdx}
use Rattle.std.specs.declared.vec.Vec.{Vec}
use Rattle.lrpar_table_rows.specs.Graph.{ItemOf, item_at}
use Rattle.lrpar_table_rows.specs.PlainItems.{item_of}
use Rattle.lrpar_table_rows.specs.Runs.{core_items, items_of_rows, set_of_rows}
use Rattle.lrpar_table_rows.proofs.RunLemmas.{row_more}
use Rattle.lrpar_table_items.specs.StateRows.{item_rows}
use Rattle.lrpar_table_items.specs.States.{StateOf, state_of}
use Rattle.lrpar_table_items.specs.declared.cores.CoreItems.{CoreItems}
use Rattle.lrpar_table_items.specs.declared.item_set.State.{State}
use Rattle.lrpar_table_items.specs.CompleteItems.{AreLookaheads, AreRowsOf, accepts_at, items_of_core, items_of_cores, prods_at}
use Rattle.lrpar_table_items.specs.Cores.{CoreSet, core_set}

-- the numbers below n + 1 that pass a test
filter_one : {Y : Type 0} (h : ℕ → Y) (p : ℕ → Bool) (n : ℕ)
    → map h (filter p (range_with_len 0 (n + 1))) ≡ map h (filter p (range_with_len 0 n)) ++ map h (filter p (n ∷ []))
filter_one h p n =
    ap (λ r. map h (filter p r)) (sym (range_more 0 n)) ∙ ap (map h) (filter-append p (range_with_len 0 n) ((0 + n) ∷ []))
    ∙ map-append h (filter p (range_with_len 0 n)) (filter p ((0 + n) ∷ []))
    ∙ ap (λ k. map h (filter p (range_with_len 0 n)) ++ map h (filter p (k ∷ []))) (zero-add n)

pub filter_no : {Y : Type 0} (h : ℕ → Y) (p : ℕ → Bool) (n : ℕ) → p n ≡ false
    → map h (filter p (range_with_len 0 (n + 1))) ≡ map h (filter p (range_with_len 0 n))
filter_no h p n fails =
    filter_one h p n ∙ ap (λ b. map h (filter p (range_with_len 0 n)) ++ map h (cond b (n ∷ []) [])) fails ∙ append-nil (map h (filter p (range_with_len 0 n)))

filter_yes : {Y : Type 0} (h : ℕ → Y) (p : ℕ → Bool) (n : ℕ) → p n ≡ true
    → map h (filter p (range_with_len 0 (n + 1))) ≡ map h (filter p (range_with_len 0 n)) ++ h n ∷ []
filter_yes h p n passes = filter_one h p n ∙ ap (λ b. map h (filter p (range_with_len 0 n)) ++ map h (cond b (n ∷ []) [])) passes

-- a loop over numbers pushes an element for a number that passes the test
pub pushed_yes : {X Y : Type 0} (f : X → Y) (h : ℕ → Y) (p : ℕ → Bool) (made pushed : List X) (base : List Y) (x : X) (n : ℕ)
    → map f made ≡ base ++ map h (filter p (range_with_len 0 n)) → pushed ≡ made ++ x ∷ [] → f x ≡ h n → p n ≡ true
    → map f pushed ≡ base ++ map h (filter p (range_with_len 0 (n + 1)))
pushed_yes f h p made pushed base x n so_far more same passes =
    ap (map f) more ∙ map-append f made (x ∷ []) ∙ ap (λ s. s ++ f x ∷ []) so_far
    ∙ append_assoc base (map h (filter p (range_with_len 0 n))) (f x ∷ [])
    ∙ ap (λ y. base ++ (map h (filter p (range_with_len 0 n)) ++ y ∷ [])) same ∙ ap (λ s. base ++ s) (sym (filter_yes h p n passes))

-- the items of one more core
pub cores_more : {X : Type 0} (f : X → CoreSet) (tokens : ℕ) (cores : List X) (i : ℕ) (x : X) → i < length cores → x ≡ get_or cores i x
    → items_of_cores tokens (map f (take (i + 1) cores)) ≡ items_of_cores tokens (map f (take i cores)) ++ items_of_core tokens (f x)
cores_more f tokens cores i x within is =
    ap (items_of_cores tokens) (map-take_more f cores i x within is)
    ∙ flat_map-append (items_of_core tokens) (map f (take i cores)) (f x ∷ [])
    ∙ ap (λ s. items_of_cores tokens (map f (take i cores)) ++ s) (append-nil (items_of_core tokens (f x)))

-- the productions of one more core
module _ {X : Type 0} (f : X → CoreSet) (start t : ℕ) (xs : List X) (i : ℕ) (x : X) (within : i < length xs) (is : x ≡ get_or xs i x) where
  prods_more : prods_at start (map f (take (i + 1) xs)) t ≡ prods_at start (map f (take i xs)) t ++ prods_at start (f x ∷ []) t
  prods_more =
      let test : CoreSet → Bool = λ core. not (core.prod == start) && has core.tokens t in
      ap (λ s. prods_at start s t) (map-take_more f xs i x within is)
      ∙ ap (map (λ (core : CoreSet). core.prod)) (filter-append test (map f (take i xs)) (f x ∷ []))
      ∙ map-append (λ (core : CoreSet). core.prod) (filter test (map f (take i xs))) (filter test (f x ∷ []))

  pub prods_yes : (not ((f x).prod == start) && has (f x).tokens t) ≡ true
      → prods_at start (map f (take (i + 1) xs)) t ≡ prods_at start (map f (take i xs)) t ++ (f x).prod ∷ []
  prods_yes passes =
      prods_more ∙ ap (λ b. prods_at start (map f (take i xs)) t ++ map (λ (core : CoreSet). core.prod) (cond b (f x ∷ []) [])) passes

  pub prods_no : (not ((f x).prod == start) && has (f x).tokens t) ≡ false
      → prods_at start (map f (take (i + 1) xs)) t ≡ prods_at start (map f (take i xs)) t
  prods_no fails =
      prods_more ∙ ap (λ b. prods_at start (map f (take i xs)) t ++ map (λ (core : CoreSet). core.prod) (cond b (f x ∷ []) [])) fails
      ∙ append-nil (prods_at start (map f (take i xs)) t)

  -- and whether one of them is the start production
  accepts_more : accepts_at start (map f (take (i + 1) xs)) t ≡ (accepts_at start (map f (take i xs)) t || accepts_at start (f x ∷ []) t)
  accepts_more =
      let test : CoreSet → Bool = λ core. (core.prod == start) && has core.tokens t in
      ap (λ s. accepts_at start s t) (map-take_more f xs i x within is) ∙ list_any-append test (map f (take i xs)) (f x ∷ [])

  pub accepts_no : accepts_at start (map f (take i xs)) t ≡ false → (((f x).prod == start) && has (f x).tokens t) ≡ false
      → accepts_at start (map f (take (i + 1) xs)) t ≡ false
  accepts_no so_far fails =
      accepts_more ∙ ap (λ b. b || accepts_at start (f x ∷ []) t) so_far ∙ ap (λ b. b || false) fails

  pub accepts_yes : (((f x).prod == start) && has (f x).tokens t) ≡ true → accepts_at start (map f xs) t ≡ true
  accepts_yes passes =
      let test : CoreSet → Bool = λ core. (core.prod == start) && has core.tokens t in
      let inside : i < length (map f xs) = omega (arith, within, length-map xs f) in
      let there : get_or (map f xs) i (f x) ≡ f x = get_or-map f xs i x (f x) within ∙ ap f (sym is) in
      list_any_at test (map f xs) i (f x) inside (ap test there ∙ passes)

-- the elements that pass a test, with one more element
module _ {X Y : Type 0} (f : X → Y) (test : Y → Bool) (xs : List X) (i : ℕ) (x : X) (within : i < length xs) (is : x ≡ get_or xs i x) where
  passing_more : filter test (map f (take (i + 1) xs)) ≡ filter test (map f (take i xs)) ++ filter test (f x ∷ [])
  passing_more = ap (filter test) (map-take_more f xs i x within is) ∙ filter-append test (map f (take i xs)) (f x ∷ [])

  pub passing_yes : test (f x) ≡ true → filter test (map f (take (i + 1) xs)) ≡ filter test (map f (take i xs)) ++ f x ∷ []
  passing_yes passes = passing_more ∙ ap (λ b. filter test (map f (take i xs)) ++ cond b (f x ∷ []) []) passes

  pub passing_no : test (f x) ≡ false → filter test (map f (take (i + 1) xs)) ≡ filter test (map f (take i xs))
  passing_no fails =
      passing_more ∙ ap (λ b. filter test (map f (take i xs)) ++ cond b (f x ∷ []) []) fails ∙ append-nil (filter test (map f (take i xs)))

-- a loop over numbers pushes those that pass the test
pub kept_yes : {X : Type 0} (f : X → ℕ) (p : ℕ → Bool) (made pushed : List X) (x : X) (n : ℕ) → map f made ≡ filter p (range_with_len 0 n)
    → pushed ≡ made ++ x ∷ [] → f x ≡ n → p n ≡ true → map f pushed ≡ filter p (range_with_len 0 (n + 1))
kept_yes f p made pushed x n so_far more same passes =
    pushed_yes f (λ k. k) p made pushed [] x n (so_far ∙ sym (map-id (filter p (range_with_len 0 n)))) more same passes ∙ map-id (filter p (range_with_len 0 (n + 1)))

-- and no others
pub kept_no : (p : ℕ → Bool) (n : ℕ) → p n ≡ false → filter p (range_with_len 0 (n + 1)) ≡ filter p (range_with_len 0 n)
kept_no p n fails = sym (map-id (filter p (range_with_len 0 (n + 1)))) ∙ filter_no (λ k. k) p n fails ∙ map-id (filter p (range_with_len 0 n))

-- the items of a core by their numbers
core_row : {S : Type 0} (index : S → ℕ) (core : PIdx S × ℕ) (tokens : List (TIdx S))
    → map (item_of index) (core_items core tokens) ≡ map (item_at (index core.0.0) core.1) (map (λ token. index token.0) tokens)
core_row index core [] = refl
core_row index core (t ∷ ts) = ap (λ (xs : List ItemOf). item_at (index core.0.0) core.1 (index t.0) ∷ xs) (core_row index core ts)

-- a row with the lookaheads of a core adds its items
pub row_pushed : {S Z : Type 0} (index : S → ℕ) (len : ℕ) (rows : List (PIdx S × ℕ × Vec (TIdx S) Z)) (core : CoreItems S) (tokens : Vec (TIdx S) Z)
    → map (λ token. index token.0) tokens.items ≡ filter (has core.tokens) (range_with_len 0 len)
    → set_of_rows index (rows ++ (core.prod, core.dot, tokens) ∷ []) ≡ set_of_rows index rows ++ items_of_core len (core_set index core)
row_pushed {S} index len rows core tokens are =
    ap (map (item_of index)) (row_more rows (core.prod, core.dot, tokens))
    ∙ map-append (item_of index) (items_of_rows rows) (core_items (core.prod, core.dot) tokens.items)
    ∙ ap (λ (xs : List ItemOf). set_of_rows index rows ++ xs)
    (core_row index (core.prod, core.dot) tokens.items ∙ ap (map (item_at (index core.prod.0) core.dot)) are)

unwrapped : {A : Type 0} (x y : A) → Some x ≡ Some y → x ≡ y
unwrapped x y e = cc

-- the rows with one more row, which has the lookaheads of the core at its place
pub rows_kept : {S Z : Type 0} (index : S → ℕ) (len : ℕ) (cores : List (CoreItems S)) (rows : List (PIdx S × ℕ × Vec (TIdx S) Z))
    (at : PIdx S × ℕ) (core : CoreItems S) (tokens : Vec (TIdx S) Z) → slice_get cores (length rows) ≡ Some core
    → AreLookaheads index len core tokens.items → AreRowsOf index len cores rows → AreRowsOf index len cores (rows ++ (at.0, at.1, tokens) ∷ [])
rows_kept {S} {Z} index len cores rows at core tokens here are before place other row is got =
    elim (cases_lt place (length rows)) as (λ _. AreLookaheads index len other row.2.items) [
      | inl below ↦
          before place other row is
          (slice_get-get_or rows place row below
          ∙ ap Some (sym (get_or-append rows ((at.0, at.1, tokens) ∷ []) row place below)
          ∙ get_or_from_slice_get (rows ++ (at.0, at.1, tokens) ∷ []) place row row got))
      | inr past ↦
          let within = slice_get_within (rows ++ (at.0, at.1, tokens) ∷ []) place row got in
          let long = length-append rows ((at.0, at.1, tokens) ∷ []) in
          let last : place ≡ length rows = omega (arith, past, within, long) in
          let same : other ≡ core = unwrapped other core (sym is ∙ ap (slice_get cores) last ∙ here) in
          let own : (at.0, at.1, tokens) ≡ row =
          sym (get_or-append_seam rows (at.0, at.1, tokens) [] row) ∙ ap (λ (n : ℕ). get_or (rows ++ (at.0, at.1, tokens) ∷ []) n row) (sym last)
          ∙ get_or_from_slice_get (rows ++ (at.0, at.1, tokens) ∷ []) place row row got in
          subst (λ (r : PIdx S × ℕ × Vec (TIdx S) Z). AreLookaheads index len other r.2.items) own
          (subst (λ (c : CoreItems S). AreLookaheads index len c tokens.items) (sym same) are)
    ]

-- the items of one more state
pub states_more : {S : Type 0} (index : S → ℕ) (g : Grammar) (states : List (State S)) (i : ℕ) (state : State S) → i < length states
    → state ≡ get_or states i state
    → item_rows g (map (state_of index) (take (i + 1) states))
    ≡ item_rows g (map (state_of index) (take i states)) ++ items_of_cores (tokens_len g) (map (core_set index) state.items.items) ∷ []
states_more index g states i state within is =
    ap (item_rows g) (map-take_more (state_of index) states i state within is)
    ∙ map-append (λ (x : StateOf). items_of_cores (tokens_len g) x.cores) (map (state_of index) (take i states)) (state_of index state ∷ [])
