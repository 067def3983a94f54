-- One step of the computation: what one more production begins with is added to the set of its rule.
use Rattle.std.proofs.Common.{◌≡◌, ◌<◌, ◌≤◌, ◌+◌, ◌||◌, ◌&&◌, ◌∙◌, sym, ap, subst, inl, inr, arith, ℕ, Bool, false, List, [], ◌∷◌, ◌++◌, All, length, set, get_or, nat_lt, take, drop, IsTrue, refl}
use Rattle.std.proofs.lemmas.Bool.{and_from, and_parts, cases_eq, cases_lt, eqb-true, false≢true, lt-ltb, or_cases, or_right}
use Rattle.std.proofs.lemmas.List.{get_or_default, append-nil, drop_all, get_or-set_other, get_or-set_same, get_or_past, length-set, set-get_or, take_all}
use Rattle.std.proofs.lemmas.List.Elements.{All-get_or, All-head, All-set, All-tail}
use Rattle.std.proofs.lemmas.List.Sums.{sum_by-set}
use Rattle.lrpar_grammar.specs.Grammar.{Grammar, GrammarSymbol, IsDeclaredSymbol, IsWellFormed, Nonterminal, Terminal, end_token, prods_len, rule_of, rules_len, start_prod, symbols_of}
use Rattle.lrpar_table_first.specs.First.{IsFirst, Rule}
use Rattle.lrpar_table_first.specs.FirstRows.{AreFirsts, AreSound, HaveRoom, IsClosedAt, begins, dummy_lookahead, row_at, rows_of, total_missing}
use Rattle.lrpar_grammar.specs.Tokens.{has, missing}
use Rattle.lrpar_grammar.specs.declared.token_set.TokenSet.{TokenSet}
use Rattle.lrpar_table_first.proofs.FirstLemmas.{AreBelow, begins_cases, closed_begins, sound_begins}

-- all tokens of listed symbols are at most the last one
listed_below : (rules tokens : ℕ) (w : List GrammarSymbol) → All (IsDeclaredSymbol rules tokens) w → AreBelow (tokens + 1) w
listed_below rules tokens [] all = tt
listed_below rules tokens (Nonterminal r ∷ w) all =
    listed_below rules tokens w (All-tail (IsDeclaredSymbol rules tokens) (Nonterminal r) w all)
listed_below rules tokens (Terminal t ∷ w) all =
    let low = All-head (IsDeclaredSymbol rules tokens) (Terminal t) w all in
    (omega (arith, low), listed_below rules tokens w (All-tail (IsDeclaredSymbol rules tokens) (Terminal t) w all))

-- no production has the dummy lookahead among its symbols
pub prods_below : (g : Grammar) → IsWellFormed g → (p : ℕ) → p < prods_len g → AreBelow (dummy_lookahead g) (symbols_of g p)
prods_below g well p known =
    elim (cases_lt p (start_prod g)) [
      | inl listed ↦ listed_below (rules_len g) (end_token g) (symbols_of g p) (well.symbols p listed)
      | inr last ↦
          let is : start_prod g ≡ p = omega (arith, known, last) in
          subst (λ n. AreBelow (dummy_lookahead g) (symbols_of g n)) is (subst (AreBelow (dummy_lookahead g)) (sym well.last_symbols) tt)
    ]

-- a set that has a token has room for it
pub has_room : (bits : List Bool) (t : ℕ) → IsTrue (has bits t) → t < length bits
has_room bits t h =
    elim (cases_lt t (length bits)) [
      | inl low ↦ low
      | inr past ↦ absurd (false≢true (sym (get_or_past bits t false past) ∙ h))
    ]

-- a list of sets with one replaced
pub rows-set : (sets : List TokenSet) (r : ℕ) (new : TokenSet) → rows_of (set sets r new) ≡ set (rows_of sets) r new
rows-set sets r new = refl

-- it keeps its room
pub room_set : (g : Grammar) (rows : List (List Bool)) (r : ℕ) (bits : List Bool) → HaveRoom g rows → length bits ≡ dummy_lookahead g + 1 → HaveRoom g (set rows r bits)
room_set g rows r bits room wide =
    record { rules = length-set rows r bits ∙ room.rules; wide = All-set (λ row. length row ≡ dummy_lookahead g + 1) rows r bits wide room.wide }

-- it lacks fewer tokens, if the new set does
pub missing_set : (rows : List (List Bool)) (r : ℕ) (bits : List Bool) → r < length rows → missing bits < missing (row_at rows r)
    → total_missing (set rows r bits) < total_missing rows
missing_set rows r bits within less = let sums = sum_by-set missing rows r bits [] within in omega (arith, sums, less)

module _ (g : Grammar) (well : IsWellFormed g) (rows : List (List Bool)) (p : ℕ) (known : p < prods_len g) (front bits : List Bool)
    (begun : (t : ℕ) → has front t ≡ begins (dummy_lookahead g) rows (symbols_of g p) t)
    (put : (t : ℕ) → has bits t ≡ (has (row_at rows (rule_of g p)) t || (nat_lt t (dummy_lookahead g + 1) && has front t))) where
  -- what was added is in the FIRST set
  pub sound_more : rule_of g p < length rows → AreSound g rows → AreSound g (set rows (rule_of g p) bits)
  sound_more within sound r t h =
      let own = rule_of g p in
      elim (cases_eq r own) as (λ _. IsFirst g (dummy_lookahead g) (Nonterminal r ∷ []) t) [
        | inl same ↦
            let here : row_at (set rows own bits) r ≡ bits = ap (row_at (set rows own bits)) same ∙ get_or-set_same rows own bits [] within in
            let now : IsTrue (has (row_at rows own) t || (nat_lt t (dummy_lookahead g + 1) && has front t)) = sym (put t) ∙ subst (λ x. IsTrue (has x t)) here h in
            elim (or_cases (has (row_at rows own) t) (nat_lt t (dummy_lookahead g + 1) && has front t) now) as (λ _. IsFirst g (dummy_lookahead g) (Nonterminal r ∷ []) t) [
              | inl before ↦ sound r t (subst (λ x. IsTrue (has (row_at rows x) t)) (sym same) before)
              | inr fresh ↦
                  let in_first = sym (begun t) ∙ (and_parts (nat_lt t (dummy_lookahead g + 1)) (has front t) fresh).1 in
                  let first = sound_begins g (dummy_lookahead g) (prods_below g well) rows sound (symbols_of g p) t in_first in
                  Rule p r [] t known (sym same) (subst (λ w. IsFirst g (dummy_lookahead g) w t) (sym (append-nil (symbols_of g p))) first)
            ]
        | inr other ↦ sound r t (subst (λ x. IsTrue (has x t)) (get_or-set_other rows own r bits [] other) h)
      ]

  -- if nothing was new, the set had all
  pub closed_same : length front ≡ dummy_lookahead g + 1 → bits ≡ row_at rows (rule_of g p) → IsClosedAt g rows p
  closed_same wide same t h =
      let own = rule_of g p in
      let in_first : IsTrue (has front t) = begun t ∙ h in
      let low : t < dummy_lookahead g + 1 = let inside = has_room front t in_first in omega (arith, wide, inside) in
      let now : IsTrue (has bits t) = put t ∙ or_right (has (row_at rows own) t) (nat_lt t (dummy_lookahead g + 1) && has front t)
      (and_from (nat_lt t (dummy_lookahead g + 1)) (has front t) (lt-ltb t (dummy_lookahead g + 1) low) in_first) in
      subst (λ x. IsTrue (has x t)) same now

-- `begins` of a rule alone is in the rule's set
begins_alone : (dummy : ℕ) (rows : List (List Bool)) (r t : ℕ) → IsTrue (begins dummy rows (Nonterminal r ∷ []) t) → IsTrue (has (row_at rows r) t)
begins_alone dummy rows r t h =
    elim (begins_cases dummy rows r [] t h) [
      | inl own ↦ own.1
      | inr rest ↦ subst (λ x. IsTrue (has (row_at rows r) x)) (sym (eqb-true t dummy rest.1)) rest.0
    ]

-- sets that are sound, and closed at each production, are exact
pub exact_sets : (g : Grammar) → IsWellFormed g → (rows : List (List Bool)) → HaveRoom g rows → AreSound g rows
    → ((p : ℕ) → p < prods_len g → IsClosedAt g rows p) → AreFirsts g rows
exact_sets g well rows room sound closed =
    let below = prods_below g well in
    record {
      room = room;
      exact = λ r t. (
        λ h. sound r t h,
        λ first. begins_alone (dummy_lookahead g) rows r t (closed_begins g (dummy_lookahead g) below rows closed (Nonterminal r ∷ []) t first),
      );
    }

-- there are as many sets as rules
pub sets_len : (g : Grammar) (sets : List TokenSet) → HaveRoom g (rows_of sets) → length sets ≡ rules_len g
sets_len g sets room = room.rules

-- the set at a place, by its row
pub row_in : (sets : List TokenSet) (r : ℕ) (d : TokenSet) → r < length sets → (get_or sets r d) ≡ row_at (rows_of sets) r
row_in sets r d within = get_or_default sets r d [] within

-- it has room for all
pub set_wide : (g : Grammar) (sets : List TokenSet) (r : ℕ) (d : TokenSet) → r < rules_len g → HaveRoom g (rows_of sets)
    → length (get_or sets r d) ≡ dummy_lookahead g + 1
set_wide g sets r d low room =
    let count = sets_len g sets room in
    let rows = room.rules in
    ap length (row_in sets r d (omega (arith, low, count)))
    ∙ All-get_or (λ row. length row ≡ dummy_lookahead g + 1) (rows_of sets) r [] (omega (arith, low, rows)) room.wide

module _ (g : Grammar) (well : IsWellFormed g) (sets : List TokenSet) (p r dummy : ℕ) (known : p < prods_len g) (is : r ≡ rule_of g p)
    (low : rule_of g p < rules_len g) (marked : dummy ≡ dummy_lookahead g) (room : HaveRoom g (rows_of sets)) (d new : TokenSet) (front cleared : List Bool)
    (symbols : List GrammarSymbol) (are : symbols ≡ symbols_of g p) (none : (t : ℕ) → has cleared t ≡ false)
    (begun : (t : ℕ) → has front t ≡ (has cleared t || begins dummy (rows_of sets) symbols t)) (long : length front ≡ dummy_lookahead g + 1)
    (wide : length new ≡ length (get_or sets r d))
    (put : (t : ℕ) → has new t ≡ (has (get_or sets r d) t || (nat_lt t (dummy + 1) && has front t))) where
  inside : rule_of g p < length (rows_of sets)
  inside = let count = room.rules in omega (arith, count, low)

  old_row : (get_or sets r d) ≡ row_at (rows_of sets) (rule_of g p)
  old_row =
      let count = sets_len g sets room in
      row_in sets r d (omega (arith, count, is, low)) ∙ ap (row_at (rows_of sets)) is

  new_rows : rows_of (set sets r new) ≡ set (rows_of sets) (rule_of g p) new
  new_rows = rows-set sets r new ∙ ap (λ n. set (rows_of sets) n new) is

  begun_by : (t : ℕ) → has front t ≡ begins (dummy_lookahead g) (rows_of sets) (symbols_of g p) t
  begun_by t =
      begun t ∙ ap (λ b. b || begins dummy (rows_of sets) symbols t) (none t) ∙ ap (λ n. begins n (rows_of sets) symbols t) marked
      ∙ ap (λ w. begins (dummy_lookahead g) (rows_of sets) w t) are

  put_by : (t : ℕ) → has new t ≡ (has (row_at (rows_of sets) (rule_of g p)) t || (nat_lt t (dummy_lookahead g + 1) && has front t))
  put_by t =
      put t ∙ ap (λ b. has b t || (nat_lt t (dummy + 1) && has front t)) old_row
      ∙ ap (λ n. has (row_at (rows_of sets) (rule_of g p)) t || (nat_lt t (n + 1) && has front t)) marked

  pub grown_room : HaveRoom g (rows_of (set sets r new))
  grown_room =
      let old_wide = All-get_or (λ row. length row ≡ dummy_lookahead g + 1) (rows_of sets) (rule_of g p) [] inside room.wide in
      subst (HaveRoom g) (sym new_rows) (room_set g (rows_of sets) (rule_of g p) new room (wide ∙ ap length old_row ∙ old_wide))

  pub grown_sound : AreSound g (rows_of sets) → AreSound g (rows_of (set sets r new))
  grown_sound sound =
      subst (AreSound g) (sym new_rows) (sound_more g well (rows_of sets) p known front new begun_by put_by inside sound)

  pub grown_less : missing new < missing (get_or sets r d) → total_missing (rows_of (set sets r new)) < total_missing (rows_of sets)
  grown_less less =
      let less' = subst (λ b. missing new < missing b) old_row less in
      subst (λ rows. total_missing rows < total_missing (rows_of sets)) (sym new_rows) (missing_set (rows_of sets) (rule_of g p) new inside less')

  pub grown_same : new ≡ (get_or sets r d) → rows_of (set sets r new) ≡ rows_of sets
  grown_same same =
      new_rows ∙ ap (set (rows_of sets) (rule_of g p)) (same ∙ old_row) ∙ set-get_or (rows_of sets) (rule_of g p) []

  pub grown_closed : new ≡ (get_or sets r d) → IsClosedAt g (rows_of (set sets r new)) p
  grown_closed same =
      subst (λ rows. IsClosedAt g rows p) (sym (grown_same same))
      (closed_same g well (rows_of sets) p known front new begun_by put_by long (same ∙ old_row))

-- a list that was lent in full comes back as it is
pub lent_back : {X : Type 0} (old new : List X) (n : ℕ) → length old ≡ n → length new ≡ n → take n (new ++ drop (length new) old) ≡ new
lent_back old new n before after =
    let none : length old ≤ length new = omega (arith, before, after) in
    ap (λ rest. take n (new ++ rest)) (drop_all (length new) old none) ∙ ap (take n) (append-nil new) ∙ take_all n new (omega (arith, after))
