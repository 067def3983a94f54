-- The shifts that precedences take away, as a set of tokens for each state.
use Rattle.std.proofs.Common.{◌≡◌, ◌<◌, ◌≤◌, ◌||◌, ◌&&◌, ◌==◌, ◌∙◌, refl, sym, ap, subst, inl, inr, arith, ℕ, zero, suc, Bool, true, false, List, [], ◌∷◌, ◌++◌, All, get_or, length, map, set, slice_index_or}
use Rattle.std.specs.List.{list_any}
use Rattle.std.proofs.Math.Bool.{or_assoc}
use Rattle.std.proofs.lemmas.Bool.{cases_eq, eq-eqb, ne_eqb}
use Rattle.std.proofs.lemmas.List.{get_or-set_other, get_or-set_same, get_or_past, length-map}
use Rattle.std.proofs.lemmas.List.Folds.{list_any-append}
use Rattle.lrpar_grammar.specs.Tokens.{has}
use Rattle.lrpar_grammar.specs.declared.token_set.TokenSet.{TokenSet}
use Rattle.lrpar_table_first.specs.FirstRows.{HoldNothing, row_at, rows_of}
use Rattle.lrpar_table_first.proofs.GrowthLemmas.{row_in, rows-set}
use Rattle.lrpar_table_precedence.specs.Precedence.{PrecedenceLists, resolution_of}
use Rattle.lrpar_table_rows.specs.Table.{ShiftReduce, Table, states_len}
use Rattle.lrpar_table_build.specs.BuilderLaws.{lists_in}
use Rattle.lrpar_conflict_examples.specs.Met.{AreLostShifts, loses_shift, loses_shift_at}

pub or_nothing : (x : Bool) → (x || false) ≡ x
or_nothing true = refl
or_nothing false = refl

-- the room of a row, by the list of all rooms
pub room_at : (rows : List (List Bool)) (s : ℕ) → length (row_at rows s) ≡ slice_index_or (map (λ row. length row) rows) s 0
room_at [] s = refl
room_at (row ∷ rows) zero = refl
room_at (row ∷ rows) (suc s) = room_at rows s

-- rows of the same rooms
pub room_same : (old new : List (List Bool)) (s : ℕ) → map (λ row. length row) new ≡ map (λ row. length row) old → length (row_at new s) ≡ length (row_at old s)
room_same old new s same = room_at new s ∙ ap (λ rooms. slice_index_or rooms s 0) same ∙ sym (room_at old s)

-- a test of two numbers that aren't both the same
not_both : (a b c d : ℕ) → ((a ≡ b) → (c ≡ d) → ⊥) → ((a == b) && (c == d)) ≡ false
not_both a b c d never =
    elim (cases_eq a b) [
      | inl same ↦
          elim (cases_eq c d) [
            | inl too ↦ absurd (never same too)
            | inr other ↦ ap (λ x. x && (c == d)) (eq-eqb a b same) ∙ ne_eqb c d other
          ]
      | inr other ↦ ap (λ x. x && (c == d)) (ne_eqb a b other)
    ]

-- a test of two numbers is symmetric
eq_flip : (a b : ℕ) → (a == b) ≡ (b == a)
eq_flip a b =
    elim (cases_eq a b) [
      | inl same ↦ eq-eqb a b same ∙ sym (eq-eqb b a (sym same))
      | inr other ↦ ne_eqb a b other ∙ sym (ne_eqb b a (λ is. other (sym is)))
    ]

-- a token more in the set of a state
pub token_more : (sets : List TokenSet) (s0 t0 : ℕ) (d new : TokenSet) → s0 < length sets
    → ((t : ℕ) → has new t ≡ (has (get_or sets s0 d) t || t == t0))
    → (s t : ℕ) → has (row_at (rows_of (set sets s0 new)) s) t ≡ (has (row_at (rows_of sets) s) t || ((s0 == s) && (t0 == t)))
token_more sets s0 t0 d new within put s t =
    let rows = rows_of sets in
    let inside : s0 < length rows = within in
    ap (λ x. has (row_at x s) t) (rows-set sets s0 new)
    ∙ elim (cases_eq s s0) as (λ _. has (row_at (set rows s0 new) s) t ≡ (has (row_at rows s) t || ((s0 == s) && (t0 == t)))) [
      | inl same ↦
          ap (λ n. has (row_at (set rows s0 new) n) t) same ∙ ap (λ b. has b t) (get_or-set_same rows s0 new [] inside) ∙ put t
          ∙ ap (λ b. has b t || t == t0) (row_in sets s0 d within)
          ∙ ap (λ n. has (row_at rows n) t || t == t0) (sym same)
          ∙ ap (λ b. has (row_at rows s) t || b) (eq_flip t t0 ∙ sym (ap (λ x. x && (t0 == t)) (eq-eqb s0 s (sym same))))
      | inr other ↦
          ap (λ b. has b t) (get_or-set_other rows s0 s new [] other)
          ∙ sym (ap (λ b. has (row_at rows s) t || b) (ap (λ x. x && (t0 == t)) (ne_eqb s0 s (λ is. other (sym is)))) ∙ or_nothing (has (row_at rows s) t))
    ]

-- a token that has no room changes nothing
pub token_past : (rows : List (List Bool)) (s0 t0 : ℕ) → length (row_at rows s0) ≤ t0
    → (s t : ℕ) → t < length (row_at rows s) → has (row_at rows s) t ≡ (has (row_at rows s) t || ((s0 == s) && (t0 == t)))
token_past rows s0 t0 past s t low =
    sym (ap (λ b. has (row_at rows s) t || b)
    (not_both s0 s t0 t (λ same too. let here = subst (λ n. t < length (row_at rows n)) (sym same) low in omega (arith, here, past, too)))
    ∙ or_nothing (has (row_at rows s) t))

-- a state that isn't there has no room
pub no_room : (sets : List TokenSet) (s : ℕ) → length sets ≤ s → length (row_at (rows_of sets) s) ≤ 0
no_room sets s past =
    let count = length-map sets (λ s. s) in
    let none : row_at (rows_of sets) s ≡ [] = get_or_past (rows_of sets) s [] (omega (arith, past, count)) in
    subst (λ (row : List Bool). length row ≤ 0) (sym none) (omega arith)

-- the room of the set of a state
pub room_in : (sets : List TokenSet) (s n : ℕ) (d : TokenSet) → s < length sets → length (get_or sets s d) ≤ n → length (row_at (rows_of sets) s) ≤ n
room_in sets s n d within room = subst (λ (row : List Bool). length row ≤ n) (row_in sets s d within) room

module _ (precedences : PrecedenceLists) (s t : ℕ) where
  -- whether the shift of a conflict is taken away, by what precedences decide of it
  pub takes_if : (x : ShiftReduce) (b : Bool) → loses_shift (resolution_of precedences x.prod x.token) ≡ b
      → loses_shift_at precedences s t x ≡ (b && ((x.state == s) && (x.token == t)))
  takes_if x b is = ap (λ c. c && ((x.state == s) && (x.token == t))) is

  -- a conflict more, whose shift is taken away
  pub taken_more : (before after : List ShiftReduce) (x : ShiftReduce) (was old now : Bool) → after ≡ before ++ x ∷ []
      → old ≡ (was || list_any (loses_shift_at precedences s t) before) → now ≡ (old || loses_shift_at precedences s t x)
      → now ≡ (was || list_any (loses_shift_at precedences s t) after)
  taken_more before after x was old now more so_far is =
      let f = loses_shift_at precedences s t in
      is ∙ ap (λ b. b || f x) so_far ∙ or_assoc was (list_any f before) (f x)
      ∙ ap (λ b. was || (list_any f before || b)) (sym (or_nothing (f x)))
      ∙ ap (λ b. was || b) (sym (list_any-append f before (x ∷ [])))
      ∙ ap (λ xs. was || list_any f xs) (sym more)

-- no conflict is taken away yet
pub taken_first : (precedences : PrecedenceLists) (s t : ℕ) (was : Bool) → was ≡ (was || list_any (loses_shift_at precedences s t) [])
taken_first precedences s t was = sym (or_nothing was)

-- the sets have exactly the tokens whose shift is taken away
pub taken_by : (precedences : PrecedenceLists) (table : Table) (old new : List (List Bool)) (conflicts : List ShiftReduce)
    → map (λ row. length row) new ≡ map (λ row. length row) old → length old ≡ states_len table → All (λ row. length row ≡ table.tokens) old → HoldNothing old
    → ((s t : ℕ) → t < length (row_at old s) → has (row_at new s) t ≡ (has (row_at old s) t || list_any (loses_shift_at precedences s t) conflicts))
    → conflicts ≡ (lists_in table.conflicts).shift_reduce → AreLostShifts precedences table new
taken_by precedences table old new conflicts rooms states wide none exact are = record {
  states =
      let first = length-map new (λ row. length row) in
      let second = length-map old (λ row. length row) in
      let both = ap (λ ns. length ns) rooms in
      omega (arith, first, second, both, states);
  exact = λ s t s_low t_low.
      let inside : s < length old = omega (arith, states, s_low) in
      let room : t < length (row_at old s) = let here = wide s [] inside in omega (arith, here, t_low) in
      exact s t room ∙ ap (λ b. b || list_any (loses_shift_at precedences s t) conflicts) (none s t)
      ∙ ap (λ xs. list_any (loses_shift_at precedences s t) xs) are;
}

-- one conflict more in the sets, by what is done for it
module _ (precedences : PrecedenceLists) (s t : ℕ) (x : ShiftReduce) (old now : Bool) (b : Bool) (decided : loses_shift (resolution_of precedences x.prod x.token) ≡ b) where
  pub taken_then : (state token : ℕ) → b ≡ true → state ≡ x.state → token ≡ x.token → now ≡ (old || ((state == s) && (token == t)))
      → now ≡ (old || loses_shift_at precedences s t x)
  taken_then state token is state_is token_is put =
      put ∙ ap (λ a. old || ((a == s) && (token == t))) state_is ∙ ap (λ a. old || ((x.state == s) && (a == t))) token_is
      ∙ ap (λ c. old || c) (sym (takes_if precedences s t x true (decided ∙ is)))

  pub taken_else : b ≡ false → now ≡ old → now ≡ (old || loses_shift_at precedences s t x)
  taken_else is same =
      same ∙ sym (ap (λ c. old || c) (takes_if precedences s t x false (decided ∙ is)) ∙ or_nothing old)
