-- The conflicts of a table with merged item sets, each in its list.
use Rattle.std.proofs.Common.{◌≡◌, ◌<◌, ◌≤◌, ◌+◌, ◌&&◌, ◌==◌, ◌∙◌, refl, sym, ap, subst, inl, inr, ℕ, suc, Bool, true, false, cond, drop, List, [], ◌∷◌, ◌++◌, Some, None, get_or, length, map, take}
use Rattle.std.specs.List.{AllByRecursion, Contains, find}
use Rattle.std.proofs.lemmas.Bool.{cases_Bool, eq-eqb, eqb-true, false≢true}
use Rattle.std.proofs.Math.Seq.{drop-cons}
use Rattle.std.proofs.lemmas.List.{map-append, take-append-drop, take_all}
use Rattle.std.proofs.lemmas.List.Elements.{Contains-append_right}
use Rattle.lrpar_grammar_places.proofs.ListLemmas.{all_both, map-take_more}
use Rattle.lrpar_grammar.specs.Grammar.{Grammar}
use Rattle.lrpar_table_build.proofs.MemberLemmas.{member_cases, member_first, member_none}
use Rattle.lrpar_table_precedence.specs.Precedence.{PrecedenceLists}
use Rattle.lrpar_table_rows.specs.Graph.{Graph}
use Rattle.lrpar_table_rows.specs.Table.{Table}
use Rattle.lrpar_table_sentences.specs.Moves.{MoveOf, Makes, Takes}
use Rattle.lrpar_table_sentences.specs.Reachable.{is_marked}
use Rattle.lrpar_conflict_examples.specs.Conflicts.{AreAlike, ConflictExampleOf, ConflictOf, HaveSearched, table_conflicts, unmet_in, unmet_of}
use Rattle.lrpar_conflict_examples.specs.Merged.{Apart, AreSorted, ComesOfMerging, HasExampleOfFirst, IsCanonicalOf, IsComparedTo, IsDealt, IsFirstIn, IsSetApart, IsUnmet, KeepsExamples, LiesIn, ToMerged, ToUnmet, TwoTables, WithExample, are_alike, first_in, lies_by, same_move}
use Rattle.lrpar_conflict_examples.specs.Pairs.{has_pair, rows_in}
use Rattle.lrpar_conflict_examples.specs.declared.merged.Canonical.{Canonical}
use Rattle.lrpar_conflict_examples.specs.declared.merged.MergedConflicts.{MergedConflicts}
use Rattle.lrpar_conflict_examples.specs.declared.unresolved.UnmetConflict.{UnmetConflict}

-- two tests that are both passed
both_true : (a b : Bool) → (a && b) ≡ true → (a ≡ true) × (b ≡ true)
both_true true b is = (refl, is)
both_true false b is = absurd (false≢true is)

true_both : (a b : Bool) → a ≡ true → b ≡ true → (a && b) ≡ true
true_both a b first second = ap (λ c. c && b) first ∙ second

-- the first that passes a test: none before it does
module _ {X : Type 0} (test : X → Bool) where
  pub found_parts : (xs : List X) (y : X) → find test xs ≡ Some y
      → (before : List X) × (after : List X) × (xs ≡ before ++ y ∷ after) × (test y ≡ true) × ((x : X) → Contains before x → test x ≡ false)
  found_parts [] y is = absurd (cc)
  found_parts (x ∷ xs) y is =
      elim (cases_Bool (test x)) [
        | inl passed ↦
            let own : Some x ≡ Some y = sym (ap (λ b. cond b (Some x) (find test xs)) passed) ∙ is in
            let same : x ≡ y = cc in
            ([], xs, ap (λ z. z ∷ xs) same, subst (λ z. test z ≡ true) same passed, λ z there. absurd (member_none z there))
        | inr failed ↦
            let rest = found_parts xs y (sym (ap (λ b. cond b (Some x) (find test xs)) failed) ∙ is) in (
              x ∷ rest.0,
              rest.1,
              ap (λ l. x ∷ l) rest.2,
              rest.3,
              λ z there. elim (member_cases x rest.0 z there) [
                | inl same ↦ subst (λ w. test w ≡ false) same failed
                | inr later ↦ rest.4 z later
              ],
            )
      ]

  pub none_passes : (xs : List X) → find test xs ≡ None → (x : X) → Contains xs x → test x ≡ false
  none_passes [] is x there = absurd (member_none x there)
  none_passes (z ∷ xs) is x there =
      elim (cases_Bool (test z)) [
        | inl passed ↦ let never : Some z ≡ None = sym (ap (λ b. cond b (Some z) (find test xs)) passed) ∙ is in absurd (cc)
        | inr failed ↦
            elim (member_cases z xs x there) [
              | inl same ↦ subst (λ w. test w ≡ false) same failed
              | inr later ↦ none_passes xs (sym (ap (λ b. cond b (Some z) (find test xs)) failed) ∙ is) x later
            ]
      ]

  -- one more doesn't pass, or is the first that does
  pub none_more : (xs : List X) (x : X) → find test xs ≡ None → test x ≡ false → find test (xs ++ x ∷ []) ≡ None
  none_more [] x is fails = ap (λ b. cond b (Some x) None) fails
  none_more (z ∷ xs) x is fails =
      elim (cases_Bool (test z)) [
        | inl passed ↦ let never : Some z ≡ None = sym (ap (λ b. cond b (Some z) (find test xs)) passed) ∙ is in absurd (cc)
        | inr failed ↦
            ap (λ b. cond b (Some z) (find test (xs ++ x ∷ []))) failed
            ∙ none_more xs x (sym (ap (λ b. cond b (Some z) (find test xs)) failed) ∙ is) fails
      ]

  pub first_at : (xs rest : List X) (x : X) → find test xs ≡ None → test x ≡ true → find test (xs ++ x ∷ rest) ≡ Some x
  first_at [] rest x is passes = ap (λ b. cond b (Some x) (find test rest)) passes
  first_at (z ∷ xs) rest x is passes =
      elim (cases_Bool (test z)) [
        | inl passed ↦ let never : Some z ≡ None = sym (ap (λ b. cond b (Some z) (find test xs)) passed) ∙ is in absurd (cc)
        | inr failed ↦
            ap (λ b. cond b (Some z) (find test (xs ++ x ∷ rest))) failed
            ∙ first_at xs rest x (sym (ap (λ b. cond b (Some z) (find test xs)) failed) ∙ is) passes
      ]

-- a search among the images of a list: none passes so far, then one more doesn't, or does
module _ {U : Type 0} (f : U → ConflictOf) (test : ConflictOf → Bool) (xs : List U) where
  pub search_none : find test (map f (take 0 xs)) ≡ None
  search_none =
      elim xs as (λ l. find test (map f (take 0 l)) ≡ None) [
        | [] ↦ refl
        | y ∷ ys ↦ refl
      ]

  pub search_more : (i : ℕ) (x : U) → i < length xs → x ≡ get_or xs i x → find test (map f (take i xs)) ≡ None → test (f x) ≡ false
      → find test (map f (take (i + 1) xs)) ≡ None
  search_more i x low is none fails = ap (find test) (map-take_more f xs i x low is) ∙ none_more test (map f (take i xs)) (f x) none fails

  pub search_found : (i : ℕ) (x : U) → i < length xs → x ≡ get_or xs i x → find test (map f (take i xs)) ≡ None → test (f x) ≡ true
      → Some (f x) ≡ find test (map f xs)
  search_found i x low is none passes =
      let cut : xs ≡ take i xs ++ x ∷ drop (suc i) xs =
      sym (take-append-drop i xs) ∙ ap (λ l. take i xs ++ l) (drop-cons xs i x low ∙ ap (λ y. y ∷ drop (suc i) xs) (sym is)) in
      sym
      (ap (λ l. find test (map f l)) cut ∙ ap (find test) (map-append f (take i xs) (x ∷ drop (suc i) xs))
      ∙ first_at test (map f (take i xs)) (map f (drop (suc i) xs)) (f x) none passes)

  pub search_all : (i : ℕ) → length xs ≤ i → find test (map f (take i xs)) ≡ None → find test (map f xs) ≡ None
  search_all i past none = sym (ap (λ l. find test (map f l)) (take_all i xs past)) ∙ none

-- the test of moves tells whether they are the same
move_same : (one other : MoveOf) → same_move one other ≡ true → one ≡ other
move_same (Takes t) (Takes u) is = ap Takes (eqb-true t u is)
move_same (Takes t) (Makes q) is = absurd (false≢true is)
move_same (Makes p) (Takes u) is = absurd (false≢true is)
move_same (Makes p) (Makes q) is = ap Makes (eqb-true p q is)

same_itself : (one : MoveOf) → same_move one one ≡ true
same_itself (Takes t) = eq-eqb t t refl
same_itself (Makes p) = eq-eqb p p refl

alike_is : (one other : ConflictOf) → are_alike one other ≡ true → AreAlike one other
alike_is one other is =
    let moves = both_true (one.token == other.token && same_move one.first other.first) (same_move one.second other.second) is in
    let token = both_true (one.token == other.token) (same_move one.first other.first) moves.0 in
    record { token = eqb-true one.token other.token token.0; first = move_same one.first other.first token.1; second = move_same one.second other.second moves.1 }

is_alike : (one other : ConflictOf) → AreAlike one other → are_alike one other ≡ true
is_alike one other alike =
    true_both (one.token == other.token && same_move one.first other.first) (same_move one.second other.second)
    (true_both (one.token == other.token) (same_move one.first other.first) (eq-eqb one.token other.token alike.token)
    (subst (λ m. same_move one.first m ≡ true) alike.first (same_itself one.first)))
    (subst (λ m. same_move one.second m ≡ true) alike.second (same_itself one.second))

-- the first canonical conflict that lies in another one is a canonical one, and like it
pub first_like : {S : Type 0} (index : S → ℕ) (canonical : Canonical S) (conflict : UnmetConflict S) (own : ConflictOf) → first_in index canonical conflict ≡ Some own
    → Contains (unmet_in index canonical.listed.items) own × AreAlike own (unmet_of index conflict)
first_like index canonical conflict own found =
    let shown = unmet_of index conflict in
    let all = unmet_in index canonical.listed.items in
    let parts = found_parts (lies_by canonical shown) all own found in
    let paired = both_true (are_alike own shown && is_marked canonical.marks.items own.state) (has_pair (rows_in canonical.pairs) own.state shown.state) parts.3 in
    let met = both_true (are_alike own shown) (is_marked canonical.marks.items own.state) paired.0 in (
      subst (λ l. Contains l own) (sym parts.2) (Contains-append_right parts.0 (own ∷ parts.1) own (member_first own parts.1)),
      alike_is own shown met.0,
    )

-- the searches for the counterexamples have gone on as long as the bound allows
pub sorted_searched : (g : Grammar) (graph : Graph) (tables : TwoTables) (bound : ℕ) (xs : List ConflictExampleOf)
    → AllByRecursion (HasExampleOfFirst g graph tables bound) xs → HaveSearched bound xs
sorted_searched g graph tables bound [] each = tt
sorted_searched g graph tables bound (x ∷ xs) each = (each.0.example.2, sorted_searched g graph tables bound xs each.1)

-- at first there are none
pub sorted_none : {S : Type 0} (index : S → ℕ) (g : Grammar) (graph : Graph) (tables : TwoTables) (bound : ℕ) (found : MergedConflicts S) → found.examples.items ≡ []
    → found.unmet.items ≡ [] → found.merged.items ≡ [] → AreSorted index g graph tables bound found
sorted_none index g graph tables bound found one two three = record {
  examples = subst (AllByRecursion (HasExampleOfFirst g graph tables bound)) (sym one) tt;
  unmet = subst (λ l. AllByRecursion (IsUnmet tables) (unmet_in index l)) (sym two) tt;
  merged = subst (λ l. AllByRecursion (ComesOfMerging tables) (unmet_in index l)) (sym three) tt;
}

module _ {S : Type 0} (index : S → ℕ) (g : Grammar) (largest : ℕ) (canonical : Canonical S) (precedences : PrecedenceLists) (merged : Table) (is : IsCanonicalOf index g largest canonical)
    (compared : IsComparedTo precedences merged canonical) where
  abbrev tables : TwoTables
  tables = record { precedences = precedences; canonical = canonical.stable; merged = merged }

  -- the test of the code tells whether a canonical conflict lies in another one
  lies : (conflict own : ConflictOf) → lies_by canonical conflict own ≡ true → LiesIn tables own conflict
  lies conflict own passes =
      let marks = canonical.marks.items in
      let paired = both_true (are_alike own conflict && is_marked marks own.state) (has_pair (rows_in canonical.pairs) own.state conflict.state) passes in
      let met = both_true (are_alike own conflict) (is_marked marks own.state) paired.0 in
      record {
        alike = alike_is own conflict met.0;
        met = (compared.met.exact own.state).0 met.1;
        paired = (compared.pairs.exact own.state conflict.state).0 paired.1;
      }

  lies_not : (conflict own : ConflictOf) → lies_by canonical conflict own ≡ false → LiesIn tables own conflict → ⊥
  lies_not conflict own fails it =
      let marks = canonical.marks.items in
      false≢true
      (sym fails
      ∙ true_both (are_alike own conflict && is_marked marks own.state) (has_pair (rows_in canonical.pairs) own.state conflict.state)
      (true_both (are_alike own conflict) (is_marked marks own.state) (is_alike own conflict it.alike) ((compared.met.exact own.state).1 it.met))
      ((compared.pairs.exact own.state conflict.state).1 it.paired))

  first_is : (conflict : UnmetConflict S) (own : ConflictOf) → first_in index canonical conflict ≡ Some own → IsFirstIn tables (unmet_of index conflict) own
  first_is conflict own found =
      let parts = found_parts (lies_by canonical (unmet_of index conflict)) (unmet_in index canonical.listed.items) own found in
      record {
        before = parts.0;
        after = parts.1;
        listed = sym is.listed ∙ parts.2;
        lies = lies (unmet_of index conflict) own parts.3;
        first = λ x there. lies_not (unmet_of index conflict) x (parts.4 x there);
      }

  none_lies : (conflict : UnmetConflict S) → first_in index canonical conflict ≡ None → (own : ConflictOf) → Contains (table_conflicts canonical.stable) own
      → LiesIn tables own (unmet_of index conflict) → ⊥
  none_lies conflict none own there =
      lies_not (unmet_of index conflict) own
      (none_passes (lies_by canonical (unmet_of index conflict)) (unmet_in index canonical.listed.items) none own (subst (λ l. Contains l own) (sym is.listed) there))

  -- one conflict more
  module _ (bound : ℕ) (conflict : UnmetConflict S) (old new : MergedConflicts S) (so_far : AreSorted index g canonical.sgraph tables bound old) where
    one_more : (P : ConflictOf → Type 0) (xs ys : List (UnmetConflict S)) → AllByRecursion P (unmet_in index xs) → P (unmet_of index conflict) → ys ≡ xs ++ conflict ∷ []
        → AllByRecursion P (unmet_in index ys)
    one_more P xs ys all own put =
        subst (AllByRecursion P) (sym (ap (unmet_in index) put ∙ map-append (unmet_of index) xs (conflict ∷ [])))
        (all_both P (unmet_in index xs) (unmet_of index conflict ∷ []) all (own, tt))

    same_unmet : new.unmet ≡ old.unmet → AllByRecursion (IsUnmet tables) (unmet_in index new.unmet.items)
    same_unmet same = subst (λ v. AllByRecursion (IsUnmet tables) (unmet_in index v.items)) (sym same) so_far.unmet

    same_merged : new.merged ≡ old.merged → AllByRecursion (ComesOfMerging tables) (unmet_in index new.merged.items)
    same_merged same = subst (λ v. AllByRecursion (ComesOfMerging tables) (unmet_in index v.items)) (sym same) so_far.merged

    same_examples : KeepsExamples old new → AllByRecursion (HasExampleOfFirst g canonical.sgraph tables bound) new.examples.items
    same_examples same = subst (λ v. AllByRecursion (HasExampleOfFirst g canonical.sgraph tables bound) v.items) (sym same) so_far.examples

    set_apart : first_in index canonical conflict ≡ None → IsSetApart canonical conflict (index conflict.state.0) old new
        → AreSorted index g canonical.sgraph tables bound new
    set_apart none (ToUnmet never put same kept) = record {
      examples = same_examples kept;
      unmet = one_more (IsUnmet tables) old.unmet.items new.unmet.items so_far.unmet (λ s paired. never (s, (compared.pairs.exact s (index conflict.state.0)).1 paired)) put;
      merged = same_merged same;
    }
    set_apart none (ToMerged pair put same kept) = record {
      examples = same_examples kept;
      unmet = same_unmet same;
      merged =
          one_more (ComesOfMerging tables) old.merged.items new.merged.items so_far.merged
          (record { state = pair.0; paired = (compared.pairs.exact pair.0 (index conflict.state.0)).0 pair.1; none = none_lies conflict none }) put;
    }

    pub sorted_more : IsDealt index g canonical bound conflict old new → AreSorted index g canonical.sgraph tables bound new
    sorted_more (WithExample own x found same example added) = record {
      examples =
          subst (AllByRecursion (HasExampleOfFirst g canonical.sgraph tables bound)) (sym added.examples)
          (all_both (HasExampleOfFirst g canonical.sgraph tables bound) old.examples.items (x ∷ []) so_far.examples
          (record { own = own; is = subst (λ c. IsFirstIn tables c own) (sym same) (first_is conflict own found); example = example }, tt));
      unmet = same_unmet added.unmet;
      merged = same_merged added.merged;
    }
    sorted_more (Apart none apart) = set_apart none apart
