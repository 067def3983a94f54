-- Rules that are chosen one after the other.
use Rattle.std.proofs.Common.{◌≡◌, ℕ, ◌+◌, ◌||◌, Bool, true, List, [], ◌∷◌, ◌++◌, length, take, inl, inr, sym, subst, ◌∙◌, ap, arith}
use Rattle.std.specs.List.{Contains}
use Rattle.std.proofs.lemmas.Bool.{cases_lt}
use Rattle.std.proofs.lemmas.List.{get_or_append_left, get_or_push, length_push, take-append-le, take_all}
use Rattle.std.proofs.lemmas.List.Elements.{All-nil, All-push, All-weaker, Contains-append_left, Contains-push}
use Rattle.std.proofs.lemmas.List.Folds.{list_any-append}
use Rattle.lrpar_grammar.specs.Tokens.{CoversAll, IsEmptySet, has}
use Rattle.lrpar_table_first.specs.FirstRows.{row_at}
use Rattle.lrpar_names.proofs.BitLemmas.{or_left, or_none, or_right}
use Rattle.lrpar_names.specs.Choosing.{AreChosen, IsIn, IsNameable, can_begin_one}
use Rattle.lrpar_names.specs.FirstTokens.{can_begin}
use Rattle.lrpar_names.specs.Names.{NameLists}

module _ (rows : List (List Bool)) (names : NameLists) (wanted : List Bool) where
  -- one rule more
  pub one_more : (rules : List ℕ) (r t : ℕ) → can_begin_one rows (rules ++ r ∷ []) t ≡ (can_begin_one rows rules t || can_begin rows r t)
  one_more rules r t =
      list_any-append (λ q. can_begin rows q t) rules (r ∷ []) ∙ ap (λ b. can_begin_one rows rules t || b) (or_none (can_begin rows r t))

  -- nothing is chosen of nothing
  pub chosen_none : (covered : List Bool) → IsEmptySet covered → AreChosen rows names wanted [] [] covered
  chosen_none covered none = record {
    named = All-nil (λ r. Contains [] r × IsNameable rows names (IsIn wanted) r);
    covers = none;
    complete = All-nil (λ r. IsNameable rows names (IsIn wanted) r → CoversAll covered (row_at rows r));
    needed = λ i below all. absurd (omega arith);
  }

  -- a rule that isn't chosen
  pub chosen_without : (order rules : List ℕ) (covered : List Bool) (r : ℕ)
      → (IsNameable rows names (IsIn wanted) r → CoversAll covered (row_at rows r))
      → AreChosen rows names wanted order rules covered → AreChosen rows names wanted (order ++ r ∷ []) rules covered
  chosen_without order rules covered r left chosen = record {
    named = All-weaker (λ q. Contains order q × IsNameable rows names (IsIn wanted) q)
        (λ q. Contains (order ++ r ∷ []) q × IsNameable rows names (IsIn wanted) q)
        (λ q has. (Contains-append_left order (r ∷ []) q has.0, has.1)) rules chosen.named;
    covers = chosen.covers;
    complete = All-push (λ q. IsNameable rows names (IsIn wanted) q → CoversAll covered (row_at rows q)) order r chosen.complete left;
    needed = chosen.needed;
  }

  -- a rule that is chosen
  pub chosen_with : (order rules : List ℕ) (old new : List Bool) (r : ℕ) → IsNameable rows names (IsIn wanted) r → ¬ (CoversAll old (row_at rows r))
      → ((t : ℕ) → has new t ≡ (has old t || can_begin rows r t))
      → AreChosen rows names wanted order rules old → AreChosen rows names wanted (order ++ r ∷ []) (rules ++ r ∷ []) new
  chosen_with order rules old new r nameable fresh adds chosen = record {
    named = All-push (λ q. Contains (order ++ r ∷ []) q × IsNameable rows names (IsIn wanted) q) rules r
        (All-weaker (λ q. Contains order q × IsNameable rows names (IsIn wanted) q)
        (λ q. Contains (order ++ r ∷ []) q × IsNameable rows names (IsIn wanted) q)
        (λ q has. (Contains-append_left order (r ∷ []) q has.0, has.1)) rules chosen.named)
        (Contains-push order r, nameable);
    covers = λ t. adds t ∙ ap (λ b. b || can_begin rows r t) (chosen.covers t) ∙ sym (one_more rules r t);
    complete = All-push (λ q. IsNameable rows names (IsIn wanted) q → CoversAll new (row_at rows q)) order r
        (All-weaker (λ q. IsNameable rows names (IsIn wanted) q → CoversAll old (row_at rows q))
        (λ q. IsNameable rows names (IsIn wanted) q → CoversAll new (row_at rows q))
        (λ q said can t is. adds t ∙ or_left (has old t) (can_begin rows r t) (said can t is)) order chosen.complete)
        (λ can t is. adds t ∙ or_right (has old t) (can_begin rows r t) is);
    needed = λ i below all. elim (cases_lt i (length rules)) [
      | inl before ↦ chosen.needed i before (λ t is.
          subst (λ front. can_begin_one rows front t ≡ true) (take-append-le i rules (r ∷ []) (omega arith))
          (all t (subst (λ q. can_begin rows q t ≡ true) (sym (get_or_append_left rules (r ∷ []) 0 i before)) is)))
      | inr from ↦
          let len : length (rules ++ r ∷ []) ≡ length rules + 1 = length_push rules r in
          let at : length rules ≡ i = omega arith in
          let front : take i (rules ++ r ∷ []) ≡ rules = take-append-le i rules (r ∷ []) (omega arith) ∙ take_all i rules (omega arith) in
          fresh (λ t is. chosen.covers t ∙ subst (λ front. can_begin_one rows front t ≡ true) front
          (all t (subst (λ q. can_begin rows q t ≡ true) (sym (get_or_push rules r 0 i at)) is)))
    ];
  }
