-- Rules with start states give a text one list of lexemes and errors.
use Rattle.std.proofs.Common.{◌≡◌, ℕ, ◌+◌, List, drop, Some, Err, [], ◌∷◌, ◌++◌, sym, subst, ◌∙◌, ap, ap₂, refl, arith, slice_get}
use Rattle.std.proofs.lemmas.Option.{none-some, same_Some}
use Rattle.lrpar_lexer.specs.Lexing.{lexemes_of}
use Rattle.lrpar_lexer.specs.Matching.{NoneMatches}
use Rattle.lrpar_lexer.proofs.LexingLawLemmas.{one_winner, wins_not_none}
use Rattle.lrpar_lexer_lrlex.specs.Laws.{LexesInOneWay}
use Rattle.lrpar_lexer_lrlex.specs.LexingIn.{LexesIn, ReadsIn, fails, falls, finishes, moves_on, nothing_below, patterns_in}
use Rattle.lrpar_lexer_lrlex.specs.StateRules.{StateRules, active, moved, target_at, token_at}

module _ (rules : StateRules) (text : List ℕ) (at top : ℕ) where
  -- what is read at a place is one rule and one length
  pub one_read : (rule other n m : ℕ) → ReadsIn rules text top at rule n → ReadsIn rules text top at other m → (rule ≡ other) × (n ≡ m)
  one_read rule other n m one two =
      let same = one_winner (patterns_in rules top) (drop at text) one.place n two.place m one.wins two.wins in
      let there : slice_get (active rules top) two.place ≡ Some rule = subst (λ i. slice_get (active rules top) i ≡ Some rule) same.0 one.is in
      (same_Some rule other (sym there ∙ two.is), same.1)

  -- if something is read, a pattern matches
  pub read_not_none : (rule n : ℕ) → ReadsIn rules text top at rule n → NoneMatches (patterns_in rules top) (drop at text) → ⊥
  read_not_none rule n one none = wins_not_none (patterns_in rules top) (drop at text) one.place n one.wins none

pub lexes_in_one_way : LexesInOneWay
lexes_in_one_way rules text _ _ _ _ _ (finishes at top below past) (finishes at' top' below' past') = refl
lexes_in_one_way rules text _ _ _ _ _ (finishes at top below past) (fails at' top' below' within none) = absurd (omega arith)
lexes_in_one_way rules text _ _ _ _ _ (finishes at top below past) (falls at' top' below' rule n within one out) = absurd (omega arith)
lexes_in_one_way rules text _ _ _ _ _ (finishes at top below past) (moves_on at' top' below' rule n next under more within one on rest) =
    absurd (omega arith)
lexes_in_one_way rules text _ _ _ _ _ (fails at top below within none) (finishes at' top' below' past) = absurd (omega arith)
lexes_in_one_way rules text _ _ _ _ _ (fails at top below within none) (fails at' top' below' within' none') = refl
lexes_in_one_way rules text _ _ _ _ _ (fails at top below within none) (falls at' top' below' rule n within' one out) =
    absurd (read_not_none rules text at top rule n one none)
lexes_in_one_way rules text _ _ _ _ _ (fails at top below within none) (moves_on at' top' below' rule n next under more within' one on rest) =
    absurd (read_not_none rules text at top rule n one none)
lexes_in_one_way rules text _ _ _ _ _ (falls at top below rule n within one out) (finishes at' top' below' past) = absurd (omega arith)
lexes_in_one_way rules text _ _ _ _ _ (falls at top below rule n within one out) (fails at' top' below' within' none) =
    absurd (read_not_none rules text at top rule n one none)
lexes_in_one_way rules text _ _ _ _ _ (falls at top below rule n within one out) (falls at' top' below' other m within' two out') =
    ap (λ k. Err (nothing_below at k) ∷ []) (one_read rules text at top rule other n m one two).1
lexes_in_one_way rules text _ _ _ _ _ (falls at top below rule n within one out) (moves_on at' top' below' other m next under more within' two on rest) =
    let same = one_read rules text at top rule other n m one two in
    absurd (none-some (next, under) (sym out ∙ ap (λ r. moved (target_at rules r) top below) same.0 ∙ on))
lexes_in_one_way rules text _ _ _ _ _ (moves_on at top below rule n next under more within one on rest) (finishes at' top' below' past) =
    absurd (omega arith)
lexes_in_one_way rules text _ _ _ _ _ (moves_on at top below rule n next under more within one on rest) (fails at' top' below' within' none) =
    absurd (read_not_none rules text at top rule n one none)
lexes_in_one_way rules text _ _ _ _ _ (moves_on at top below rule n next under more within one on rest) (falls at' top' below' other m within' two out) =
    let same = one_read rules text at top rule other n m one two in
    absurd (none-some (next, under) (sym out ∙ ap (λ r. moved (target_at rules r) top below) (sym same.0) ∙ on))
lexes_in_one_way rules text _ _ _ _ _ (moves_on at top below rule n next under more within one on rest)
    (moves_on at' top' below' other m next' under' after within' two on' rest') =
    let same = one_read rules text at top rule other n m one two in
    let stacks : (next, under) ≡ (next', under') =
    same_Some (next, under) (next', under') (sym on ∙ ap (λ r. moved (target_at rules r) top below) same.0 ∙ on') in
    let back : LexesIn rules text (at + n) next under after =
    subst (λ k. LexesIn rules text (at + k) next under after) (sym same.1)
    (subst (λ (s : ℕ × List ℕ). LexesIn rules text (at + m) s.0 s.1 after) (sym stacks) rest') in
    let tail : more ≡ after = lexes_in_one_way rules text (at + n) next under more after rest back in
    let head : lexemes_of (token_at rules rule) at n ≡ lexemes_of (token_at rules other) at m =
    ap₂ (λ r k. lexemes_of (token_at rules r) at k) same.0 same.1 in
    ap₂ (λ xs ys. xs ++ ys) head tail
