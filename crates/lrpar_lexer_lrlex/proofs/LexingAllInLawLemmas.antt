-- By rules with start states each text has exactly one list of lexemes, if unmatched characters are lexemes, too.
use Rattle.std.proofs.Common.{◌≡◌, ℕ, ◌+◌, ◌<◌, ◌≤◌, List, [], ◌++◌, length, map, drop, get_or, Option, Some, None, Result, Err, IsOk, inl, inr, sym, subst, ◌∙◌, ap, ap₂, refl, arith, zero, suc}
use Rattle.std.proofs.lemmas.Bool.{cases_lt, false≢true}
use Rattle.std.proofs.lemmas.List.{length-map}
use Rattle.std.proofs.lemmas.List.Elements.{All-append, All-head, All-nil}
use Rattle.std.proofs.lemmas.Option.{none-some, same_Some, slice_get-get_or, slice_get_within}
use Rattle.regex.specs.Patterns.{empty}
use Rattle.regex_hir.proofs.OptionLemmas.{option_cases}
use Rattle.lrpar_lexer.specs.Lexing.{lexemes_of, nothing_at}
use Rattle.lrpar_lexer.specs.Matching.{Wins}
use Rattle.lrpar_lexer.specs.Rules.{Rule}
use Rattle.lrpar_lexer.specs.declared.token.Token.{Token}
use Rattle.lrpar_lexer.specs.declared.token.NoToken.{NoToken}
use Rattle.lrpar_lexer.proofs.LexesEachLemmas.{run_of, winner_or_none}
use Rattle.lrpar_lexer.proofs.LexingAllLawLemmas.{lexemes_all_ok, ok_after}
use Rattle.lrpar_lexer.proofs.UnmatchedLemmas.{one_run}
use Rattle.lrpar_lexer_lrlex.specs.Laws.{LexesAllInAsLexemes, LexesAllInAsRules, LexesAllInOneWay, LexesEachTextIn}
use Rattle.lrpar_lexer_lrlex.specs.LexingIn.{ReadsIn, fails, falls, finishes, moves_on, nothing_below, patterns_in}
use Rattle.lrpar_lexer_lrlex.specs.LexingAllIn.{IsNextIn, LexesAllIn, all_read, comes, goes, keeps, skips}
use Rattle.lrpar_lexer_lrlex.specs.StateRules.{StateRules, active, moved, target_at, token_at}
use Rattle.lrpar_lexer_lrlex.proofs.OneWayLemmas.{one_read, read_not_none}

module _ (rules : StateRules) (unmatched : ℕ) (text : List ℕ) (at top : ℕ) (below : List ℕ) where
  -- a match moves the stack in one way
  one_stack : (rule other next next' : ℕ) (under under' : List ℕ) → rule ≡ other → moved (target_at rules rule) top below ≡ Some (next, under)
      → moved (target_at rules other) top below ≡ Some (next', under') → ◌≡◌ {A = ℕ × List ℕ} (next, under) (next', under')
  one_stack rule other next next' under under' same on on' =
      same_Some (next, under) (next', under') (sym on ∙ ap (λ r. moved (target_at rules r) top below) same ∙ on')

  -- and it doesn't both move it and pop the last state
  not_both : (rule other next : ℕ) (under : List ℕ) → rule ≡ other → moved (target_at rules rule) top below ≡ Some (next, under)
      → moved (target_at rules other) top below ≡ None → ⊥
  not_both rule other next under same on out =
      none-some (next, under) (sym out ∙ ap (λ r. moved (target_at rules r) top below) (sym same) ∙ on)

  -- at a place one thing comes
  one_next : (s t : Option ℕ) (n m next next' : ℕ) (under under' : List ℕ) → IsNextIn rules unmatched text at top below s n next under
      → IsNextIn rules unmatched text at top below t m next' under' → (s ≡ t) × (n ≡ m) × (◌≡◌ {A = ℕ × List ℕ} (next, under) (next', under'))
  one_next _ _ _ _ _ _ _ _ (goes rule n next under read on) (goes other m next' under' read' on') =
      let same = one_read rules text at top rule other n m read read' in
      (ap (token_at rules) same.0, same.1, one_stack rule other next next' under under' same.0 on on')
  one_next _ _ _ _ _ _ _ _ (goes rule n next under read on) (keeps other m read' out) =
      absurd (not_both rule other next under (one_read rules text at top rule other n m read read').0 on out)
  one_next _ _ _ _ _ _ _ _ (goes rule n next under read on) (skips m run) = absurd (read_not_none rules text at top rule n read run.none)
  one_next _ _ _ _ _ _ _ _ (keeps rule n read out) (goes other m next' under' read' on) =
      absurd (not_both other rule next' under' (one_read rules text at top other rule m n read' read).0 on out)
  one_next _ _ _ _ _ _ _ _ (keeps rule n read out) (keeps other m read' out') =
      (refl, (one_read rules text at top rule other n m read read').1, refl)
  one_next _ _ _ _ _ _ _ _ (keeps rule n read out) (skips m run) = absurd (read_not_none rules text at top rule n read run.none)
  one_next _ _ _ _ _ _ _ _ (skips n run) (goes other m next' under' read' on) = absurd (read_not_none rules text at top other m read' run.none)
  one_next _ _ _ _ _ _ _ _ (skips n run) (keeps other m read' out) = absurd (read_not_none rules text at top other m read' run.none)
  one_next _ _ _ _ _ _ _ _ (skips n run) (skips m run') =
      let there : n ≤ m = one_run (patterns_in rules top) text at n m run run' in
      let back : m ≤ n = one_run (patterns_in rules top) text at m n run' run in
      (refl, omega arith, refl)

pub lexes_all_in_one_way : LexesAllInOneWay
lexes_all_in_one_way rules u text _ _ _ _ _ (all_read at top below past) (all_read at' top' below' past') = refl
lexes_all_in_one_way rules u text _ _ _ _ _ (all_read at top below past) (comes at' top' below' token n next under more within one rest) =
    absurd (omega arith)
lexes_all_in_one_way rules u text _ _ _ _ _ (comes at top below token n next under more within one rest) (all_read at' top' below' past) =
    absurd (omega arith)
lexes_all_in_one_way rules u text _ _ _ _ _ (comes at top below token n next under more within one rest)
    (comes at' top' below' other m next' under' after within' two rest') =
    let same = one_next rules u text at top below token other n m next next' under under' one two in
    let back : LexesAllIn rules u text (at + n) next under after =
    subst (λ k. LexesAllIn rules u text (at + k) next under after) (sym same.1)
    (subst (λ (s : ℕ × List ℕ). LexesAllIn rules u text (at + m) s.0 s.1 after) (sym same.2) rest') in
    let tail : more ≡ after = lexes_all_in_one_way rules u text (at + n) next under more after rest back in
    let head : lexemes_of token at n ≡ lexemes_of other at m = ap₂ (λ t k. lexemes_of t at k) same.0 same.1 in
    ap₂ (λ xs ys. xs ++ ys) head tail

pub lexes_all_in_as_lexemes : LexesAllInAsLexemes
lexes_all_in_as_lexemes rules u text _ _ _ _ (all_read at top below past) = All-nil (λ answer. IsOk answer)
lexes_all_in_as_lexemes rules u text _ _ _ _ (comes at top below token n next under more within one rest) =
    All-append (λ answer. IsOk answer) (lexemes_of token at n) more (lexemes_all_ok token at n)
    (lexes_all_in_as_lexemes rules u text (at + n) next under more rest)

pub lexes_all_in_as_rules : LexesAllInAsRules
lexes_all_in_as_rules rules u text _ _ _ _ (finishes at top below past) ok = all_read at top below past
lexes_all_in_as_rules rules u text _ _ _ _ (fails at top below within none) ok =
    absurd (false≢true (All-head (λ answer. IsOk answer) (Err (nothing_at at)) [] ok))
lexes_all_in_as_rules rules u text _ _ _ _ (falls at top below rule n within read out) ok =
    absurd (false≢true (All-head (λ answer. IsOk answer) (Err (nothing_below at n)) [] ok))
lexes_all_in_as_rules rules u text _ _ _ _ (moves_on at top below rule n next under more within read on rest) ok =
    comes at top below (token_at rules rule) n next under more within (goes rule n next under read on)
    (lexes_all_in_as_rules rules u text (at + n) next under more rest (ok_after (token_at rules rule) at n more ok))

module _ (rules : StateRules) (unmatched : ℕ) (text : List ℕ) where
  -- something comes at this place, and it isn't empty
  abbrev Comes : ℕ → ℕ → List ℕ → Type 0
  Comes at top below =
      (token : Option ℕ) × (n : ℕ) × (next : ℕ) × (under : List ℕ) × (0 < n) × IsNextIn rules unmatched text at top below token n next under

  -- the winner at a place is one of the active rules
  read_at : (at top place n : ℕ) → Wins (patterns_in rules top) (drop at text) place n → (rule : ℕ) × ReadsIn rules text top at rule n
  read_at at top place n wins =
      let within : place < length (active rules top) =
      omega (
        arith,
        slice_get_within (patterns_in rules top) place wins.pattern wins.is,
        length-map (active rules top) (λ i. get_or (map (λ (r : Rule). r.pattern) rules.rules) i empty),
      ) in
      (get_or (active rules top) place 0, record { place = place; wins = wins; is = slice_get-get_or (active rules top) place 0 within })

  comes_with : (at top : ℕ) (below : List ℕ) (rule n : ℕ) → ReadsIn rules text top at rule n → Comes at top below
  comes_with at top below rule n read = elim (option_cases (moved (target_at rules rule) top below)) [
    | inl none ↦ (Some unmatched, n, top, below, read.wins.matches.some, keeps rule n read none)
    | inr some ↦ (token_at rules rule, n, some.0.0, some.0.1, read.wins.matches.some, goes rule n some.0.0 some.0.1 read some.1)
  ]

  something_comes : (at top : ℕ) (below : List ℕ) → at < length text → Comes at top below
  something_comes at top below within = elim (winner_or_none (patterns_in rules top) (drop at text)) [
    | inl won ↦
        let read = read_at at top won.0.rule won.0.len won.1 in
        comes_with at top below read.0 won.0.len read.1
    | inr none ↦
        let run = run_of (patterns_in rules top) text at none within in
        (Some unmatched, run.0, top, below, run.1.some, skips run.0 run.1)
  ]

  -- and the rest of the text has a list
  lexes_rest : (left at top : ℕ) (below : List ℕ) → length text ≤ at + left
      → (answers : List (Result (Token ℕ) NoToken)) × LexesAllIn rules unmatched text at top below answers
  lexes_rest zero at top below end = ([], all_read at top below (omega arith))
  lexes_rest (suc left) at top below end = elim (cases_lt at (length text)) [
    | inl within ↦
        let next = something_comes at top below within in
        let rest = lexes_rest left (at + next.1) next.2 next.3 (omega (arith, next.4)) in
        (lexemes_of next.0 at next.1 ++ rest.0, comes at top below next.0 next.1 next.2 next.3 rest.0 within next.5 rest.1)
    | inr past ↦ ([], all_read at top below past)
  ]

pub lexes_each_text_in : LexesEachTextIn
lexes_each_text_in rules unmatched text = lexes_rest rules unmatched text (length text) 0 0 [] (omega arith)
