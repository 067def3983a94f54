-- Rules without start states.
use Rattle.std.proofs.Common.{◌≡◌, ℕ, ◌+◌, ◌<◌, suc, zero, false, true, ◌==◌, List, [], ◌∷◌, ◌++◌, length, map, drop, get_or, Option, Some, None, Result, inl, inr, sym, subst, ◌∙◌, ap, ap₂, refl, arith, append_assoc, eq-eqb, slice_get}
use Rattle.std.specs.List.{All}
use Rattle.std.proofs.lemmas.Bool.{cond-true}
use Rattle.std.proofs.lemmas.List.{get_or_at, length-map, length_push}
use Rattle.std.proofs.lemmas.List.Elements.{All-head, All-tail}
use Rattle.std.proofs.lemmas.Option.{none-some, same_Some, slice_get-get_or, slice_get_within}
use Rattle.regex.specs.Patterns.{Re, empty}
use Rattle.lrpar_lexer.specs.Lexing.{Lexes, Reads, ends, lexemes_of, reads, stops}
use Rattle.lrpar_lexer.specs.LexingAll as plain
use Rattle.lrpar_lexer.specs.LexingAll.{IsNext, LexesAll}
use Rattle.lrpar_lexer.specs.Matching.{IsUnmatched, NoneMatches, Wins, chosen_of}
use Rattle.lrpar_lexer.specs.Rules.{Rule}
use Rattle.lrpar_lexer.specs.declared.token.Token.{Token}
use Rattle.lrpar_lexer.specs.declared.token.NoToken.{NoToken}
use Rattle.lrpar_lexer_lrlex.specs.Laws.{HasNoStates, LexesAsRules}
use Rattle.lrpar_lexer_lrlex.specs.LexingIn.{LexesIn, ReadsIn, fails, falls, finishes, moves_on, patterns_in}
use Rattle.lrpar_lexer_lrlex.specs.LexingAllIn.{IsNextIn, LexesAllIn, all_read, comes, goes, keeps, skips}
use Rattle.lrpar_lexer_lrlex.specs.StateRules.{Starts, StateRules, active, active_from, is_active, moved, target_at, token_at}

-- a rule without states is active
free : (start : Starts) → HasNoStates start → is_active false 0 start ≡ true
free start has = cond-true (length start.states == 0) _ _ (eq-eqb (length start.states) 0 (ap length has.0))

-- so all are
active_more : (from : ℕ) (start : Starts) (starts : List Starts) → HasNoStates start
    → active_from from false 0 (start ∷ starts) ≡ from ∷ active_from (from + 1) false 0 starts
active_more from start starts has = cond-true (is_active false 0 start) _ _ (free start has)

chosen_all : (front patterns : List Re) (from : ℕ) (starts : List Starts) → from ≡ length front → length starts ≡ length patterns → All HasNoStates starts
    → chosen_of (front ++ patterns) (active_from from false 0 starts) ≡ patterns
chosen_all front [] from [] is same all = refl
chosen_all front [] from (start ∷ starts) is same all = absurd (omega (arith, same))
chosen_all front (p ∷ patterns) from [] is same all = absurd (omega (arith, same))
chosen_all front (p ∷ patterns) from (start ∷ starts) is same all =
    let whole : (front ++ p ∷ []) ++ patterns ≡ front ++ p ∷ patterns = append_assoc front (p ∷ []) patterns in
    let next : from + 1 ≡ length (front ++ p ∷ []) = ap (λ n. n + 1) is ∙ sym (length_push front p) in
    let rest : length starts ≡ length patterns = omega (arith, same) in
    let more : chosen_of (front ++ p ∷ patterns) (active_from (from + 1) false 0 starts) ≡ patterns =
    subst (λ ps. chosen_of ps (active_from (from + 1) false 0 starts) ≡ patterns) whole
    (chosen_all (front ++ p ∷ []) patterns (from + 1) starts next rest (All-tail HasNoStates start starts all)) in
    ap (chosen_of (front ++ p ∷ patterns)) (active_more from start starts (All-head HasNoStates start starts all))
    ∙ ap₂ (λ x xs. x ∷ xs) (get_or_at front p patterns empty from (sym is)) more

-- the rule at a place of the active ones has that number
active_at : (from place : ℕ) (starts : List Starts) → All HasNoStates starts → place < length starts
    → slice_get (active_from from false 0 starts) place ≡ Some (from + place)
active_at from place [] all within = absurd (omega (arith, within))
active_at from zero (start ∷ starts) all within =
    let same : from ≡ from + 0 = omega arith in
    ap (λ l. slice_get l 0) (active_more from start starts (All-head HasNoStates start starts all)) ∙ ap Some same
active_at from (suc place) (start ∷ starts) all within =
    let less : place < length starts = omega (arith, within) in
    let same : (from + 1) + place ≡ from + suc place = omega arith in
    ap (λ l. slice_get l (suc place)) (active_more from start starts (All-head HasNoStates start starts all))
    ∙ active_at (from + 1) place starts (All-tail HasNoStates start starts all) less ∙ ap Some same

-- no target
no_target : (starts : List Starts) (rule : ℕ) → All HasNoStates starts → get_or (map (λ (s : Starts). s.target) starts) rule None ≡ None
no_target [] rule all = refl
no_target (start ∷ starts) zero all = (All-head HasNoStates start starts all).1
no_target (start ∷ starts) (suc rule) all = no_target starts rule (All-tail HasNoStates start starts all)

module _ (rules : StateRules) (text : List ℕ) (same : length rules.starts ≡ length rules.rules) (inclusive : get_or rules.exclusive 0 false ≡ false)
    (all : All HasNoStates rules.starts) where
  active_is : active rules 0 ≡ active_from 0 false 0 rules.starts
  active_is = ap (λ e. active_from 0 e 0 rules.starts) inclusive

  pub patterns_are : patterns_in rules 0 ≡ map (λ (r : Rule). r.pattern) rules.rules
  patterns_are =
      ap (chosen_of (map (λ (r : Rule). r.pattern) rules.rules)) active_is
      ∙ chosen_all [] (map (λ (r : Rule). r.pattern) rules.rules) 0 rules.starts refl
      (omega (arith, same, length-map rules.rules (λ (r : Rule). r.pattern))) all

  -- what wins is a rule
  wins_within : (at place n : ℕ) → Wins (map (λ (r : Rule). r.pattern) rules.rules) (drop at text) place n → place < length rules.rules
  wins_within at place n wins =
      omega (
        arith,
        length-map rules.rules (λ (r : Rule). r.pattern),
        slice_get_within (map (λ (r : Rule). r.pattern) rules.rules) place wins.pattern wins.is,
      )

  place_is : (place : ℕ) → place < length rules.rules → slice_get (active rules 0) place ≡ Some place
  place_is place within =
      let less : place < length rules.starts = omega (arith, within, same) in
      let zero_less : 0 + place ≡ place = omega arith in
      ap (λ l. slice_get l place) active_is ∙ active_at 0 place rules.starts all less ∙ ap Some zero_less

  pub stays : (rule top : ℕ) (below : List ℕ) → moved (target_at rules rule) top below ≡ Some (top, below)
  stays rule top below = ap (λ t. moved t top below) (no_target rules.starts rule all)

  token_is : (rule : ℕ) → rule < length rules.rules → slice_get (map (λ (r : Rule). r.token) rules.rules) rule ≡ Some (token_at rules rule)
  token_is rule within =
      slice_get-get_or (map (λ (r : Rule). r.token) rules.rules) rule None (omega (arith, within, length-map rules.rules (λ (r : Rule). r.token)))

  pub read_rule : (at rule n : ℕ) → ReadsIn rules text 0 at rule n → Reads rules.rules text at (token_at rules rule) n
  read_rule at rule n read =
      let wins : Wins (map (λ (r : Rule). r.pattern) rules.rules) (drop at text) read.place n =
      subst (λ ps. Wins ps (drop at text) read.place n) patterns_are read.wins in
      let within = wins_within at read.place n wins in
      let number : read.place ≡ rule = same_Some read.place rule (sym (place_is read.place within) ∙ read.is) in
      record {
        rule = read.place;
        wins = wins;
        is = token_is read.place within ∙ ap (λ r. Some (token_at rules r)) number;
      }

  as_rules : (at top : ℕ) (below : List ℕ) (answers : List (Result (Token ℕ) NoToken)) → LexesIn rules text at top below answers → top ≡ 0
      → Lexes rules.rules text at answers
  as_rules _ _ _ _ (finishes at top below past) zero_top = ends at past
  as_rules _ _ _ _ (fails at top below within none) zero_top =
      stops at within (subst (λ ps. NoneMatches ps (drop at text)) (ap (patterns_in rules) zero_top ∙ patterns_are) none)
  as_rules _ _ _ _ (falls at top below rule n within read on) zero_top = absurd (none-some (top, below) (sym on ∙ stays rule top below))
  as_rules _ _ _ _ (moves_on at top below rule n next under answers within read on rest) zero_top =
      let same_stack : (top, below) ≡ (next, under) = same_Some (top, below) (next, under) (sym (stays rule top below) ∙ on) in
      let next_zero : next ≡ 0 = sym (ap (λ (s : ℕ × List ℕ). s.0) same_stack) ∙ zero_top in
      reads at n (token_at rules rule) answers within (read_rule at rule n (subst (λ t. ReadsIn rules text t at rule n) zero_top read))
      (as_rules (at + n) next under answers rest next_zero)

  read_states : (at n : ℕ) (token : Option ℕ) (read : Reads rules.rules text at token n) → ReadsIn rules text 0 at read.rule n
  read_states at n token read = record {
    place = read.rule;
    wins = subst (λ ps. Wins ps (drop at text) read.rule n) (sym patterns_are) read.wins;
    is = place_is read.rule (wins_within at read.rule n read.wins);
  }

  token_same : (at n : ℕ) (token : Option ℕ) (read : Reads rules.rules text at token n) → token_at rules read.rule ≡ token
  token_same at n token read =
      same_Some (token_at rules read.rule) token (sym (token_is read.rule (wins_within at read.rule n read.wins)) ∙ read.is)

  as_states : (at : ℕ) (answers : List (Result (Token ℕ) NoToken)) → Lexes rules.rules text at answers → LexesIn rules text at 0 [] answers
  as_states _ _ (ends at past) = finishes at 0 [] past
  as_states _ _ (stops at within none) =
      fails at 0 [] within (subst (λ ps. NoneMatches ps (drop at text)) (sym patterns_are) none)
  as_states _ _ (reads at n token answers within read rest) =
      subst (λ t. LexesIn rules text at 0 [] (lexemes_of t at n ++ answers)) (token_same at n token read)
      (moves_on at 0 [] read.rule n 0 [] answers within (read_states at n token read) (stays read.rule 0 []) (as_states (at + n) answers rest))

  module _ (unmatched : ℕ) where
    next_as_rules : (at top : ℕ) (below : List ℕ) (token : Option ℕ) (n next : ℕ) (under : List ℕ)
        → IsNextIn rules unmatched text at top below token n next under → top ≡ 0 → IsNext rules.rules unmatched text at token n × (next ≡ 0)
    next_as_rules at top below _ _ _ _ (goes rule n next under read on) zero_top =
        let same_stack : (top, below) ≡ (next, under) = same_Some (top, below) (next, under) (sym (stays rule top below) ∙ on) in (
          inl (read_rule at rule n (subst (λ t. ReadsIn rules text t at rule n) zero_top read)),
          sym (ap (λ (s : ℕ × List ℕ). s.0) same_stack) ∙ zero_top,
        )
    next_as_rules at top below _ _ _ _ (keeps rule n read on) zero_top = absurd (none-some (top, below) (sym on ∙ stays rule top below))
    next_as_rules at top below _ _ _ _ (skips n run) zero_top =
        (inr (subst (λ ps. IsUnmatched ps text at n) (ap (patterns_in rules) zero_top ∙ patterns_are) run, refl), zero_top)

    all_as_rules : (at top : ℕ) (below : List ℕ) (answers : List (Result (Token ℕ) NoToken)) → LexesAllIn rules unmatched text at top below answers
        → top ≡ 0 → LexesAll rules.rules unmatched text at answers
    all_as_rules _ _ _ _ (all_read at top below past) zero_top = plain.finishes at past
    all_as_rules _ _ _ _ (comes at top below token n next under answers within one rest) zero_top =
        let next_one = next_as_rules at top below token n next under one zero_top in
        plain.goes_on at n token answers within next_one.0 (all_as_rules (at + n) next under answers rest next_one.1)

    next_as_states : (at n : ℕ) (token : Option ℕ) → IsNext rules.rules unmatched text at token n → IsNextIn rules unmatched text at 0 [] token n 0 []
    next_as_states at n token (inl read) =
        subst (λ t. IsNextIn rules unmatched text at 0 [] t n 0 []) (token_same at n token read)
        (goes read.rule n 0 [] (read_states at n token read) (stays read.rule 0 []))
    next_as_states at n token (inr run) =
        subst (λ t. IsNextIn rules unmatched text at 0 [] t n 0 []) (sym run.1)
        (skips n (subst (λ ps. IsUnmatched ps text at n) (sym patterns_are) run.0))

    all_as_states : (at : ℕ) (answers : List (Result (Token ℕ) NoToken)) → LexesAll rules.rules unmatched text at answers
        → LexesAllIn rules unmatched text at 0 [] answers
    all_as_states _ _ (plain.finishes at past) = all_read at 0 [] past
    all_as_states _ _ (plain.goes_on at n token answers within one rest) =
        comes at 0 [] token n 0 [] answers within (next_as_states at n token one) (all_as_states (at + n) answers rest)

pub lexes_as_rules : LexesAsRules
lexes_as_rules rules None text answers same inclusive all = (
  λ lexes. as_rules rules text same inclusive all 0 0 [] answers lexes refl,
  λ lexes. as_states rules text same inclusive all 0 answers lexes,
)
lexes_as_rules rules (Some unmatched) text answers same inclusive all = (
  λ lexes. all_as_rules rules text same inclusive all unmatched 0 0 [] answers lexes refl,
  λ lexes. all_as_states rules text same inclusive all unmatched 0 answers lexes,
)
