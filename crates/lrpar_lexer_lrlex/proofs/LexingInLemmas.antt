-- The lexemes and errors of a text by rules with start states, step by step.
use Rattle.std.proofs.Common.{◌≡◌, ℕ, ◌+◌, ◌<◌, ◌≤◌, Bool, false, List, [], ◌∷◌, ◌++◌, length, map, drop, get_or, Option, Some, None, option_map, Result, Err, sym, subst, ◌∙◌, ap, arith, append_assoc, slice_get}
use Rattle.std.specs.List.{All, AllZip}
use Rattle.std.specs.Str.{IsCharBoundary}
use Rattle.std.proofs.lemmas.Bool.{cond_both}
use Rattle.std.proofs.lemmas.List.{append-nil, get_or-map, get_or_default, length-map}
use Rattle.std.proofs.lemmas.List.Elements.{All-cons, All-nil, All-weaker}
use Rattle.std.proofs.lemmas.Option.{get_or_from_slice_get, slice_get_within}
use Rattle.regex.specs.Patterns.{Re, empty}
use Rattle.regex_meta.specs.declared.program.Program.{Program}
use Rattle.lrpar_lexer.specs.Anchored.{FindsAtStart}
use Rattle.lrpar_lexer.specs.Lexing.{lexemes_of, nothing_at}
use Rattle.lrpar_lexer.specs.Matching.{IsWinner, NoneMatches, Wins, chosen_of}
use Rattle.lrpar_lexer.specs.Rules.{Rule, anchored_of, pattern_of, plain_rule, token_of}
use Rattle.lrpar_lexer.specs.declared.rule.LexRule.{LexRule}
use Rattle.lrpar_lexer.specs.declared.matching.Winner.{Winner}
use Rattle.lrpar_lexer.specs.declared.token.Token.{Token}
use Rattle.lrpar_lexer.specs.declared.token.NoToken.{NoToken}
use Rattle.lrpar_lexer.proofs.LexingLemmas.{boundary_past, patterns_same}
use Rattle.lrpar_lexer.proofs.WinnerLemmas.{rules_find}
use Rattle.lrpar_lexer_lrlex.specs.declared.rules.LrlexRules.{LrlexRules}
use Rattle.lrpar_lexer_lrlex.specs.declared.states.Starts as code
use Rattle.lrpar_lexer_lrlex.specs.States.{plain_target}
use Rattle.lrpar_lexer_lrlex.specs.LexingIn.{LexesIn, ReadsIn, fails, falls, finishes, moves_on, nothing_below, patterns_in}
use Rattle.lrpar_lexer_lrlex.specs.StateRules.{Starts, StateRules, active, active_from, is_active, moved, plain_starts, plain_state_rules, target_at, token_at}

-- the results so far, and then those from byte `at` on with that stack, are the results of the whole text
abbrev pub LeadsTo : StateRules → List ℕ → ℕ → ℕ → List ℕ → List (Result (Token ℕ) NoToken) → Type 0
LeadsTo rules text at top below before =
    (after : List (Result (Token ℕ) NoToken)) → LexesIn rules text at top below after → LexesIn rules text 0 0 [] (before ++ after)

module _ (rules : StateRules) (text : List ℕ) where
  -- at the start
  pub leads_at_first : LeadsTo rules text 0 0 [] []
  leads_at_first after lexes = lexes

  -- a match is read, and the stack is moved
  pub leads_on : (at top : ℕ) (below : List ℕ) (rule n next : ℕ) (under : List ℕ) (before : List (Result (Token ℕ) NoToken)) → at < length text
      → ReadsIn rules text top at rule n → moved (target_at rules rule) top below ≡ Some (next, under) → LeadsTo rules text at top below before
      → LeadsTo rules text (at + n) next under (before ++ lexemes_of (token_at rules rule) at n)
  leads_on at top below rule n next under before within read goes leads after lexes =
      subst (LexesIn rules text 0 0 []) (sym (append_assoc before (lexemes_of (token_at rules rule) at n) after))
      (leads (lexemes_of (token_at rules rule) at n ++ after) (moves_on at top below rule n next under after within read goes lexes))

  -- nothing matches
  pub leads_to_error : (at top : ℕ) (below : List ℕ) (before : List (Result (Token ℕ) NoToken)) → at < length text
      → NoneMatches (patterns_in rules top) (drop at text) → LeadsTo rules text at top below before
      → LexesIn rules text 0 0 [] (before ++ Err (nothing_at at) ∷ [])
  leads_to_error at top below before within none leads = leads (Err (nothing_at at) ∷ []) (fails at top below within none)

  -- a match pops the last state
  pub leads_to_fall : (at top : ℕ) (below : List ℕ) (rule n : ℕ) (before : List (Result (Token ℕ) NoToken)) → at < length text
      → ReadsIn rules text top at rule n → moved (target_at rules rule) top below ≡ None → LeadsTo rules text at top below before
      → LexesIn rules text 0 0 [] (before ++ Err (nothing_below at n) ∷ [])
  leads_to_fall at top below rule n before within read falls_out leads =
      leads (Err (nothing_below at n) ∷ []) (falls at top below rule n within read falls_out)

  -- the text ends
  pub leads_to_end : (at top : ℕ) (below : List ℕ) (before : List (Result (Token ℕ) NoToken)) → length text ≤ at
      → LeadsTo rules text at top below before → LexesIn rules text 0 0 [] before
  leads_to_end at top below before past leads = subst (LexesIn rules text 0 0 []) (append-nil before) (leads [] (finishes at top below past))

-- the numbers of the active rules are those of rules
pub active_small : (from : ℕ) (exclusive : Bool) (state : ℕ) (starts : List Starts)
    → All (λ i. i < from + length starts) (active_from from exclusive state starts)
active_small from exclusive state [] = All-nil _
active_small from exclusive state (start ∷ starts) =
    let more : All (λ i. i < from + length (start ∷ starts)) (active_from (from + 1) exclusive state starts) =
    All-weaker (λ i. i < (from + 1) + length starts) (λ i. i < from + length (start ∷ starts)) (λ i less. omega (arith, less))
    (active_from (from + 1) exclusive state starts) (active_small (from + 1) exclusive state starts) in
    cond_both (is_active exclusive state start) (from ∷ active_from (from + 1) exclusive state starts) (active_from (from + 1) exclusive state starts)
    (All (λ i. i < from + length (start ∷ starts)))
    (λ _. All-cons (λ i. i < from + length (start ∷ starts)) from (active_from (from + 1) exclusive state starts) (omega arith) more)
    (λ _. more)

-- the token and the target of a rule
pub token_is : {S : Type 0} (index : S → ℕ) (rules : LrlexRules S) (rule : ℕ) (one : LexRule S) → rule < length rules.rules.items
    → one ≡ get_or rules.rules.items rule one → token_of index one ≡ token_at (plain_state_rules index rules) rule
token_is index rules rule one within read =
    let all = rules.rules.items in
    let plain : get_or (map (plain_rule index) all) rule (plain_rule index one) ≡ plain_rule index one =
    get_or-map (plain_rule index) all rule one _ within ∙ ap (plain_rule index) (sym read) in
    let len : rule < length (map (plain_rule index) all) = omega (arith, within, length-map all (plain_rule index)) in
    sym (get_or_default (map (λ (r : Rule). r.token) (map (plain_rule index) all)) rule None (token_of index one)
    (omega (arith, len, length-map (map (plain_rule index) all) (λ (r : Rule). r.token)))
    ∙ get_or-map (λ (r : Rule). r.token) (map (plain_rule index) all) rule (plain_rule index one) _ len ∙ ap (λ (r : Rule). r.token) plain)

pub target_is : {S : Type 0} (index : S → ℕ) (rules : LrlexRules S) (rule : ℕ) (one : code.Starts) → rule < length rules.starts.items
    → one ≡ get_or rules.starts.items rule one → option_map plain_target one.target ≡ target_at (plain_state_rules index rules) rule
target_is index rules rule one within read =
    let all = rules.starts.items in
    let plain : get_or (map plain_starts all) rule (plain_starts one) ≡ plain_starts one =
    get_or-map plain_starts all rule one _ within ∙ ap plain_starts (sym read) in
    let len : rule < length (map plain_starts all) = omega (arith, within, length-map all plain_starts) in
    sym (get_or_default (map (λ (s : Starts). s.target) (map plain_starts all)) rule None (option_map plain_target one.target)
    (omega (arith, len, length-map (map plain_starts all) (λ (s : Starts). s.target)))
    ∙ get_or-map (λ (s : Starts). s.target) (map plain_starts all) rule (plain_starts one) _ len ∙ ap (λ (s : Starts). s.target) plain)

module _ {S : Type 0} (index : S → ℕ) (rules : LrlexRules S) (state : ℕ) where
  -- so each has a pattern
  pub active_have_patterns : All (λ i. i < length (map pattern_of rules.rules.items)) (active (plain_state_rules index rules) state)
  active_have_patterns =
      let starts = map plain_starts rules.starts.items in
      let count : 0 + length starts ≡ length (map pattern_of rules.rules.items) =
      omega (arith, length-map rules.starts.items plain_starts, rules.paired, length-map rules.rules.items pattern_of) in
      subst (λ n. All (λ i. i < n) (active (plain_state_rules index rules) state)) count
      (active_small 0 (get_or rules.exclusive.items state false) state starts)

  -- searches that run the programs of the rules give the winner of the active ones
  pub winner_in : (programs : List Program) (chosen : List ℕ) (text rest : List ℕ) (at : ℕ) (winner : Option Winner)
      → programs ≡ map anchored_of rules.rules.items → chosen ≡ active (plain_state_rules index rules) state → rest ≡ drop at text
      → ((patterns : List Re) → AllZip FindsAtStart programs patterns → All (λ i. i < length patterns) chosen
      → IsWinner (chosen_of patterns chosen) rest winner)
      → IsWinner (patterns_in (plain_state_rules index rules) state) (drop at text) winner
  winner_in programs chosen text rest at winner same is_active is wins =
      let patterns = map pattern_of rules.rules.items in
      let won : IsWinner (chosen_of patterns chosen) rest winner =
      wins patterns (subst (λ ps. AllZip FindsAtStart ps patterns) (sym same) (rules_find rules.rules.items))
      (subst (All (λ i. i < length patterns)) (sym is_active) active_have_patterns) in
      subst (λ ps. IsWinner (chosen_of ps (active (plain_state_rules index rules) state)) (drop at text) winner)
      (patterns_same index rules.rules.items)
      (subst (λ r. IsWinner (chosen_of patterns (active (plain_state_rules index rules) state)) r winner) is
      (subst (λ chosen. IsWinner (chosen_of patterns chosen) rest winner) is_active won))

  -- a winner is one of the active rules
  pub winner_place : (chosen : List ℕ) (text : List ℕ) (at place n : ℕ) → chosen ≡ active (plain_state_rules index rules) state
      → Wins (patterns_in (plain_state_rules index rules) state) (drop at text) place n → place < length chosen
  winner_place chosen text at place n is wins =
      let within : place < length (patterns_in (plain_state_rules index rules) state) =
      slice_get_within (patterns_in (plain_state_rules index rules) state) place wins.pattern wins.is in
      omega (
        arith,
        within,
        length-map (active (plain_state_rules index rules) state) (λ i. get_or (map (λ (r : Rule). r.pattern) (plain_state_rules index rules).rules) i empty),
        ap length is,
      )

  -- so it is read
  pub read_in : (chosen : List ℕ) (text : List ℕ) (at place n rule : ℕ) → chosen ≡ active (plain_state_rules index rules) state
      → slice_get chosen place ≡ Some rule → Wins (patterns_in (plain_state_rules index rules) state) (drop at text) place n
      → ReadsIn (plain_state_rules index rules) text state at rule n
  read_in chosen text at place n rule is found wins =
      record { place = place; wins = wins; is = ap (λ c. slice_get c place) (sym is) ∙ found }

  -- its number is that of a rule
  pub rule_known : (chosen : List ℕ) (place rule : ℕ) → chosen ≡ active (plain_state_rules index rules) state → slice_get chosen place ≡ Some rule
      → rule < length rules.starts.items
  rule_known chosen place rule is found =
      let starts = map plain_starts rules.starts.items in
      let at : slice_get (active (plain_state_rules index rules) state) place ≡ Some rule = ap (λ c. slice_get c place) (sym is) ∙ found in
      let less : get_or (active (plain_state_rules index rules) state) place rule < 0 + length starts =
      active_small 0 (get_or rules.exclusive.items state false) state starts place rule
      (slice_get_within (active (plain_state_rules index rules) state) place rule at) in
      omega (
        arith,
        less,
        get_or_from_slice_get (active (plain_state_rules index rules) state) place rule rule at,
        length-map rules.starts.items plain_starts,
      )

  -- its match lies in the text
  pub match_within : (text : List ℕ) (at place n : ℕ) → at ≤ length text
      → Wins (patterns_in (plain_state_rules index rules) state) (drop at text) place n → IsCharBoundary text (at + n)
  match_within text at place n inside wins = boundary_past text at n inside wins.matches.boundary
