-- The lexemes and errors of a text, step by step.
use Rattle.std.proofs.Common.{◌≡◌, ℕ, ◌+◌, ◌<◌, ◌≤◌, ◌-◌, List, [], ◌∷◌, ◌++◌, length, map, drop, Option, Some, Result, Err, sym, subst, ap, refl, arith, slice_get, append_assoc, length-drop, get_or}
use Rattle.std.specs.List.{AllZip}
use Rattle.std.specs.Str.{IsCharBoundary}
use Rattle.std.proofs.lemmas.List.{append-nil, get_or-drop, length-map}
use Rattle.std.proofs.lemmas.Option.{slice_get_within}
use Rattle.regex.specs.Patterns.{Re}
use Rattle.regex_meta.specs.declared.program.Program.{Program}
use Rattle.lrpar_lexer.specs.declared.rule.LexRule.{LexRule}
use Rattle.lrpar_lexer.specs.declared.matching.Winner.{Winner}
use Rattle.lrpar_lexer.specs.declared.token.Token.{Token}
use Rattle.lrpar_lexer.specs.declared.token.NoToken.{NoToken}
use Rattle.lrpar_lexer.specs.Matching.{IsWinner, NoneMatches, Wins}
use Rattle.lrpar_lexer.specs.Anchored.{FindsAtStart}
use Rattle.lrpar_lexer.specs.Rules.{Rule, anchored_of, pattern_of, plain_rules}
use Rattle.lrpar_lexer.proofs.WinnerLemmas.{rules_find}
use Rattle.lrpar_lexer.specs.Lexing.{Lexes, Reads, lexemes_of, nothing_at, ends, stops, reads}

-- the results so far, and then those from byte `at` on, are the results of the whole text
abbrev pub LeadsTo : List Rule → List ℕ → ℕ → List (Result (Token ℕ) NoToken) → Type 0
LeadsTo rules text at before = (after : List (Result (Token ℕ) NoToken)) → Lexes rules text at after → Lexes rules text 0 (before ++ after)

module _ (rules : List Rule) (text : List ℕ) where
  -- at the start
  pub leads_at_first : LeadsTo rules text 0 []
  leads_at_first after lexes = lexes

  -- a match is read
  pub leads_on : (at n : ℕ) (token : Option ℕ) (before : List (Result (Token ℕ) NoToken)) → at < length text → Reads rules text at token n
      → LeadsTo rules text at before → LeadsTo rules text (at + n) (before ++ lexemes_of token at n)
  leads_on at n token before within read leads after lexes =
      subst (Lexes rules text 0) (sym (append_assoc before (lexemes_of token at n) after))
      (leads (lexemes_of token at n ++ after) (reads at n token after within read lexes))

  -- nothing matches
  pub leads_to_error : (at : ℕ) (before : List (Result (Token ℕ) NoToken)) → at < length text → NoneMatches (map (λ r. r.pattern) rules) (drop at text)
      → LeadsTo rules text at before → Lexes rules text 0 (before ++ Err (nothing_at at) ∷ [])
  leads_to_error at before within none leads = leads (Err (nothing_at at) ∷ []) (stops at within none)

  -- the text ends
  pub leads_to_end : (at : ℕ) (before : List (Result (Token ℕ) NoToken)) → length text ≤ at → LeadsTo rules text at before → Lexes rules text 0 before
  leads_to_end at before past leads = subst (Lexes rules text 0) (append-nil before) (leads [] (ends at past))

-- a place between two characters of the rest is one of the text
pub boundary_past : (text : List ℕ) (at n : ℕ) → at ≤ length text → IsCharBoundary (drop at text) n → IsCharBoundary text (at + n)
boundary_past text at n within boundary =
    let rest : length (drop at text) ≡ length text - at = length-drop at text in
    let same : get_or (drop at text) n 0 ≡ get_or text (at + n) 0 = get_or-drop at text n 0 in
    (omega arith, λ inside high. let lead : 192 ≤ get_or (drop at text) n 0 = boundary.1 (omega arith) (omega arith) in omega arith)

-- the patterns of rules
pub patterns_same : {S : Type 0} (index : S → ℕ) (rules : List (LexRule S))
    → map pattern_of rules ≡ map (λ (r : Rule). r.pattern) (plain_rules index rules)
patterns_same index [] = refl
patterns_same index (rule ∷ rules) = ap (λ ps. pattern_of rule ∷ ps) (patterns_same index rules)

-- searches that run the programs of rules give the winner of their patterns
pub winner_of_rules : {S : Type 0} (rules : List (LexRule S)) (programs : List Program) (text rest : List ℕ) (at : ℕ) (winner : Option Winner)
    → programs ≡ map anchored_of rules → rest ≡ drop at text
    → ((patterns : List Re) → AllZip FindsAtStart programs patterns → IsWinner patterns rest winner)
    → IsWinner (map pattern_of rules) (drop at text) winner
winner_of_rules rules programs text rest at winner same is wins =
    subst (λ r. IsWinner (map pattern_of rules) r winner) is
    (wins (map pattern_of rules) (subst (λ ps. AllZip FindsAtStart ps (map pattern_of rules)) (sym same) (rules_find rules)))

module _ {S : Type 0} (index : S → ℕ) (rules : List (LexRule S)) (text : List ℕ) (at : ℕ) where
  -- a rule that wins is one of the rules
  pub wins_within : (i n : ℕ) → Wins (map pattern_of rules) (drop at text) i n → i < length rules
  wins_within i n wins = omega (arith, length-map rules pattern_of, slice_get_within (map pattern_of rules) i wins.pattern wins.is)

  -- its match lies in the text
  pub winner_within : (i n : ℕ) → at ≤ length text → Wins (map pattern_of rules) (drop at text) i n → (0 < n) × (at + n ≤ length text)
  winner_within i n inside wins = (wins.matches.some, (boundary_past text at n inside wins.matches.boundary).0)

  -- the winner is read
  pub reads_winner : (i n : ℕ) (token : Option ℕ) → Wins (map pattern_of rules) (drop at text) i n
      → slice_get (map (λ (r : Rule). r.token) (plain_rules index rules)) i ≡ Some token → Reads (plain_rules index rules) text at token n
  reads_winner i n token wins is =
      record { rule = i; wins = subst (λ ps. Wins ps (drop at text) i n) (patterns_same index rules) wins; is = is }

  -- if no pattern matches, no rule does
  pub none_matches : NoneMatches (map pattern_of rules) (drop at text) → NoneMatches (map (λ (r : Rule). r.pattern) (plain_rules index rules)) (drop at text)
  none_matches none = subst (λ ps. NoneMatches ps (drop at text)) (patterns_same index rules) none
