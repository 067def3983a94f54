-- The lexemes of a text whose unmatched characters are lexemes, too, step by step.
use Rattle.std.proofs.Common.{◌≡◌, ℕ, ◌+◌, ◌<◌, ◌≤◌, List, [], ◌++◌, length, map, drop, Option, Some, Result, sym, subst, refl, inr, append_assoc}
use Rattle.std.specs.List.{AllZip}
use Rattle.std.proofs.lemmas.List.{append-nil}
use Rattle.regex.specs.Patterns.{Re}
use Rattle.regex_meta.specs.declared.program.Program.{Program}
use Rattle.lrpar_lexer.specs.declared.rule.LexRule.{LexRule}
use Rattle.lrpar_lexer.specs.declared.token.Token.{Token}
use Rattle.lrpar_lexer.specs.declared.token.NoToken.{NoToken}
use Rattle.lrpar_lexer.specs.Anchored.{FindsAtStart}
use Rattle.lrpar_lexer.specs.Matching.{IsUnmatched, NoneMatches}
use Rattle.lrpar_lexer.specs.Rules.{Rule, anchored_of, pattern_of, plain_rules}
use Rattle.lrpar_lexer.specs.Lexing.{lexemes_of}
use Rattle.lrpar_lexer.specs.LexingAll.{IsNext, LexesAll, finishes, goes_on}
use Rattle.lrpar_lexer.proofs.LexingLemmas.{patterns_same}
use Rattle.lrpar_lexer.proofs.WinnerLemmas.{rules_find}

-- the lexemes so far, and then those from byte `at` on, are the lexemes of the whole text
abbrev pub LeadsToAll : List Rule → ℕ → List ℕ → ℕ → List (Result (Token ℕ) NoToken) → Type 0
LeadsToAll rules unmatched text at before =
    (after : List (Result (Token ℕ) NoToken)) → LexesAll rules unmatched text at after → LexesAll rules unmatched text 0 (before ++ after)

module _ (rules : List Rule) (unmatched : ℕ) (text : List ℕ) where
  -- at the start
  pub all_at_first : LeadsToAll rules unmatched text 0 []
  all_at_first after lexes = lexes

  -- one step more
  pub all_on : (at n : ℕ) (token : Option ℕ) (before : List (Result (Token ℕ) NoToken)) → at < length text → IsNext rules unmatched text at token n
      → LeadsToAll rules unmatched text at before → LeadsToAll rules unmatched text (at + n) (before ++ lexemes_of token at n)
  all_on at n token before within next leads after lexes =
      subst (LexesAll rules unmatched text 0) (sym (append_assoc before (lexemes_of token at n) after))
      (leads (lexemes_of token at n ++ after) (goes_on at n token after within next lexes))

  -- the text ends
  pub all_to_end : (at : ℕ) (before : List (Result (Token ℕ) NoToken)) → length text ≤ at → LeadsToAll rules unmatched text at before
      → LexesAll rules unmatched text 0 before
  all_to_end at before past leads = subst (LexesAll rules unmatched text 0) (append-nil before) (leads [] (finishes at past))

-- a run at which no pattern of rules matches comes next, with the token of unmatched characters
pub run_is_next : {S : Type 0} (index : S → ℕ) (rules : List (LexRule S)) (unmatched : ℕ) (text : List ℕ) (at n : ℕ)
    → IsUnmatched (map pattern_of rules) text at n → IsNext (plain_rules index rules) unmatched text at (Some unmatched) n
run_is_next index rules unmatched text at n run =
    inr (subst (λ ps. IsUnmatched ps text at n) (patterns_same index rules) run, refl)

-- the run that searches find, which run the programs of rules, is one at which no pattern of the rules matches
pub run_of_rules : {S : Type 0} (rules : List (LexRule S)) (programs : List Program) (text : List ℕ) (at n : ℕ) → programs ≡ map anchored_of rules
    → NoneMatches (map pattern_of rules) (drop at text)
    → ((patterns : List Re) → AllZip FindsAtStart programs patterns → NoneMatches patterns (drop at text) → IsUnmatched patterns text at n)
    → IsUnmatched (map pattern_of rules) text at n
run_of_rules rules programs text at n same none run =
    run (map pattern_of rules) (subst (λ ps. AllZip FindsAtStart ps (map pattern_of rules)) (sym same) (rules_find rules)) none
