-- The lexemes of a text by rules with start states, if unmatched characters are lexemes, too, step by step.
use Rattle.std.proofs.Common.{◌≡◌, ℕ, ◌+◌, ◌<◌, ◌≤◌, List, [], ◌++◌, length, map, drop, Option, Some, None, Result, sym, subst, ◌∙◌, ap, refl, append_assoc}
use Rattle.std.specs.List.{All, AllZip}
use Rattle.std.proofs.lemmas.List.{append-nil}
use Rattle.std.proofs.lemmas.Option.{same_Some}
use Rattle.regex.specs.Patterns.{Re}
use Rattle.regex_meta.specs.declared.program.Program.{Program}
use Rattle.lrpar_lexer.specs.Anchored.{FindsAtStart}
use Rattle.lrpar_lexer.specs.Lexing.{lexemes_of}
use Rattle.lrpar_lexer.specs.Matching.{IsUnmatched, NoneMatches, chosen_of}
use Rattle.lrpar_lexer.specs.Rules.{anchored_of, pattern_of}
use Rattle.lrpar_lexer.specs.declared.token.Token.{Token}
use Rattle.lrpar_lexer.specs.declared.token.NoToken.{NoToken}
use Rattle.lrpar_lexer.proofs.LexingLemmas.{patterns_same}
use Rattle.lrpar_lexer.proofs.WinnerLemmas.{rules_find}
use Rattle.lrpar_lexer_lrlex.specs.declared.rules.LrlexRules.{LrlexRules}
use Rattle.lrpar_lexer_lrlex.specs.LexingIn.{ReadsIn, patterns_in}
use Rattle.lrpar_lexer_lrlex.specs.LexingAllIn.{IsNextIn, LexesAllIn, all_read, comes, goes, keeps}
use Rattle.lrpar_lexer_lrlex.specs.StateRules.{StateRules, active, moved, plain_state_rules, target_at, token_at}
use Rattle.lrpar_lexer_lrlex.specs.States.{Target}
use Rattle.lrpar_lexer_lrlex.proofs.LexingInLemmas.{active_have_patterns}

-- the lexemes so far, and then those from byte `at` on with that stack, are the lexemes of the whole text
abbrev pub LeadsToAll : StateRules → ℕ → List ℕ → ℕ → ℕ → List ℕ → List (Result (Token ℕ) NoToken) → Type 0
LeadsToAll rules unmatched text at top below before =
    (after : List (Result (Token ℕ) NoToken)) → LexesAllIn rules unmatched text at top below after → LexesAllIn rules unmatched text 0 0 [] (before ++ after)

module _ (rules : StateRules) (unmatched : ℕ) (text : List ℕ) where
  -- at the start
  pub all_at_first : LeadsToAll rules unmatched text 0 0 [] []
  all_at_first after lexes = lexes

  -- one step more
  pub all_on : (at top : ℕ) (below : List ℕ) (token : Option ℕ) (n next : ℕ) (under : List ℕ) (before : List (Result (Token ℕ) NoToken))
      → at < length text → IsNextIn rules unmatched text at top below token n next under → LeadsToAll rules unmatched text at top below before
      → LeadsToAll rules unmatched text (at + n) next under (before ++ lexemes_of token at n)
  all_on at top below token n next under before within one leads after lexes =
      subst (LexesAllIn rules unmatched text 0 0 []) (sym (append_assoc before (lexemes_of token at n) after))
      (leads (lexemes_of token at n ++ after) (comes at top below token n next under after within one lexes))

  -- the text ends
  pub all_to_end : (at top : ℕ) (below : List ℕ) (before : List (Result (Token ℕ) NoToken)) → length text ≤ at
      → LeadsToAll rules unmatched text at top below before → LexesAllIn rules unmatched text 0 0 [] before
  all_to_end at top below before past leads =
      subst (LexesAllIn rules unmatched text 0 0 []) (append-nil before) (leads [] (all_read at top below past))

-- the run that searches find, which run the programs of the rules, is one at which no active rule matches
pub run_in : {S : Type 0} (index : S → ℕ) (rules : LrlexRules S) (state : ℕ) (programs : List Program) (chosen : List ℕ) (text : List ℕ) (at n : ℕ)
    → programs ≡ map anchored_of rules.rules.items → chosen ≡ active (plain_state_rules index rules) state
    → NoneMatches (patterns_in (plain_state_rules index rules) state) (drop at text)
    → ((patterns : List Re) → AllZip FindsAtStart programs patterns → All (λ i. i < length patterns) chosen
    → NoneMatches (chosen_of patterns chosen) (drop at text) → IsUnmatched (chosen_of patterns chosen) text at n)
    → IsUnmatched (patterns_in (plain_state_rules index rules) state) text at n
run_in index rules state programs chosen text at n same is_active none run =
    let patterns = map pattern_of rules.rules.items in
    let plain : chosen_of patterns chosen ≡ patterns_in (plain_state_rules index rules) state =
    subst (λ ps. chosen_of patterns chosen ≡ chosen_of ps (active (plain_state_rules index rules) state)) (patterns_same index rules.rules.items)
    (subst (λ c. chosen_of patterns chosen ≡ chosen_of patterns c) is_active refl) in
    subst (λ ps. IsUnmatched ps text at n) plain
    (run patterns (subst (λ ps. AllZip FindsAtStart ps patterns) (sym same) (rules_find rules.rules.items))
    (subst (All (λ i. i < length patterns)) (sym is_active) (active_have_patterns index rules state))
    (subst (λ ps. NoneMatches ps (drop at text)) (sym plain) none))

module _ (rules : StateRules) (unmatched : ℕ) (text : List ℕ) (at top : ℕ) (below : List ℕ) (rule n : ℕ) (read : ReadsIn rules text top at rule n) where
  -- a match comes, and its target moves the stack
  pub goes_in : (token : Option ℕ) (next : ℕ) (under : List ℕ) → token ≡ token_at rules rule
      → moved (target_at rules rule) top below ≡ Some (next, under) → IsNextIn rules unmatched text at top below token n next under
  goes_in token next under is on =
      subst (λ t. IsNextIn rules unmatched text at top below t n next under) (sym is) (goes rule n next under read on)

  -- or it would pop the last state, and the stack stays
  pub keeps_in : (next : ℕ) (under : List ℕ) → moved (target_at rules rule) top below ≡ None → (next ≡ top) × (under ≡ below)
      → IsNextIn rules unmatched text at top below (Some unmatched) n next under
  keeps_in next under out same =
      subst (λ t. IsNextIn rules unmatched text at top below (Some unmatched) n t under) (sym same.0)
      (subst (λ b. IsNextIn rules unmatched text at top below (Some unmatched) n top b) (sym same.1) (keeps rule n read out))

-- without a target the state on top stays
pub top_stays : (target : Option Target) (top next : ℕ) (below under : List ℕ) → moved target top below ≡ Some (next, under) → target ≡ None
    → next ≡ top
top_stays target top next below under on none =
    ap (λ (s : ℕ × List ℕ). s.0) (same_Some (next, under) (top, below) (sym on ∙ ap (λ t. moved t top below) none))
