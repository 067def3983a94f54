-- The lexemes and errors that rules with start states give for a text.
use Rattle.std.specs.Prelude.{◌≡◌, ℕ, ◌+◌, ◌<◌, ◌≤◌, List, [], ◌∷◌, ◌++◌, length, map, drop, Some, None, Result, Err, slice_get}
use Rattle.regex.specs.Patterns.{Re}
use Rattle.lrpar_lexer.specs.Lexing.{lexemes_of, nothing_at}
use Rattle.lrpar_lexer.specs.Matching.{NoneMatches, Wins, chosen_of}
use Rattle.lrpar_lexer.specs.declared.token.Token.{Token}
use Rattle.lrpar_lexer.specs.declared.token.NoToken.{NoToken}
use Rattle.lrpar_lexer_lrlex.specs.StateRules.{StateRules, active, moved, target_at, token_at}

-- the patterns of the rules that are active in a state
abbrev pub patterns_in : StateRules → ℕ → List Re
patterns_in rules state = chosen_of (map (λ r. r.pattern) rules.rules) (active rules state)

-- of the rules that are active in the state, this one wins at byte `at` of the text, with n bytes
pub record ReadsIn (rules : StateRules) (text : List ℕ) (state at rule n : ℕ) : Type 0 where
  pub place : ℕ
  pub wins : Wins (patterns_in rules state) (drop at text) place n
  pub is : slice_get (active rules state) place ≡ Some rule

-- the error of a match that pops the last state
abbrev pub nothing_below : ℕ → ℕ → NoToken
nothing_below at n = record { span = record { start = at; end = at + n } }

-- The lexemes and errors of a text from byte `at` on, with a stack of states: a lexeme for each match of a rule with a token, and then the
-- stack that the rule's target makes; an error if no active rule matches, or if a match pops the last state, which is the last result.
pub data LexesIn (rules : StateRules) (text : List ℕ) : ℕ → ℕ → List ℕ → List (Result (Token ℕ) NoToken) → Type 0 where
  finishes : (at top : ℕ) (below : List ℕ) → length text ≤ at → LexesIn rules text at top below []
  fails : (at top : ℕ) (below : List ℕ) → at < length text → NoneMatches (patterns_in rules top) (drop at text)
      → LexesIn rules text at top below (Err (nothing_at at) ∷ [])
  falls : (at top : ℕ) (below : List ℕ) (rule n : ℕ) → at < length text → ReadsIn rules text top at rule n
      → moved (target_at rules rule) top below ≡ None → LexesIn rules text at top below (Err (nothing_below at n) ∷ [])
  moves_on : (at top : ℕ) (below : List ℕ) (rule n next : ℕ) (under : List ℕ) (answers : List (Result (Token ℕ) NoToken)) → at < length text
      → ReadsIn rules text top at rule n → moved (target_at rules rule) top below ≡ Some (next, under)
      → LexesIn rules text (at + n) next under answers → LexesIn rules text at top below (lexemes_of (token_at rules rule) at n ++ answers)
