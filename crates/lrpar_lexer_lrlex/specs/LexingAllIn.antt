-- The lexemes that rules with start states give for a text if unmatched characters are lexemes, too.
use Rattle.std.specs.Prelude.{◌≡◌, ℕ, ◌+◌, ◌<◌, ◌≤◌, List, [], ◌++◌, length, Option, Some, None, Result}
use Rattle.lrpar_lexer.specs.Lexing.{lexemes_of}
use Rattle.lrpar_lexer.specs.Matching.{IsUnmatched}
use Rattle.lrpar_lexer.specs.declared.token.Token.{Token}
use Rattle.lrpar_lexer.specs.declared.token.NoToken.{NoToken}
use Rattle.lrpar_lexer_lrlex.specs.LexingIn.{LexesIn, ReadsIn, patterns_in}
use Rattle.lrpar_lexer_lrlex.specs.StateRules.{StateRules, moved, target_at, token_at}

-- What comes at byte `at` of the text, with a stack of states, has this token, or none, and n bytes, and leaves this stack: the match of the
-- active rule that wins, whose target makes that stack; or, with the token `unmatched` and the same stack, a match that would pop the last
-- state, or the longest run of characters at which no active rule matches.
pub data IsNextIn (rules : StateRules) (unmatched : ℕ) (text : List ℕ) (at top : ℕ) (below : List ℕ) : Option ℕ → ℕ → ℕ → List ℕ → Type 0 where
  goes : (rule n next : ℕ) (under : List ℕ) → ReadsIn rules text top at rule n → moved (target_at rules rule) top below ≡ Some (next, under)
      → IsNextIn rules unmatched text at top below (token_at rules rule) n next under
  keeps : (rule n : ℕ) → ReadsIn rules text top at rule n → moved (target_at rules rule) top below ≡ None
      → IsNextIn rules unmatched text at top below (Some unmatched) n top below
  skips : (n : ℕ) → IsUnmatched (patterns_in rules top) text at n → IsNextIn rules unmatched text at top below (Some unmatched) n top below

-- the lexemes of a text from byte `at` on, with a stack of states: one for each thing with a token that comes
pub data LexesAllIn (rules : StateRules) (unmatched : ℕ) (text : List ℕ) : ℕ → ℕ → List ℕ → List (Result (Token ℕ) NoToken) → Type 0 where
  all_read : (at top : ℕ) (below : List ℕ) → length text ≤ at → LexesAllIn rules unmatched text at top below []
  comes : (at top : ℕ) (below : List ℕ) (token : Option ℕ) (n next : ℕ) (under : List ℕ) (answers : List (Result (Token ℕ) NoToken)) → at < length text
      → IsNextIn rules unmatched text at top below token n next under → LexesAllIn rules unmatched text (at + n) next under answers
      → LexesAllIn rules unmatched text at top below (lexemes_of token at n ++ answers)

-- What a lexer by these rules gives for a text: the list of `LexesAllIn`, if it has a token for unmatched characters, and otherwise that of
-- `LexesIn`. At the start of the text the state `INITIAL`, whose number is 0, is alone on the stack.
abbrev pub LexesByStates : StateRules → Option ℕ → List ℕ → List (Result (Token ℕ) NoToken) → Type 0
LexesByStates rules None text answers = LexesIn rules text 0 0 [] answers
LexesByStates rules (Some unmatched) text answers = LexesAllIn rules unmatched text 0 0 [] answers
