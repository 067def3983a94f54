-- The lexemes and errors of a text by rules with start states, as they are stored. `index` gives the number of a value of the storage type.
use Rattle.std.specs.Prelude.{ℕ, List, [], MatchOption, Option, Result, Vec, drop}
use Rattle.lrpar_grammar_places.specs.declared.span.TIdx.{TIdx}
use Rattle.lrpar_lexer.specs.Answers.{plain_answers}
use Rattle.lrpar_lexer.specs.Matching.{NoneMatches}
use Rattle.lrpar_lexer.specs.Rules.{number_of}
use Rattle.lrpar_lexer.specs.declared.token.Token.{Token}
use Rattle.lrpar_lexer.specs.declared.token.NoToken.{NoToken}
use Rattle.lrpar_lexer_lrlex.specs.declared.rules.LrlexRules.{LrlexRules}
use Rattle.lrpar_lexer_lrlex.specs.declared.stack.Stack.{Stack}
use Rattle.lrpar_lexer_lrlex.specs.declared.states.Target as code
use Rattle.lrpar_lexer_lrlex.specs.LexingIn.{LexesIn, ReadsIn, patterns_in}
use Rattle.lrpar_lexer_lrlex.specs.LexingAllIn.{IsNextIn, LexesAllIn, LexesByStates}
use Rattle.lrpar_lexer_lrlex.specs.StateRules.{plain_state_rules}

module _ {S : Type 0} (index : S → ℕ) (rules : LrlexRules S) where
  -- these are the lexemes and errors that the rules give for the text
  abbrev pub AreLexemesIn : {A : Type 0} → List ℕ → Vec (Result (Token S) NoToken) A → Type 0
  AreLexemesIn text answers = LexesIn (plain_state_rules index rules) text 0 0 [] (plain_answers index answers.items)

  -- these are the lexemes that the rules give, with a token for what would be an error
  abbrev pub AreAllLexemesIn : {A : Type 0} → TIdx S → List ℕ → Vec (Result (Token S) NoToken) A → Type 0
  AreAllLexemesIn unmatched text answers =
      LexesAllIn (plain_state_rules index rules) (index unmatched.0) text 0 0 [] (plain_answers index answers.items)

  -- these are the lexemes and errors that the rules give for the text, with a token for what would be an error or without one
  abbrev pub AreLexemesByStates : Option (TIdx S) → List ℕ → List (Result (Token S) NoToken) → Type 0
  AreLexemesByStates unmatched text answers =
      LexesByStates (plain_state_rules index rules) (number_of index unmatched) text (plain_answers index answers)

  -- what comes at byte `at` has this token, or none, and this number of bytes, and makes the new stack of the old one
  abbrev pub ComesIn : TIdx S → List ℕ → ℕ → Stack → Stack → Option (TIdx S) × ℕ × Option code.Target → Type 0
  ComesIn unmatched text at old new next =
      IsNextIn (plain_state_rules index rules) (index unmatched.0) text at old.top old.below.items (number_of index next.0) next.1 new.top new.below.items

  -- of the rules that are active in the state the one that wins at byte `at`, with its number of bytes, if one matches there
  abbrev pub FindsActive : ℕ → List ℕ → ℕ → Option (ℕ × ℕ) → Type 0
  FindsActive state text at found =
      MatchOption found (NoneMatches (patterns_in (plain_state_rules index rules) state) (drop at text))
      (λ found. ReadsIn (plain_state_rules index rules) text state at found.0 found.1)
