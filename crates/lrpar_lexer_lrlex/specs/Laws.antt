-- Laws of rules with start states.
use Rattle.std.specs.Prelude.{◌≡◌, ◌↔◌, ℕ, false, List, [], All, length, get_or, Option, None, Result, IsOk}
use Rattle.lrpar_lexer.specs.LexingAll.{LexesBy}
use Rattle.lrpar_lexer.specs.declared.token.Token.{Token}
use Rattle.lrpar_lexer.specs.declared.token.NoToken.{NoToken}
use Rattle.lrpar_lexer_lrlex.specs.LexingIn.{LexesIn}
use Rattle.lrpar_lexer_lrlex.specs.LexingAllIn.{LexesAllIn, LexesByStates}
use Rattle.lrpar_lexer_lrlex.specs.StateRules.{Starts, StateRules}

-- the rule has no states in front, and no target
abbrev pub HasNoStates : Starts → Type 0
HasNoStates start = (start.states ≡ []) × (start.target ≡ None)

-- rules without states and targets give what the same rules give without start states, with a token for unmatched characters or without one
abbrev pub LexesAsRules : Type 0
LexesAsRules =
    (rules : StateRules) (unmatched : Option ℕ) (text : List ℕ) (answers : List (Result (Token ℕ) NoToken)) → length rules.starts ≡ length rules.rules
    → get_or rules.exclusive 0 false ≡ false → All HasNoStates rules.starts → LexesByStates rules unmatched text answers ↔ LexesBy rules.rules unmatched text answers

-- from each place on, and with each stack, a text has at most one list of lexemes and errors
abbrev pub LexesInOneWay : Type 0
LexesInOneWay =
    (rules : StateRules) (text : List ℕ) (at top : ℕ) (below : List ℕ) (a b : List (Result (Token ℕ) NoToken))
    → LexesIn rules text at top below a → LexesIn rules text at top below b → a ≡ b

-- with a token for unmatched characters each text has a list of lexemes and errors
abbrev pub LexesEachTextIn : Type 0
LexesEachTextIn =
    (rules : StateRules) (unmatched : ℕ) (text : List ℕ)
    → (answers : List (Result (Token ℕ) NoToken)) × LexesAllIn rules unmatched text 0 0 [] answers

-- from each place on, and with each stack, a text has at most one list of `LexesAllIn`
abbrev pub LexesAllInOneWay : Type 0
LexesAllInOneWay =
    (rules : StateRules) (unmatched : ℕ) (text : List ℕ) (at top : ℕ) (below : List ℕ) (a b : List (Result (Token ℕ) NoToken))
    → LexesAllIn rules unmatched text at top below a → LexesAllIn rules unmatched text at top below b → a ≡ b

-- a list of `LexesAllIn` has no error
abbrev pub LexesAllInAsLexemes : Type 0
LexesAllInAsLexemes =
    (rules : StateRules) (unmatched : ℕ) (text : List ℕ) (at top : ℕ) (below : List ℕ) (answers : List (Result (Token ℕ) NoToken))
    → LexesAllIn rules unmatched text at top below answers → All (λ answer. IsOk answer) answers

-- if a list of `LexesIn` has no error, it is the list of `LexesAllIn`
abbrev pub LexesAllInAsRules : Type 0
LexesAllInAsRules =
    (rules : StateRules) (unmatched : ℕ) (text : List ℕ) (at top : ℕ) (below : List ℕ) (answers : List (Result (Token ℕ) NoToken))
    → LexesIn rules text at top below answers → All (λ answer. IsOk answer) answers → LexesAllIn rules unmatched text at top below answers
