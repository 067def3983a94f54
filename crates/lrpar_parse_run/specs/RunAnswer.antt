-- Parts of the answer of a run over valid lexemes: the lexeme of an error, whether there are errors, and the value of what the run
-- consumed.
use Rattle.std.specs.Prelude.{◌≡◌, ◌⊎◌, ℕ, List, [], ◌∷◌, map, slice_get, Option, Some, None, IsSome, MatchOption, Vec}
use Rattle.lrpar_grammar.specs.Grammar.{Grammar, Nonterminal, end_token}
use Rattle.lrpar_grammar.specs.Sentence.{LexemeFacts}
use Rattle.lrpar_grammar.specs.Tree.{Tree, Fits, leaves, productions}
use Rattle.lrpar_parse_errors.specs.Failure.{Failure}
use Rattle.lrpar_parse_lexemes.specs.Lexemes.{lexeme_past}
use Rattle.lrpar_parse_errors.specs.declared.errors.LexParseError.{LexParseError}
use Rattle.lrpar_parse_errors.specs.declared.errors.LexParseError.TheVariants.{ParseError}

-- the lexeme at place i; past the last one, the end lexeme, of which the token and the span are known, and that it is faulty
abbrev pub IsLexemeAt : {X : Type 0} → (X → LexemeFacts) → Grammar → List X → ℕ → X → Type 0
IsLexemeAt facts g lexemes i x = MatchOption (slice_get lexemes i) (facts x ≡ lexeme_past (end_token g) (map facts lexemes)) (λ y. x ≡ y)

-- the run accepts without an error; or it doesn't accept, and there is one parse error
abbrev pub IsOneWay : {S L B C Y : Type 0} → Option Y → List (LexParseError S L B C) → Type 0
IsOneWay {B = B} consumed errors =
    (IsSome consumed × (errors ≡ [])) ⊎ ((consumed ≡ None) × ((failure : Failure B) × (errors ≡ ParseError failure ∷ [])))

-- The value is that of a tree of the start rule whose leaves are these lexemes and whose productions are these. `Evaluates tree value`
-- says that the tree may have the value.
pub record IsValueOf {X V : Type 0} (token : X → ℕ) (g : Grammar) (Evaluates : Tree X → V → Type 0) (lexemes : List X) (prods : List ℕ) (value : V) : Type 0 where
  pub tree : Tree X
  pub fits : Fits token g tree (Nonterminal g.start)
  pub leaves_are : leaves tree ≡ lexemes
  pub productions_are : productions tree ≡ prods
  pub evaluates : Evaluates tree value

-- there is a value if and only if the run accepts: that of a tree over what it consumed, with its reductions as productions
abbrev pub HasValue : {X V F Z : Type 0} → (X → ℕ) → Grammar → (Tree X → V → Type 0) → Option (List X) → List ℕ → Option V × Vec F Z → Type 0
HasValue {V = V} token g Evaluates consumed prods answer =
    MatchOption consumed (answer.0 ≡ None) (λ xs. (value : V) × (answer.0 ≡ Some value) × IsValueOf token g Evaluates xs prods value)

-- for a call that returns no value: nothing is said about one
abbrev pub HasNoValue : {X T : Type 0} → Option (List X) → List ℕ → T → Type 0
HasNoValue consumed prods answer = Unit {0}
