-- The arguments from which a value is made: each is a lexeme or a value. During the parse a value may be an error, which is carried up.
use Rattle.std.specs.Prelude.{◌≡◌, List, [], ◌∷◌, Option, Some, None, IfNone, IfSome, Result, Ok, Err}
use Rattle.lrpar_grammar_places.specs.Span.{Extent}
use Rattle.lrpar_parse_run.specs.declared.values.AStackType.{AStackType}
use Rattle.lrpar_parse_run.specs.declared.values.AStackType.TheVariants.{ActionType, Lexeme}

-- the lexer, the span of the production, and the arguments that are left, from left to right
pub record ValueArguments (L X V : Type 0) : Type 0 where
  pub lexer : L
  pub span : Extent
  pub left : List (AStackType X V)

-- the first error among the arguments, if there is one
abbrev pub first_failure : {X V E : Type 0} → List (AStackType X (Result V E)) → Option E
first_failure [] = None
first_failure (Lexeme x ∷ args) = first_failure args
first_failure (ActionType (Ok v) ∷ args) = first_failure args
first_failure (ActionType (Err e) ∷ args) = Some e

-- the arguments but the errors: the lexemes, and the values as they are
abbrev pub given_of : {X V E : Type 0} → List (AStackType X (Result V E)) → List (AStackType X V)
given_of [] = []
given_of (Lexeme x ∷ args) = Lexeme x ∷ given_of args
given_of (ActionType (Ok v) ∷ args) = ActionType v ∷ given_of args
given_of (ActionType (Err e) ∷ args) = given_of args

-- the next argument is a value
abbrev pub IsValueNext : {X V : Type 0} → List (AStackType X V) → Type 0
IsValueNext [] = ⊥
IsValueNext (Lexeme x ∷ args) = ⊥
IsValueNext (ActionType v ∷ args) = Unit {0}

-- the next argument is a lexeme
abbrev pub IsLexemeNext : {X V : Type 0} → List (AStackType X V) → Type 0
IsLexemeNext [] = ⊥
IsLexemeNext (Lexeme x ∷ args) = Unit {0}
IsLexemeNext (ActionType v ∷ args) = ⊥

-- the lexer and the span stay
abbrev pub KeepsPlace : {L X V : Type 0} → ValueArguments L X V → ValueArguments L X V → Type 0
KeepsPlace old new = (new.lexer ≡ old.lexer) × (new.span ≡ old.span)

-- the value, if there is one, is the next argument, which is taken
abbrev pub TakesValue : {L X V : Type 0} → ValueArguments L X V → ValueArguments L X V → Option V → Type 0
TakesValue old new result = IfSome result (λ value. old.left ≡ ActionType value ∷ new.left)

-- if no value is returned, the next argument isn't one, and nothing is taken
abbrev pub LacksValue : {L X V : Type 0} → ValueArguments L X V → ValueArguments L X V → Option V → Type 0
LacksValue old new result = IfNone result ((new ≡ old) × ¬ (IsValueNext old.left))

-- the lexeme, if there is one, is the next argument, which is taken
abbrev pub TakesLexeme : {L X V : Type 0} → ValueArguments L X V → ValueArguments L X V → Option X → Type 0
TakesLexeme old new result = IfSome result (λ lexeme. old.left ≡ Lexeme lexeme ∷ new.left)

-- if no lexeme is returned, the next argument isn't one, and nothing is taken
abbrev pub LacksLexeme : {L X V : Type 0} → ValueArguments L X V → ValueArguments L X V → Option X → Type 0
LacksLexeme old new result = IfNone result ((new ≡ old) × ¬ (IsLexemeNext old.left))
