-- What a caller concludes about a parse, for an answer of its lexer.
use Rattle.std.specs.Prelude.{◌≡◌, ◌⊎◌, List, None, Result}
use Rattle.lrpar_grammar.specs.Grammar.{Grammar}
use Rattle.lrpar_grammar.specs.Sentence.{IsValidList, LexemeFacts}
use Rattle.lrpar_parse.specs.Lexed.{first_error}
use Rattle.lrpar_parse.specs.Parse.{lexeme_facts}
use Rattle.lrpar_parse.specs.declared.fault.ParseFault.{ParseFault}
use Rattle.lrpar_parse.specs.declared.fault.ParseFault.TheVariants.{Memory}

-- this is true of an answer that the lexer may give
abbrev pub OfAnswer : {X E : Type 0} → (List (Result X E) → Type 0) → (List (Result X E) → Type 0) → Type 0
OfAnswer {X} {E} lexes Holds = (lexed : List (Result X E)) × lexes lexed × Holds lexed

-- there is no lexing error, and the list of lexemes isn't valid
pub record HasFaultyLexeme {X E : Type 0} (facts : X → LexemeFacts) (g : Grammar) (lexed : List (Result X E)) : Type 0 where
  pub no_error : first_error lexed ≡ None
  pub faulty : ¬ (IsValidList g (lexeme_facts facts lexed))

-- a parse returns a fault because memory ran out, or because a lexeme has a fault
abbrev pub IsDueRefusal : {X E : Type 0} → (X → LexemeFacts) → Grammar → (List (Result X E) → Type 0) → ParseFault → Type 0
IsDueRefusal facts g lexes fault = (fault ≡ Memory) ⊎ OfAnswer lexes (HasFaultyLexeme facts g)
