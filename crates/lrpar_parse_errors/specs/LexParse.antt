-- A lexing error or a parse error.
use Rattle.lrpar_parse_errors.specs.Failure.{Failure}
use Rattle.lrpar_parse_errors.specs.declared.errors.LexParseError.{LexParseError}
use Rattle.lrpar_parse_errors.specs.declared.errors.LexParseError.TheVariants.{LexError, ParseError}

-- what one function gives for a lexing error, or another one for a parse error
abbrev pub lex_parse_of : {S L B C Y : Type 0} → (C → Y) → (Failure B → Y) → LexParseError S L B C → Y
lex_parse_of of_lexing of_parsing (LexError e) = of_lexing e
lex_parse_of of_lexing of_parsing (ParseError e) = of_parsing e
