-- The places of faults in a text.
use Rattle.std.specs.Prelude.{Option, Some, None}
use Rattle.lrpar_grammar_places.specs.declared.span.Span.{Span}
use Rattle.lrpar_lexer_lrlex.specs.declared.fault.LrlexFault.{LrlexFault}
use Rattle.lrpar_lexer_lrlex.specs.declared.fault.LrlexFault.TheVariants.{Declaration, Flag, Header, Memory, NoName, NoPattern, NoRules, OpenQuote, OpenState, Pattern, RepeatedState, StateName, UnknownState, UnknownToken}

-- the place of a fault, if it has one
abbrev pub place_of : LrlexFault → Option Span
place_of (Header place) = Some place
place_of (Flag place) = Some place
place_of (Declaration place) = Some place
place_of (StateName place) = Some place
place_of (RepeatedState place) = Some place
place_of (OpenState place) = Some place
place_of (NoPattern place) = Some place
place_of (OpenQuote place) = Some place
place_of (NoName place) = Some place
place_of (UnknownState place) = Some place
place_of (UnknownToken place) = Some place
place_of (Pattern place error) = Some place
place_of NoRules = None
place_of Memory = None
