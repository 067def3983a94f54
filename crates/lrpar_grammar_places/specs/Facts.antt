-- Lexemes as contracts see them.
use Rattle.std.specs.Prelude.{ℕ, Bool}
use Rattle.lrpar_grammar_places.specs.Span.{Extent}

-- all that a contract says about a lexeme: its token, its part of the text, and whether a repair made it
pub record LexemeFacts : Type 0 where
  pub token : ℕ
  pub span : Extent
  pub faulty : Bool
