-- Entries with their spans, on the stack of a parse with actions.
use Rattle.std.specs.Prelude.{◌≡◌, List, Option}
use Rattle.lrpar_grammar_places.specs.Span.{Extent}
use Rattle.lrpar_parse_lexemes.specs.PlacedSpans.{arguments_of, span_before, span_over, spans_of}
use Rattle.lrpar_parse_lexemes.specs.declared.placed.Placed.{Placed}
use Rattle.lrpar_parse_run.specs.declared.values.AStackType.{AStackType}
use Rattle.lrpar_parse_run.specs.declared.values.AStackType.TheVariants.{ActionType, Lexeme}

-- the entry is a lexeme with its span
pub record IsPlacedLexeme {X V : Type 0} (span : X → Extent) (x : X) (e : Placed (AStackType X V)) : Type 0 where
  pub lies : e.span ≡ span x
  pub is : e.argument ≡ Lexeme x

-- The entry is a value over the entries `es`, to the right of `before`. `acts span args v`: a production with this span may have the
-- value v over these arguments.
pub record IsPlacedValue {X V : Type 0} (acts : Extent → List (AStackType X V) → V → Type 0) (before : Option (Placed (AStackType X V))) (es : List (Placed (AStackType X V))) (e : Placed (AStackType X V)) : Type 0 where
  pub value : V
  pub lies : e.span ≡ span_over (span_before before) (spans_of es)
  pub acted : acts e.span (arguments_of es) value
  pub is : e.argument ≡ ActionType value
