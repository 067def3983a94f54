-- How the places of a grammar fit a text, as the crate below defines it.
pub use Rattle.lrpar_grammar_places.specs.Span.{IsPartOf}
pub use Rattle.lrpar_grammar_reader.specs.SpansFit.{IsPartOfLine, AreSpansInOrder, ProductionFits, NamesFit, SpansFit}
