-- The places of a grammar fit a text: the text that it was read from, or one with the same places.
use Rattle.std.specs.Prelude.{◌≡◌, ◌≢◌, ◌≤◌, ℕ, List, [], All, length, slice_range}
use Rattle.std.specs.List.{AllAdjacentBelow}
use Rattle.lrpar_grammar_places.specs.Span.{Extent, IsPartOf}
use Rattle.lrpar_grammar_reader.specs.Grammar.{Grammar, Production}

-- the part lies in the text, and no line feed is in it
pub record IsPartOfLine (src : List ℕ) (span : Extent) : Type 0 where
  pub part : IsPartOf src span
  pub line : All (λ byte. byte ≢ 10) (slice_range src span.start span.end)

-- each part ends at or before the start of the next
abbrev pub AreSpansInOrder : List Extent → Type 0
AreSpansInOrder spans = AllAdjacentBelow (λ a b. a.end ≤ b.start) spans (length spans)

-- the places of a production: its own, which is on one line if it has no symbols, and those of its symbols, each on one line
pub record ProductionFits (src : List ℕ) (p : Production) : Type 0 where
  pub span : IsPartOf src p.span
  pub empty : p.symbols ≡ [] → IsPartOfLine src p.span
  pub symbols : All (IsPartOfLine src) p.symbol_spans
  pub order : AreSpansInOrder p.symbol_spans

-- the places of all rules and tokens lie in the text
pub record NamesFit (g : Grammar) (src : List ℕ) : Type 0 where
  pub rules : All (λ r. IsPartOf src r.span) g.rules
  pub tokens : All (λ t. IsPartOf src t.span) g.tokens

-- all places of the grammar lie in the text
pub record SpansFit (g : Grammar) (src : List ℕ) : Type 0 where
  pub names : NamesFit g src
  pub prods : All (ProductionFits src) g.prods
