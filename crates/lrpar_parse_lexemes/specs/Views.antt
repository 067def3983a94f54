-- Lexemes of the program as contracts see them. `parts` gives the parts of a lexeme, and `index` the number of a value of the
-- storage type.
use Rattle.std.specs.Prelude.{◌≡◌, ℕ, List, map}
use Rattle.lrpar_grammar_places.specs.Span.{Extent}
use Rattle.lrpar_grammar_places.specs.Facts.{LexemeFacts}
use Rattle.lrpar_grammar_places.specs.declared.span.TIdx.{TIdx}
use Rattle.lrpar_parse_lexemes.specs.Lexemes.{LexemeParts, facts_of, lexeme_past}

-- a lexeme's token by number, its span, and whether it is faulty
abbrev pub facts_by : {S X : Type 0} → (S → ℕ) → (X → LexemeParts S) → X → LexemeFacts
facts_by index parts x = facts_of index (parts x)

-- the number of a lexeme's token
abbrev pub token_by : {S X : Type 0} → (S → ℕ) → (X → LexemeParts S) → X → ℕ
token_by index parts x = index (parts x).token

-- a lexeme's span
abbrev pub span_by : {S X : Type 0} → (X → LexemeParts S) → X → Extent
span_by parts x = (parts x).span

-- the facts of each lexeme of a list
abbrev pub known : {S X : Type 0} → (S → ℕ) → (X → LexemeParts S) → List X → List LexemeFacts
known index parts lexemes = map (λ x. facts_of index (parts x)) lexemes

-- the lexeme is the end lexeme of the list: it has the end token, is empty where the last lexeme ends, and is faulty
abbrev pub IsEndLexeme : {S X : Type 0} → (S → ℕ) → (X → LexemeParts S) → TIdx S → List X → X → Type 0
IsEndLexeme index parts end lexemes x = facts_by index parts x ≡ lexeme_past (index end.0) (known index parts lexemes)
