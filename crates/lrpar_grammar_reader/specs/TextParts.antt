-- The parts of a grammar as they are stored, and the words of the text that spell them.
use Rattle.std.specs.Prelude.{◌≡◌, ℕ, List, Vec, map}
use Rattle.lrpar_grammar_places.specs.Span.{Extent}
use Rattle.lrpar_grammar_places.specs.declared.span.Symbol.{Symbol}
use Rattle.lrpar_grammar_words.specs.declared.outline.Alternative.{Alternative}
use Rattle.lrpar_grammar_words.specs.declared.outline.Outline.{Outline}
use Rattle.lrpar_grammar_words.specs.declared.words.Word.{Word}
use Rattle.lrpar_grammar_words.specs.Outline.{alternative_of, outline_of}
use Rattle.lrpar_grammar_words.specs.Words.{placed}
use Rattle.lrpar_grammar_reader.specs.declared.parts.GrammarFault.{GrammarFault}
use Rattle.lrpar_grammar_reader.specs.declared.parts.GrammarParts.{GrammarParts}
use Rattle.lrpar_grammar_reader.specs.declared.parts.ProdPart.{ProdPart}
use Rattle.lrpar_grammar_reader.specs.declared.parts.RulePart.{RulePart}
use Rattle.lrpar_grammar_reader.specs.declared.parts.TokenPart.{TokenPart}
use Rattle.lrpar_grammar_reader.specs.declared.tables.Tables.{Tables}
use Rattle.lrpar_grammar_reader.specs.Parts.{grammar_of, parts_of, prod_of, rule_name_of, token_name_of}
use Rattle.lrpar_grammar_reader.specs.SpansFit.{SpansFit}
use Rattle.lrpar_grammar_reader.specs.Spells.{Spells, prod_of_alternative, rule_of_word, spelled_parts, symbol_of_word, token_of_word}
use Rattle.lrpar_grammar_reader.specs.Symbols.{symbol_of}
use Rattle.lrpar_grammar_reader.specs.TextNames.{AreSpelled, IsRefusedAs, numbering_by}

-- the text spells the grammar that the parts make
abbrev pub AreSpelledBy : {S : Type 0} → (S → ℕ) → List ℕ → GrammarParts S → Type 0
AreSpelledBy index text parts = Spells text (grammar_of (parts_of index parts))

-- the places of the grammar that the parts make fit the text
abbrev pub HavePlacesIn : {S : Type 0} → (S → ℕ) → List ℕ → GrammarParts S → Type 0
HavePlacesIn index text parts = SpansFit (grammar_of (parts_of index parts)) text

-- the outline is clean, these are its parts, and they make a grammar
abbrev pub ArePartsOf : {S : Type 0} → (S → ℕ) → ℕ → Outline → GrammarParts S → Type 0
ArePartsOf index limit outline parts = AreSpelled limit (outline_of outline) (parts_of index parts)

-- why the outline makes no grammar
abbrev pub RefusesOutline : ℕ → Outline → GrammarFault → Type 0
RefusesOutline limit outline fault = IsRefusedAs limit (outline_of outline) fault

-- these are the parts of the outline
abbrev pub AreSpelledParts : {S : Type 0} → (S → ℕ) → Outline → GrammarParts S → Type 0
AreSpelledParts index outline parts = parts_of index parts ≡ spelled_parts (outline_of outline)

-- the word makes this rule
abbrev pub IsRuleOf : Word → RulePart → Type 0
IsRuleOf word part = rule_name_of part ≡ rule_of_word (placed word)

-- the words make these rules
abbrev pub AreRulesOf : {A : Type 0} → List Word → Vec RulePart A → Type 0
AreRulesOf words parts = map rule_name_of parts.items ≡ map rule_of_word (map placed words)

-- the word makes this token, with its printed text from the outline
abbrev pub IsTokenOf : Outline → Word → TokenPart → Type 0
IsTokenOf outline word part = token_name_of part ≡ token_of_word (outline_of outline) (placed word)

-- the words make these tokens
abbrev pub AreTokensOf : {A : Type 0} → Outline → List Word → Vec TokenPart A → Type 0
AreTokensOf outline words parts = map token_name_of parts.items ≡ map (token_of_word (outline_of outline)) (map placed words)

-- the alternative makes this production
abbrev pub IsProdOf : {S : Type 0} → (S → ℕ) → Tables → Alternative → ProdPart S → Type 0
IsProdOf index tables alternative part = prod_of index part ≡ prod_of_alternative (numbering_by tables) (alternative_of alternative)

-- the alternatives make these productions
abbrev pub AreProdsOf : {S A : Type 0} → (S → ℕ) → Tables → List Alternative → Vec (ProdPart S) A → Type 0
AreProdsOf index tables alternatives parts =
    map (prod_of index) parts.items ≡ map (prod_of_alternative (numbering_by tables)) (map alternative_of alternatives)

-- the words represent these symbols
abbrev pub RepresentEach : {S A : Type 0} → (S → ℕ) → Tables → List Word → Vec (Symbol S × Extent) A → Type 0
RepresentEach index tables words pairs =
    map (λ pair. symbol_of index pair.0) pairs.items ≡ map (symbol_of_word (numbering_by tables)) (map placed words)

-- the symbols have the places of the words
abbrev pub ArePlacedAs : {S A : Type 0} → List Word → Vec (Symbol S × Extent) A → Type 0
ArePlacedAs words pairs = map (λ pair. pair.1) pairs.items ≡ map (λ w. w.span) (map placed words)
