-- The places of faults in `.y` files that are read as bison reads them: the spans of the labels of their reports.
use Rattle.std.specs.Prelude.{◌≡◌, ◌<◌, ◌≤◌, ◌+◌, ◌∷◌, ℕ, List, [], length, Option, IfSome}
use Rattle.std.specs.Option.{option_to_list}
use Rattle.lrpar_grammar_places.specs.Span.{Extent}
use Rattle.lrpar_grammar_bison.specs.declared.words.Unread.{Unread}
use Rattle.lrpar_grammar_bison.specs.declared.words.Unread.TheVariants.{Byte, Character, Code, Comment, Label, Predicate, Prologue, Tag, Text}
use Rattle.lrpar_grammar_bison_parts.specs.declared.faults.BisonFault.{BisonFault}
use Rattle.lrpar_grammar_bison_parts.specs.declared.faults.BisonFault.TheVariants.{BadNumber, Grammar, Memory, NotEmpty, RepeatedEmpty, RepeatedNumber, RepeatedPrec, RepeatedPrecedence, Rules}
use Rattle.lrpar_grammar_bison_rules.specs.declared.rules.RulesFault.{RulesFault}
use Rattle.lrpar_grammar_bison_rules.specs.declared.rules.RulesFault.TheVariants.{End, Memory as RulesMemory, Unexpected, Unread as UnreadAt}
use Rattle.lrpar_grammar_reader.specs.declared.parts.GrammarFault.{GrammarFault}
use Rattle.lrpar_grammar_reader.specs.declared.parts.GrammarFault.TheVariants.{TokenIsRule}
use Rattle.lrpar_report.specs.FaultPlaces.{AreGrammarSpans, IsOne}

-- the length in bytes of the sign that opens this, and of a byte with which nothing begins
abbrev pub opening_len : Unread → ℕ
opening_len Comment = 2
opening_len Prologue = 2
opening_len Predicate = 2
opening_len Character = 1
opening_len Text = 1
opening_len Code = 1
opening_len Tag = 1
opening_len Label = 1
opening_len Byte = 1

-- the sign that opens this at a place of the text
pub record IsOpening (text : List ℕ) (place : ℕ) (what : Unread) (span : Extent) : Type 0 where
  pub start : span.start ≡ place
  pub end : place ≤ length text → span.end ≡ place + opening_len what

-- a span that starts where a word does, and ends in it; only that of an empty word is empty
pub record IsFrontOf (word : Extent) (span : Extent) : Type 0 where
  pub start : span.start ≡ word.start
  pub end : span.end ≤ word.end
  pub some : word.start < word.end → span.start < span.end

-- the empty part at the end of the text
abbrev pub end_of : List ℕ → Extent
end_of text = record { start = length text; end = length text }

-- The spans of a fault of the words of a file, and of their order: the sign that opens what isn't closed, or a byte with which nothing
-- begins; the word that isn't allowed, or its front; or the end of the text. If memory was refused there is no report.
abbrev pub AreRulesSpans : List ℕ → RulesFault → List Extent → Type 0
AreRulesSpans text (UnreadAt place what) spans = IsOne (IsOpening text place what) spans
AreRulesSpans text (Unexpected span expected) spans = IsOne (IsFrontOf span) spans
AreRulesSpans text (End expected) spans = spans ≡ end_of text ∷ []
AreRulesSpans text RulesMemory spans = ⊥

-- the span of a word, and perhaps that of an earlier word, which ends before it
abbrev pub AreWithEarlier : Extent → List Extent → Type 0
AreWithEarlier span spans = (place : Option Extent) × (spans ≡ span ∷ option_to_list place) × IfSome place (λ earlier. earlier.end ≤ span.start)

-- the spans of a fault of what declarations and rules say: those of such a fault in a grammar text; and perhaps the place where the token
-- is declared whose name a rule has
abbrev pub AreNamesSpans : List ℕ → GrammarFault → List Extent → Type 0
AreNamesSpans text (TokenIsRule span) spans = AreWithEarlier span spans
AreNamesSpans text fault spans = AreGrammarSpans text fault spans

-- The spans of a fault in a `.y` file: those of a fault of its words and their order, or of what its declarations and rules say; or that of
-- the word in question. Of a token in two levels of precedence, perhaps the first place is there, too.
abbrev pub AreBisonSpans : List ℕ → BisonFault → List Extent → Type 0
AreBisonSpans text (Rules fault) spans = AreRulesSpans text fault spans
AreBisonSpans text (RepeatedPrec span) spans = spans ≡ span ∷ []
AreBisonSpans text (RepeatedEmpty span) spans = spans ≡ span ∷ []
AreBisonSpans text (NotEmpty span) spans = spans ≡ span ∷ []
AreBisonSpans text (BadNumber span) spans = spans ≡ span ∷ []
AreBisonSpans text (RepeatedNumber span) spans = spans ≡ span ∷ []
AreBisonSpans text (RepeatedPrecedence span) spans = AreWithEarlier span spans
AreBisonSpans text (Grammar fault) spans = AreNamesSpans text fault spans
AreBisonSpans text Memory spans = ⊥
