-- The parts of a lexeme, and where lexemes of a list start and end.
use Rattle.std.specs.Prelude.{ℕ, ◌+◌, ◌-◌, Bool, false, true, List, length, slice_get}
use Rattle.std.specs.Option.{option_map_or}
use Rattle.lrpar_grammar_places.specs.Span.{Extent}
use Rattle.lrpar_grammar_places.specs.Facts.{LexemeFacts}

-- a lexeme's token, its span, and whether a repair made it
pub record LexemeParts (S : Type 0) : Type 0 where
  pub token : S
  pub span : Extent
  pub faulty : Bool

-- a lexeme's parts, with a number for its token
abbrev pub facts_of : {S : Type 0} → (S → ℕ) → LexemeParts S → LexemeFacts
facts_of index x = record { token = index x.token; span = x.span; faulty = x.faulty }

-- the parts of a lexeme of `len` bytes from byte `start` on
abbrev pub lexeme_parts : {S : Type 0} → S → ℕ → ℕ → Bool → LexemeParts S
lexeme_parts token start len faulty = record { token = token; span = record { start = start; end = start + len }; faulty = faulty }

-- the parts of such a lexeme that no repair made, and of one that a repair made
abbrev pub lexeme_at : {S : Type 0} → S → ℕ → ℕ → LexemeParts S
lexeme_at token start len = lexeme_parts token start len false

abbrev pub faulty_at : {S : Type 0} → S → ℕ → ℕ → LexemeParts S
faulty_at token start len = lexeme_parts token start len true

-- where the last lexeme ends; 0 if there is none
abbrev pub last_end : List LexemeFacts → ℕ
last_end lexemes = option_map_or (λ x. x.span.end) (slice_get lexemes (length lexemes - 1)) 0

-- the end lexeme: it has this token, is empty where the last lexeme ends, and is faulty
abbrev pub lexeme_past : ℕ → List LexemeFacts → LexemeFacts
lexeme_past token lexemes = record { token = token; span = record { start = last_end lexemes; end = last_end lexemes }; faulty = true }

-- where lexeme i starts; past the last lexeme, where that one ends
abbrev pub start_at : List LexemeFacts → ℕ → ℕ
start_at lexemes i = option_map_or (λ x. x.span.start) (slice_get lexemes i) (last_end lexemes)

-- the lexeme that is inserted at place i: it has this token, is empty where lexeme i starts, and is faulty
abbrev pub inserted_at : ℕ → List LexemeFacts → ℕ → LexemeFacts
inserted_at token lexemes i = record { token = token; span = record { start = start_at lexemes i; end = start_at lexemes i }; faulty = true }
