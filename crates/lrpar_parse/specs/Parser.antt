-- Parsers as contracts see them, and what they parse.
use Rattle.std.specs.Prelude.{◌≡◌, ℕ, List}
use Rattle.lrpar_parse_lexemes.specs.Lexemes.{LexemeParts}
use Rattle.lrpar_table_check.specs.Checked.{Checked}
use Rattle.lrpar_parse_lexemes.specs.Views.{facts_by}
use Rattle.lrpar_parse_repair.specs.Sequences.{PlainStep}
use Rattle.lrpar_parse_repair.specs.Asked.{Asked, allowed_at}
use Rattle.lrpar_parse_run.specs.Subject.{Subject}

-- the checked table, the recoverer that is called at an error, and how many lexemes must follow a repair
pub record Parser (R : Type 0) : Type 0 where
  pub checked : Checked
  pub recoverer : R
  pub shifts : ℕ

-- the parser with another recoverer
abbrev pub with_recoverer : {R Q : Type 0} → Parser R → Q → Parser Q
with_recoverer parser recoverer = record { checked = parser.checked; recoverer = recoverer; shifts = parser.shifts }

-- the parser is the old one, except that this number of lexemes must follow a repair
abbrev pub IsWithShifts : {R : Type 0} → Parser R → ℕ → Parser R → Type 0
IsWithShifts parser count = λ new. new ≡ record parser { shifts = count }

-- the parser is as it was
abbrev pub IsUnchanged : {R : Type 0} → Parser R → Parser R → Type 0
IsUnchanged parser = λ new. new ≡ parser

-- what the parser's parses are about; `parts` gives the parts of a lexeme, and `allows` says which answers a recoverer may give
abbrev pub subject : {S X R : Type 0} → (S → ℕ) → (X → LexemeParts S) → (R → Asked X → List (List PlainStep) → Type 0) → Parser R → Subject X
subject index parts allows parser =
    record {
      checked = parser.checked;
      facts = facts_by index parts;
      allows = allowed_at (allows parser.recoverer) parser.checked parser.shifts;
      shifts = parser.shifts;
    }
