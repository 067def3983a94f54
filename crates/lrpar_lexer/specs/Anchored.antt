-- What a pattern finds at the start of a text.
use Rattle.std.specs.Prelude.{◌≡◌, ℕ, ◌==◌, List, length, Option, Some, None, if◌then◌else◌, option_map, IsUtf8}
use Rattle.regex.specs.Patterns.{Config, Re, Reads, Start, cat, empty, find_str, look, span}
use Rattle.regex_hir.specs.Meaning.{meaning}
use Rattle.regex_hir.specs.Re.{accept, attempt}
use Rattle.regex_hir.specs.Text.{has_bytes_at}
use Rattle.regex_hir.specs.declared.hir.Hir.{Hir}
use Rattle.regex_meta.specs.Programs.{leftmost, pattern_of}
use Rattle.regex_meta.specs.declared.program.Program.{Program}
use Rattle.regex_syntax.specs.Grammar.{Names}

-- the span, if it begins at 0
abbrev pub if_at_start : Option (ℕ × ℕ) → Option (ℕ × ℕ)
if_at_start None = None
if_at_start (Some s) = if s.0 == 0 then Some s else None

-- in each text the program finds what the pattern finds, if that begins at 0, and nothing otherwise
abbrev pub FindsAtStart : Program → Re → Type 0
FindsAtStart program pattern = (text : List ℕ) → IsUtf8 text
    → option_map span (leftmost program text 0) ≡ if_at_start (option_map span (find_str pattern text 0))

-- at the start of each text the program finds the bytes, and nothing if the text doesn't begin with them
abbrev pub FindsText : Program → List ℕ → Type 0
FindsText program bytes = (text : List ℕ)
    → option_map span (leftmost program text 0) ≡ (if has_bytes_at text 0 bytes then Some (0, length bytes) else None)

-- the pattern after an assertion that the text starts there
abbrev pub after_start : Re → Re
after_start pattern = cat (look Start) (cat pattern empty)

-- the pattern in what `after_start` gives
abbrev pub without_start : Re → Re
without_start (cat first (cat pattern rest)) = pattern
without_start _ = empty

-- the program searches, at the start of a text, for the pattern that the grammar of patterns reads in the source with these options
pub record IsAfterStart (config : Config) (source : List ℕ) (program : Program) : Type 0 where
  pub tree : Hir
  pub names : Names
  pub read : Reads config source tree names
  pub after : pattern_of program ≡ after_start (meaning tree)

-- the pattern matches nothing at the start of the text
abbrev pub HasNothingAtStart : Re → List ℕ → Type 0
HasNothingAtStart pattern text = attempt text pattern accept 0 ≡ None
