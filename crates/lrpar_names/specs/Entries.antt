-- The lines of a messages file: `NAME: WORDS`.
use Rattle.std.specs.Prelude.{ℕ, Option, Some, None, option_map, Result, Ok, Err}
use Rattle.lrpar_names.specs.declared.fault.NamesFault.{NamesFault}
use Rattle.lrpar_names.specs.declared.fault.NamesFault.TheVariants.{Unread}
use Rattle.lrpar_names.specs.declared.entry.Entry as code
use Rattle.lrpar_names.specs.declared.part.Part as code_part
use Rattle.lrpar_names.specs.Parts.{Part, after_byte, after_cut, before_cut, plain, span_of, trimmed}

-- what a line says: a name, and words
pub record Entry : Type 0 where
  pub name : Part
  pub words : Part

abbrev pub plain_entry : code.Entry → Entry
plain_entry entry = record { name = plain entry.name; words = plain entry.words }

abbrev pub plain_halves : code_part.Part × Option code_part.Part → Part × Option Part
plain_halves (name, rest) = (plain name, option_map (λ p. plain p) rest)

-- the name between two quotes, and what comes after the second one, if there is one
abbrev pub cut_at : ℕ → Part → Part × Option Part
cut_at byte part = (before_cut byte part, after_cut byte part)

-- what comes after a colon, which may have blanks before it
abbrev pub after_colon : Option Part → Option Part
after_colon None = None
after_colon (Some rest) = after_byte 58 (trimmed rest)

-- a name in quotes of this kind, and what comes after its colon
abbrev pub quoted_halves : ℕ → Part → Part × Option Part
quoted_halves quote inner = (before_cut quote inner, after_colon (after_cut quote inner))

-- the name of a line, and what comes after its colon, if the line has both: a name in single or in double quotes ends at the next such
-- quote, and any other at the first colon
abbrev pub halves_by : Part → Option Part → Option Part → Part × Option Part
halves_by line (Some inner) double = quoted_halves 39 inner
halves_by line None (Some inner) = quoted_halves 34 inner
halves_by line None None = (trimmed (before_cut 58 line), after_cut 58 line)

abbrev pub halves : Part → Part × Option Part
halves line = halves_by line (after_byte 39 line) (after_byte 34 line)

abbrev pub entry_by : Part → Part × Option Part → Result Entry NamesFault
entry_by line (name, None) = Err (Unread (span_of line))
entry_by line (name, Some rest) = Ok (record { name = name; words = trimmed rest })

-- what a line says, without what is white around its words
abbrev pub entry_of : Part → Result Entry NamesFault
entry_of line = entry_by line (halves line)
