-- Parts of printed sequences of the program, as the definitions see them.
use Rattle.std.specs.Prelude.{ℕ, List, map}
use Rattle.lrpar_grammar_places.specs.Span.{Extent}
use Rattle.lrpar_parse_lexemes.specs.Repairs.{repair_of}
use Rattle.lrpar_parse_lexemes.specs.PrintedSequence as texts
use Rattle.lrpar_parse_lexemes.specs.declared.repairs.ParseRepair.{ParseRepair}
use Rattle.lrpar_parse_lexemes.specs.declared.printed_parts.Part.{Part}
use Rattle.lrpar_parse_lexemes.specs.declared.printed_parts.Part.TheVariants.{Insert, Delete, Shift}

-- a printed part as it is stored, with its token by number
abbrev pub part_of : {S : Type 0} → (S → ℕ) → Part S → texts.Part
part_of index (Insert token) = texts.Inserts (index token.0)
part_of index (Delete span) = texts.Deletes span
part_of index (Shift span) = texts.Shifts span

-- the parts of a sequence
abbrev pub sequence_parts : {X S : Type 0} → (S → ℕ) → (X → Extent) → List (ParseRepair X S) → List texts.Part
sequence_parts index span repairs = texts.parts_of span (map (repair_of index) repairs)
