-- The parts of a repair sequence, as it is printed.
use Rattle.std.specs.Prelude.{◌==◌, if◌then◌else◌, ℕ, List, [], ◌∷◌}
use Rattle.lrpar_grammar_places.specs.Span.{Extent}
use Rattle.lrpar_parse_lexemes.specs.Repair.{Repair, Inserted, Deleted, Shifted}

-- a part of a printed sequence: a token to insert, or a part of the input to delete or to shift
pub data Part : Type 0 where
  Inserts : (token : ℕ) → Part
  Deletes : (span : Extent) → Part
  Shifts : (span : Extent) → Part

-- a deletion before other parts: joined with the first of these, if that is a deletion that starts at the byte where this one ends
abbrev pub joined : Extent → List Part → List Part
joined a [] = Deletes a ∷ []
joined a (Inserts t ∷ parts) = Deletes a ∷ Inserts t ∷ parts
joined a (Shifts b ∷ parts) = Deletes a ∷ Shifts b ∷ parts
joined a (Deletes b ∷ parts) =
    if a.end == b.start then Deletes (record { start = a.start; end = b.end }) ∷ parts else Deletes a ∷ Deletes b ∷ parts

-- the parts of a sequence
abbrev pub parts_of : {X : Type 0} → (X → Extent) → List (Repair X) → List Part
parts_of span [] = []
parts_of span (Inserted t ∷ repairs) = Inserts t ∷ parts_of span repairs
parts_of span (Deleted x ∷ repairs) = joined (span x) (parts_of span repairs)
parts_of span (Shifted x ∷ repairs) = Shifts (span x) ∷ parts_of span repairs
