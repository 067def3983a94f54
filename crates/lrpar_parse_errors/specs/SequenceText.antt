-- The texts of repair sequences, over the bytes of the input. `names` says what is printed for a token: a name, or nothing.
use Rattle.std.specs.Prelude.{◌≡◌, if◌then◌else◌, ℕ, List, [], ◌∷◌, ◌++◌, codes, slice_range, Option, Some, None}
use Rattle.std.specs.List.{AllByRecursion, AllZip, flat_map, join_by}
use Rattle.lrpar_grammar_places.specs.Lines.{is_line_feed}
use Rattle.lrpar_grammar_places.specs.Span.{Extent, IsPartOf}
use Rattle.lrpar_parse_lexemes.specs.PrintedSequence.{Part, Inserts, Deletes, Shifts}
use Rattle.lrpar_parse_lexemes.specs.Repair.{Repair, Inserted, Deleted, Shifted}

-- a text on one line: each line feed prints as the two characters `\n`
abbrev pub on_one_line : List ℕ → List ℕ
on_one_line text = flat_map (λ byte. if is_line_feed byte then 92 ∷ 110 ∷ [] else byte ∷ []) text

-- the text of a part
abbrev pub IsPartText : (ℕ → Option (List ℕ) → Type 0) → List ℕ → Part → List ℕ → Type 0
IsPartText names input (Inserts t) text = (name : List ℕ) × names t (Some name) × (text ≡ codes "Insert " ++ name)
IsPartText names input (Deletes span) text = text ≡ codes "Delete " ++ on_one_line (slice_range input span.start span.end)
IsPartText names input (Shifts span) text = text ≡ codes "Shift " ++ on_one_line (slice_range input span.start span.end)

-- the text of parts: the parts' texts, joined by `, `
pub record IsPartsText (names : ℕ → Option (List ℕ) → Type 0) (input : List ℕ) (parts : List Part) (text : List ℕ) : Type 0 where
  pub texts : List (List ℕ)
  pub each : AllZip (IsPartText names input) parts texts
  pub is : text ≡ join_by (λ part. part) (codes ", ") texts

-- the part of the input that a repair names starts and ends between two characters of the input
abbrev pub RepairFits : {X : Type 0} → (X → Extent) → List ℕ → Repair X → Type 0
RepairFits span input (Inserted t) = Unit {0}
RepairFits span input (Deleted x) = IsPartOf input (span x)
RepairFits span input (Shifted x) = IsPartOf input (span x)

-- the part of the input that a printed part names starts and ends between two characters of the input
abbrev pub PartFits : List ℕ → Part → Type 0
PartFits input (Inserts t) = Unit {0}
PartFits input (Deletes span) = IsPartOf input span
PartFits input (Shifts span) = IsPartOf input span

-- the parts of the input that the repairs of a sequence name start and end between two characters of the input
abbrev pub RepairsFit : {X : Type 0} → (X → Extent) → List ℕ → List (Repair X) → Type 0
RepairsFit span input repairs = AllByRecursion (RepairFits span input) repairs

-- the token that a part would insert
abbrev pub inserted_by : Part → List ℕ
inserted_by (Inserts t) = t ∷ []
inserted_by (Deletes span) = []
inserted_by (Shifts span) = []

-- the tokens that a list of parts would insert, in order
abbrev pub inserted : List Part → List ℕ
inserted parts = flat_map inserted_by parts

-- t is the first of the tokens for which nothing is printed: each token before it has a name
pub record IsFirstUnnamed (names : ℕ → Option (List ℕ) → Type 0) (tokens : List ℕ) (t : ℕ) : Type 0 where
  pub before : List ℕ
  pub after : List ℕ
  pub at : tokens ≡ before ++ t ∷ after
  pub named : AllByRecursion (λ u. (name : List ℕ) × names u (Some name)) before
  pub unnamed : names t None
