-- What a repair sequence does to the lexemes: which ones it consumes, and how an error lists it.
use Rattle.std.specs.Prelude.{◌≡◌, ◌+◌, ℕ, List, [], ◌∷◌, map, slice_get, Some}
use Rattle.lrpar_grammar.specs.Sentence.{LexemeFacts}
use Rattle.lrpar_parse_lexemes.specs.Repair.{Repair, Inserted, Deleted, Shifted}
use Rattle.lrpar_parse_lexemes.specs.Lexemes.{inserted_at}
use Rattle.lrpar_parse_repair.specs.Sequences.{PlainStep, PlainInsert, PlainDelete, PlainShift}

-- from place i the steps consume these lexemes, in order: for each Insert the inserted one, and for each Shift the next one
abbrev pub Consumes : {X : Type 0} → (X → LexemeFacts) → List X → ℕ → List PlainStep → List X → Type 0
Consumes facts lexemes i [] xs = xs ≡ []
Consumes facts lexemes i (PlainInsert t ∷ steps) [] = ⊥
Consumes facts lexemes i (PlainInsert t ∷ steps) (x ∷ xs) = (facts x ≡ inserted_at t (map facts lexemes) i) × Consumes facts lexemes i steps xs
Consumes facts lexemes i (PlainDelete ∷ steps) xs = Consumes facts lexemes (i + 1) steps xs
Consumes facts lexemes i (PlainShift ∷ steps) [] = ⊥
Consumes facts lexemes i (PlainShift ∷ steps) (x ∷ xs) = (slice_get lexemes i ≡ Some x) × Consumes facts lexemes (i + 1) steps xs

-- the repairs that an error lists for the steps, each Delete and Shift with its own lexeme of those that are left
abbrev pub repairs_over : {X : Type 0} → List X → List PlainStep → List (Repair X)
repairs_over left [] = []
repairs_over left (PlainInsert t ∷ steps) = Inserted t ∷ repairs_over left steps
repairs_over [] (PlainDelete ∷ steps) = []
repairs_over (x ∷ left) (PlainDelete ∷ steps) = Deleted x ∷ repairs_over left steps
repairs_over [] (PlainShift ∷ steps) = []
repairs_over (x ∷ left) (PlainShift ∷ steps) = Shifted x ∷ repairs_over left steps
