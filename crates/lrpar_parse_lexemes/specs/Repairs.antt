-- Repairs of the program as the definitions see them. `index` gives the number of a value of the storage type.
use Rattle.std.specs.Prelude.{◌≡◌, ◌++◌, ℕ, pos, Bool, List, map, Vec}
use Rattle.std.specs.Hash as fed
use Rattle.lrpar_parse_lexemes.specs.Repair.{Repair, Inserted, Deleted, Shifted, repair_eq}
use Rattle.lrpar_parse_lexemes.specs.declared.repairs.ParseRepair.{ParseRepair}
use Rattle.lrpar_parse_lexemes.specs.declared.repairs.ParseRepair.TheVariants.{Insert, Delete, Shift}

-- a repair as it is stored, with its token by number
abbrev pub repair_of : {X S : Type 0} → (S → ℕ) → ParseRepair X S → Repair X
repair_of index (Insert token) = Inserted (index token.0)
repair_of index (Delete lexeme) = Deleted lexeme
repair_of index (Shift lexeme) = Shifted lexeme

-- two repairs are equal by `eq` as `repair_eq` says, over the equality `lexeme_eq` of lexemes
abbrev pub ComparesRepairs : {X S : Type 0} → (S → ℕ) → (X → X → Bool) → (ParseRepair X S → ParseRepair X S → Bool) → Type 0
ComparesRepairs {X = X} {S = S} index lexeme_eq eq =
    (x y : ParseRepair X S) → eq x y ≡ repair_eq lexeme_eq (repair_of index x) (repair_of index y)

-- repair sequences as they are stored, with their tokens by number
abbrev pub repairs_of : {X S A : Type 0} → (S → ℕ) → List (Vec (ParseRepair X S) A) → List (List (Repair X))
repairs_of index sequences = map (λ sequence. map (repair_of index) sequence.items) sequences

-- what a repair's hash feeds the hasher: 0 for an insertion, 1 for a deletion and 2 for a shift, and then the token's number or
-- the lexeme
abbrev pub repair_input : {X S : Type 0} → (S → List (List ℕ)) → (X → List (List ℕ)) → ParseRepair X S → List (List ℕ)
repair_input number lexeme (Insert token) = fed.isize (pos 0) ++ number token.0
repair_input number lexeme (Delete deleted) = fed.isize (pos 1) ++ lexeme deleted
repair_input number lexeme (Shift shifted) = fed.isize (pos 2) ++ lexeme shifted
