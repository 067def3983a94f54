-- The repair sequences of a parse error as they are stored.
use denote.Ref.{Bor}
use Rattle.std.specs.Prelude.{◌≡◌, ℕ, Vec}
use Rattle.lrpar_parse_lexemes.specs.Repairs.{repairs_of}
use Rattle.lrpar_parse_lexemes.specs.declared.repairs.ParseRepair.{ParseRepair}
use Rattle.lrpar_parse_errors.specs.Failure.{Failure}

-- the error lists these sequences
abbrev pub HasRepairs : {X S A B : Type 0} → (S → ℕ) → Vec (Vec (ParseRepair X S) B) A → Failure X → Type 0
HasRepairs index sequences e = e.repairs ≡ repairs_of index sequences.items

-- these are the sequences that the error lists
abbrev pub AreRepairsOf : {X S A B : Type 0} → (S → ℕ) → Failure X → Bor (Vec (Vec (ParseRepair X S) B) A) → Type 0
AreRepairsOf index e sequences = repairs_of index sequences.now.items ≡ e.repairs
