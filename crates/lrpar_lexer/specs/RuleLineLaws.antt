-- A law of lines that read as rules.
use Rattle.std.specs.Prelude.{◌≡◌, ℕ, List, Option}
use Rattle.lrpar_lexer.specs.RuleLines.{ReadsAs}

-- a line reads as at most one pattern and one name, or no name
abbrev pub LinesReadOneWay : Type 0
LinesReadOneWay =
    (line a b : List ℕ) (name other : Option (List ℕ)) → ReadsAs line a name → ReadsAs line b other → (a ≡ b) × (name ≡ other)
