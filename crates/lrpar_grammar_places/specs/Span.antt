-- Parts of a text.
use Rattle.std.specs.Prelude.{ℕ, List}
use Rattle.std.specs.Str.{IsCharBoundary}

-- the bytes of a text from `start` up to, and not including, `end`
pub record Extent : Type 0 where
  pub start : ℕ
  pub end : ℕ

-- the empty part at the start of every text: the place of things that no text spells
abbrev pub nowhere : Extent
nowhere = record { start = 0; end = 0 }

-- the part starts and ends in the text, each between two characters
pub record IsPartOf (src : List ℕ) (span : Extent) : Type 0 where
  pub start : IsCharBoundary src span.start
  pub end : IsCharBoundary src span.end
