use Rattle.std.proofs.Common.{take}
use Rattle.std.specs.List.{All}
use Rattle.lrpar_lexer.specs.ListPlaces.{FitsText}
use Rattle.lrpar_lexer.proofs.list_places.first_misplaced.Given as goal

-- the answers so far fit the text
abbrev pub invariant-loop-place : goal.invariant-loop-place
invariant-loop-place g l = All (FitsText l.text) (take l.place l.answers)
