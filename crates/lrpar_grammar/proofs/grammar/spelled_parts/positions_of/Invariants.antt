use Rattle.std.proofs.Common.{map, take}
use Rattle.lrpar_grammar.specs.SpelledParts.{AreIndexesInParts}
use Rattle.lrpar_grammar.proofs.grammar.spelled_parts.positions_of.Given as goal

-- the places of the parts so far
abbrev pub invariant-loop-part : goal.invariant-loop-part
invariant-loop-part l = AreIndexesInParts (take l.part (map (λ texts. map (λ text. text.now) texts.now) l.parts)) l.places.items
