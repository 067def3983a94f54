use Rattle.std.proofs.Common.{◌≡◌, map, take}
use Rattle.lrpar_grammar.specs.Matching.{IsMatched, prods_of, texts_of}
use Rattle.lrpar_grammar.specs.Spelled.{SpellEach}
use Rattle.lrpar_grammar.proofs.grammar.spelled.match_texts.Given as goal

-- the texts so far are at their productions
abbrev pub invariant-loop-place : goal.invariant-loop-place
invariant-loop-place l = record {
  matched : IsMatched l.matching;
  prods : prods_of l.matching ≡ prods_of l.initial.matching;
  spell : SpellEach l.names (take l.place (map (λ text. text.now) l.texts)) (texts_of l.matching);
}
