use Rattle.std.proofs.Common.{take}
use Rattle.lrpar_grammar_typed.specs.Expanding.{Extends, IsSound}
use Rattle.lrpar_grammar_typed.specs.Expansion.{AreAlternatives, AreParts}
use Rattle.lrpar_grammar_typed.proofs.expand.Expander.+groups.Given as goal

-- the alternatives so far
abbrev pub invariant-expand_prods-loop-alternative : goal.invariant-expand_prods-loop-alternative
invariant-expand_prods-loop-alternative l = record {
  sound : IsSound l.self;
  extends : Extends l.initial.self l.self;
  prods : AreAlternatives l.self.text.now l.self.grammar (take l.alternative-index l.alternatives) l.prods.items;
}

-- the parts so far
abbrev pub invariant-expand_parts-loop-part : goal.invariant-expand_parts-loop-part
invariant-expand_parts-loop-part l = record {
  sound : IsSound l.self;
  extends : Extends l.initial.self l.self;
  symbols : AreParts l.self.text.now l.self.grammar (take l.part-index l.parts) l.symbols.items;
}
