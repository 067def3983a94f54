use Rattle.std.proofs.Common.{take}
use Rattle.lrpar_grammar_typed.specs.Expanding.{Extends, IsSound}
use Rattle.lrpar_grammar_typed.specs.Expansion.{AreRepeated}
use Rattle.lrpar_grammar_typed.proofs.expand.Expander.repeat.Given as goal

-- the repeats so far
abbrev pub invariant-loop-repeat : goal.invariant-loop-repeat
invariant-loop-repeat l = record {
  sound : IsSound l.self;
  extends : Extends l.initial.self l.self;
  repeated : AreRepeated l.self.text.now l.self.grammar l.fn.symbol (take l.repeat-index l.repeats) l.repeated;
}
