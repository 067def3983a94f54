use Rattle.std.proofs.Common.{◌≡◌, take}
use Rattle.lrpar_grammar_typed.specs.Expanding.{Extends, IsSound}
use Rattle.lrpar_grammar_typed.specs.Expansion.{declared_start}
use Rattle.lrpar_grammar_typed.proofs.expand.Expander.declare.Given as goal

-- what the declarations so far give
abbrev pub invariant-loop-declaration : goal.invariant-loop-declaration
invariant-loop-declaration l = record {
  sound : IsSound l.self;
  extends : Extends l.initial.self l.self;
  start : l.start ≡ declared_start (take l.declaration-index l.declarations);
}
