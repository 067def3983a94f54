use Rattle.std.proofs.Common.{◌≡◌, take}
use Rattle.lrpar_grammar_yacc.specs.Declares.{declarations_of, declared_by}
use Rattle.lrpar_grammar_yacc.proofs.declarations.Declarations.of_parts.Given as goal

-- what the parts so far declare
abbrev pub invariant-loop-part : goal.invariant-loop-part
invariant-loop-part l = declarations_of l.declarations ≡ declared_by l.text (take l.part-index l.parts)
