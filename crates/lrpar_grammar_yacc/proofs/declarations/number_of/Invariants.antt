use Rattle.std.proofs.Common.{◌≡◌, drop}
use Rattle.lrpar_grammar_yacc.specs.Declares.{number_from, number_of}
use Rattle.lrpar_grammar_yacc.proofs.declarations.number_of.Given as goal

-- the number so far goes on with the other digits
abbrev pub invariant-loop-digit : goal.invariant-loop-digit
invariant-loop-digit l = number_of l.digits ≡ number_from l.number (drop l.digit-index l.digits)
