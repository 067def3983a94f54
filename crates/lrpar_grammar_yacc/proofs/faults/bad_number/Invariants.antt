use Rattle.std.proofs.Common.{◌≡◌, drop}
use Rattle.lrpar_grammar_yacc.specs.Faults.{bad_number}
use Rattle.lrpar_grammar_yacc.proofs.faults.bad_number.Given as goal

-- the parts so far have no bad number
abbrev pub invariant-loop-part : goal.invariant-loop-part
invariant-loop-part l = bad_number l.text l.parts ≡ bad_number l.text (drop l.part-index l.parts)
