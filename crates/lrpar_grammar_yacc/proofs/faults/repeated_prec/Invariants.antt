use Rattle.std.proofs.Common.{◌≡◌, None, drop, map}
use Rattle.lrpar_grammar_yacc.specs.Declares.{prec_of}
use Rattle.lrpar_grammar_yacc.specs.Faults.{repeated_prec}
use Rattle.lrpar_grammar_yacc.proofs.faults.repeated_prec.Given as goal

-- the productions so far have one `%prec` each
abbrev pub invariant-loop-prec : goal.invariant-loop-prec
invariant-loop-prec l = repeated_prec None (map prec_of l.precs) ≡ repeated_prec l.before (map prec_of (drop l.prec-index l.precs))
