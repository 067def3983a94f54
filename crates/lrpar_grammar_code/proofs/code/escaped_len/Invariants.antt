use Rattle.std.proofs.Common.{◌≡◌, false, drop}
use Rattle.lrpar_grammar_code.specs.Code.{escaped_len, more}
use Rattle.lrpar_grammar_code.proofs.code.escaped_len.Given as goal

-- no quote ends the text before
abbrev pub invariant-loop-i : goal.invariant-loop-i
invariant-loop-i l = escaped_len l.quote false l.text ≡ more l.i (escaped_len l.quote l.escaped (drop l.i l.text))
