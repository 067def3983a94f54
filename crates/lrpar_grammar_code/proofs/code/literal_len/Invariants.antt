use Rattle.std.proofs.Common.{◌≡◌, false, drop}
use Rattle.lrpar_grammar_code.specs.Code.{literal_len, more}
use Rattle.lrpar_grammar_code.proofs.code.literal_len.Given as goal

-- neither a quote nor the line's end is before
abbrev pub invariant-loop-i : goal.invariant-loop-i
invariant-loop-i l = literal_len l.quote false l.text ≡ more l.i (literal_len l.quote l.escaped (drop l.i l.text))
