use Rattle.std.proofs.Common.{◌≡◌, drop}
use Rattle.lrpar_grammar_code.specs.Code.{raw_len, more}
use Rattle.lrpar_grammar_code.proofs.code.raw_len.Given as goal

-- no quote ends the text before
abbrev pub invariant-loop-i : goal.invariant-loop-i
invariant-loop-i l = raw_len l.hashes l.text ≡ more l.i (raw_len l.hashes (drop l.i l.text))
