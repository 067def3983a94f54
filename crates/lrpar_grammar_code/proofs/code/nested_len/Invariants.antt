use Rattle.std.proofs.Common.{◌≡◌, ◌≤◌, false, drop}
use Rattle.lrpar_grammar_code.specs.Code.{nested_len, more}
use Rattle.lrpar_grammar_code.proofs.code.nested_len.Given as goal

-- the comment doesn't end before
abbrev pub invariant-loop-i : goal.invariant-loop-i
invariant-loop-i l = record {
  few : l.depth ≤ l.i;
  len : nested_len 0 false l.text ≡ more l.i (nested_len l.depth l.paired (drop l.i l.text));
}
