use Rattle.std.proofs.Common.{◌≡◌, ◌≤◌, false, drop}
use Rattle.lrpar_grammar_code.specs.Code.{more}
use Rattle.lrpar_grammar_bison.specs.Words.{tag_len}
use Rattle.lrpar_grammar_bison.proofs.words.tag_len.Given as goal

-- the tag doesn't end before
abbrev pub invariant-loop-i : goal.invariant-loop-i
invariant-loop-i l = record {
  few : l.depth ≤ l.i;
  len : tag_len 0 false l.text ≡ more l.i (tag_len l.depth l.dashed (drop l.i l.text));
}
