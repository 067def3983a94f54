use Rattle.std.proofs.Common.{◌≡◌, ◌≤◌, ◌-◌, drop, length}
use Rattle.lrpar_grammar_code.specs.Code.{run_len, more}
use Rattle.lrpar_grammar_code.proofs.code.run_len.Given as goal

-- the run doesn't end before
abbrev pub invariant-loop-place : goal.invariant-loop-place
invariant-loop-place l = record {
  within : l.place ≤ length l.code;
  few : l.depth ≤ l.place;
  len : run_len l.run 0 0 l.code ≡ more l.place (run_len l.run l.depth 0 (drop l.place l.code));
}

abbrev pub decreases-loop-place : goal.decreases-loop-place
decreases-loop-place l = length l.code - l.place
