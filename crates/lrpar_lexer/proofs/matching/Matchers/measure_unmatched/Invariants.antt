use Rattle.std.proofs.Common.{◌≡◌, ◌+◌, ◌-◌, ◌<◌, ◌≤◌, List, length, option_map}
use Rattle.std.specs.List.{AllZip}
use Rattle.regex.specs.Patterns.{Re}
use Rattle.lrpar_lexer.specs.Anchored.{FindsAtStart}
use Rattle.lrpar_lexer.specs.Matchers.{programs_of}
use Rattle.lrpar_lexer.specs.Matching.{AreIndices, tried_of}
use Rattle.lrpar_lexer.proofs.UnmatchedLemmas.{NoneLater}
use Rattle.lrpar_lexer.proofs.matching.Matchers.measure_unmatched.Given as goal

-- no pattern that is tried matches at a later character of the run so far
abbrev pub invariant-run : goal.invariant-run
invariant-run l = record {
  same : programs_of l.self ≡ programs_of l.fn.self;
  some : 0 < l.len;
  within : l.at + l.len ≤ length l.text;
  later : (patterns : List Re) → AllZip FindsAtStart (programs_of l.fn.self) patterns → AreIndices patterns (option_map (λ c. c.now) l.chosen)
      → NoneLater (tried_of patterns (option_map (λ c. c.now) l.chosen)) l.text l.at l.len;
}

abbrev pub decreases-run : goal.decreases-run
decreases-run l = length l.text - (l.at + l.len)
