use Rattle.std.proofs.Common.{◌≡◌, List, map, take}
use Rattle.std.specs.List.{AllZip}
use Rattle.regex.specs.Patterns.{Re}
use Rattle.lrpar_lexer.specs.Anchored.{FindsAtStart}
use Rattle.lrpar_lexer.specs.Matching.{Improves}
use Rattle.lrpar_lexer.specs.Searches.{program_of}
use Rattle.lrpar_lexer.proofs.matching.keep_best.Given as goal

-- the rules so far were compared
abbrev pub invariant-rules : goal.invariant-rules
invariant-rules l = record {
  same : map program_of l.matchers.items ≡ map program_of l.fn.matchers.items;
  best : (patterns : List Re) → AllZip FindsAtStart (map program_of l.fn.matchers.items) patterns
      → Improves patterns l.rest (take l.rule-index l.rules) l.fn.so_far l.best;
}
