use Rattle.std.proofs.Common.{◌≡◌, ◌<◌, List, drop, map, vec_len}
use Rattle.std.specs.List.{AllZip}
use Rattle.regex.specs.Patterns.{Re}
use Rattle.lrpar_lexer.specs.Anchored.{FindsAtStart}
use Rattle.lrpar_lexer.specs.Matching.{IsOfPattern}
use Rattle.lrpar_lexer.specs.Searches.{program_of}
use Rattle.lrpar_lexer.proofs.WalkLemmas.{AreCovered}
use Rattle.lrpar_lexer.proofs.matching.find_winner_met.Given as goal

-- the patterns that the rest of the walk doesn't meet were compared
abbrev pub invariant-walk : goal.invariant-walk
invariant-walk l = record {
  same : map program_of l.matchers.items ≡ map program_of l.fn.matchers.items;
  within : l.node < vec_len l.tree.nodes;
  real : (patterns : List Re) → AllZip FindsAtStart (map program_of l.fn.matchers.items) patterns → IsOfPattern patterns l.rest l.best;
  covered : (patterns : List Re) → AllZip FindsAtStart (map program_of l.fn.matchers.items) patterns
      → AreCovered l.tree.nodes.items patterns l.rest l.node (drop l.byte-index (drop 1 l.rest)) l.best;
}
