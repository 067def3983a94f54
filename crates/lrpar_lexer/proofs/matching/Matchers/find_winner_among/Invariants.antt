use Rattle.std.proofs.Common.{◌≡◌, ◌<◌, List, length}
use Rattle.std.specs.List.{All, AllZip}
use Rattle.regex.specs.Patterns.{Re}
use Rattle.lrpar_lexer.specs.Anchored.{FindsAtStart}
use Rattle.lrpar_lexer.specs.Marks.{AreMarked}
use Rattle.lrpar_lexer.specs.Matching.{IsOfPattern, chosen_of}
use Rattle.lrpar_lexer.specs.Matchers.{programs_of}
use Rattle.lrpar_lexer.proofs.ChosenLemmas.{AreCoveredBelow}
use Rattle.lrpar_lexer.proofs.matching.Matchers.find_winner_among.Given as goal

-- the chosen patterns so far were compared
abbrev pub invariant-chosen : goal.invariant-chosen
invariant-chosen l = record {
  same : programs_of l.self ≡ programs_of l.fn.self;
  marked : AreMarked l.self.tree.nodes.items l.rest l.self.marks.marks.items;
  real : (patterns : List Re) → AllZip FindsAtStart (programs_of l.fn.self) patterns → All (λ index. index < length patterns) l.chosen
      → IsOfPattern (chosen_of patterns l.chosen) l.rest l.best;
  covered : (patterns : List Re) → AllZip FindsAtStart (programs_of l.fn.self) patterns → All (λ index. index < length patterns) l.chosen
      → AreCoveredBelow (chosen_of patterns l.chosen) l.rest l.place l.best;
}
