use Rattle.std.proofs.Common.{◌++◌, ℕ, List, length}
use Rattle.std.specs.String.{string_bytes}
use Rattle.lrpar_conflict_examples.specs.ExamplesFit.{ExamplesFit}
use Rattle.lrpar_conflict_examples.specs.Texts.{AreExampleTexts}
use Rattle.lrpar_conflict_examples.proofs.text.format_examples.Given as goal

-- with any text of the examples that are left, the text so far is one of all
abbrev pub invariant-loop-example : goal.invariant-loop-example
invariant-loop-example g l =
    ExamplesFit l.grm l.rest
    × ((text : List ℕ) → AreExampleTexts l.grm l.rest text → AreExampleTexts l.grm l.examples (string_bytes l.out ++ text))

abbrev pub decreases-loop-example : goal.decreases-loop-example
decreases-loop-example g l = length l.rest
