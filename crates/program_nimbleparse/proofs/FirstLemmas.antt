-- The first of some counterexamples fit a grammar, if all do.
use Rattle.std.proofs.Common.{ℕ, zero, suc, List, [], ◌∷◌, take}
use Rattle.lrpar_grammar.specs.Grammar.{Grammar}
use Rattle.lrpar_conflict_examples.specs.Conflicts.{ConflictExampleOf}
use Rattle.lrpar_conflict_examples.specs.ExamplesFit.{ExamplesFit}

pub first_fit : (g : Grammar) (n : ℕ) (examples : List ConflictExampleOf) → ExamplesFit g examples → ExamplesFit g (take n examples)
first_fit g zero [] fit = tt
first_fit g zero (x ∷ xs) fit = tt
first_fit g (suc n) [] fit = tt
first_fit g (suc n) (x ∷ xs) fit = (fit.0, first_fit g n xs fit.1)
