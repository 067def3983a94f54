-- Percentages.
use Rattle.std.specs.Prelude.{◌≤◌, ℕ, Vec}
use Rattle.std.specs.List.{All}
use Rattle.test_headline.specs.declared.syntax.RuleValue.{RuleValue}
use Rattle.test_headline.specs.declared.syntax.RuleValue.TheVariants.{Percent, PercentByComma, Percents}

-- a percentage is at most 100
abbrev pub IsPercentage : RuleValue → Type 0
IsPercentage (Percents v) = Unit {0}
IsPercentage (Percent v) = v ≤ 100
IsPercentage (PercentByComma v) = Unit {0}

-- each number of the list is at most 100
abbrev pub ArePercentages : {A : Type 0} → Vec ℕ A → Type 0
ArePercentages numbers = All (λ n. n ≤ 100) numbers.items
