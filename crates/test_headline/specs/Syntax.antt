-- The rules of values, and what holds of values: generated from a grammar.
use Rattle.std.specs.Prelude.{ℕ, IfSome}
use Rattle.std.specs.List.{All}
use Rattle.test_headline.specs.declared.syntax.RuleValue.{RuleValue}
use Rattle.test_headline.specs.declared.syntax.RuleValue.TheVariants.{Percents, Percent, PercentByComma}

-- the rule of a value
abbrev pub rule_of : RuleValue → ℕ
rule_of (Percents v) = 1
rule_of (Percent v) = 2
rule_of (PercentByComma v) = 3

-- what holds of a value, by what actions show: of a list, what holds of its items, and of an option, what holds of what is there
abbrev pub HoldsOf : (RuleValue → Type 0) → RuleValue → Type 0
HoldsOf holds (Percents v) = All (λ x. holds (Percent x)) v.items
HoldsOf holds (Percent v) = holds (Percent v)
HoldsOf holds (PercentByComma v) = All (λ x. holds (Percent x)) v.items
