-- The rules of values, and what holds of values: generated from a grammar.
use Rattle.std.specs.Prelude.{ℕ, IfSome}
use Rattle.std.specs.List.{All}
use Rattle.example_project.specs.declared.syntax.RuleValue.{RuleValue}
use Rattle.example_project.specs.declared.syntax.RuleValue.TheVariants.{File, Setting, Number, SettingList}

-- the rule of a value
abbrev pub rule_of : RuleValue → ℕ
rule_of (File v) = 1
rule_of (Setting v) = 2
rule_of (Number v) = 3
rule_of (SettingList v) = 4

-- what holds of a value, by what actions show: of a list, what holds of its items, and of an option, what holds of what is there
abbrev pub HoldsOf : (RuleValue → Type 0) → RuleValue → Type 0
HoldsOf holds (File v) = All (λ x. holds (Setting x)) v.items
HoldsOf holds (Setting v) = holds (Setting v)
HoldsOf holds (Number v) = holds (Number v)
HoldsOf holds (SettingList v) = All (λ x. holds (Setting x)) v.items
