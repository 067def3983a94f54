-- The rules of values, and what holds of values: generated from a grammar.
use Rattle.std.specs.Prelude.{ℕ, IfSome}
use Rattle.std.specs.List.{All}
use Rattle.examples.specs.declared.syntax.RuleValue.{RuleValue}
use Rattle.examples.specs.declared.syntax.RuleValue.TheVariants.{File, Statement, Query, Stage, Expr, And, Comparison, Sum, Product, Atom, FileGroup, FileGroupList, StageList, ExprByComma}

-- the rule of a value
abbrev pub rule_of : RuleValue → ℕ
rule_of (File v) = 1
rule_of (Statement v) = 2
rule_of (Query v) = 3
rule_of (Stage v) = 4
rule_of (Expr v) = 5
rule_of (And v) = 6
rule_of (Comparison v) = 7
rule_of (Sum v) = 8
rule_of (Product v) = 9
rule_of (Atom v) = 10
rule_of (FileGroup v) = 11
rule_of (FileGroupList v) = 12
rule_of (StageList v) = 13
rule_of (ExprByComma v) = 14

-- what holds of a value, by what actions show: of a list, what holds of its items, and of an option, what holds of what is there
abbrev pub HoldsOf : (RuleValue → Type 0) → RuleValue → Type 0
HoldsOf holds (File v) = All (λ x. holds (Statement x)) v.items
HoldsOf holds (Statement v) = holds (Statement v)
HoldsOf holds (Query v) = holds (Statement v)
HoldsOf holds (Stage v) = holds (Stage v)
HoldsOf holds (Expr v) = holds (Expr v)
HoldsOf holds (And v) = holds (Expr v)
HoldsOf holds (Comparison v) = holds (Expr v)
HoldsOf holds (Sum v) = holds (Expr v)
HoldsOf holds (Product v) = holds (Expr v)
HoldsOf holds (Atom v) = holds (Expr v)
HoldsOf holds (FileGroup v) = holds (Statement v)
HoldsOf holds (FileGroupList v) = All (λ x. holds (Statement x)) v.items
HoldsOf holds (StageList v) = All (λ x. holds (Stage x)) v.items
HoldsOf holds (ExprByComma v) = All (λ x. holds (Expr x)) v.items
