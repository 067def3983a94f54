-- The rules of values, and what holds of values: generated from a grammar.
use Rattle.std.specs.Prelude.{ℕ, IfSome}
use Rattle.std.specs.List.{All}
use Rattle.lrpar_grammar_typed.specs.declared.syntax.RuleValue.{RuleValue}
use Rattle.lrpar_grammar_typed.specs.declared.syntax.RuleValue.TheVariants.{File, Declaration, Rule, Alternative, Label, Part, Item, Repeat, Symbol, Name, HEADEROption, DeclarationList, RuleList, SymbolSome, NameSome, AlternativeByOr, PartList, LabelOption}

-- the rule of a value
abbrev pub rule_of : RuleValue → ℕ
rule_of (File v) = 1
rule_of (Declaration v) = 2
rule_of (Rule v) = 3
rule_of (Alternative v) = 4
rule_of (Label v) = 5
rule_of (Part v) = 6
rule_of (Item v) = 7
rule_of (Repeat v) = 8
rule_of (Symbol v) = 9
rule_of (Name v) = 10
rule_of (HEADEROption v) = 11
rule_of (DeclarationList v) = 12
rule_of (RuleList v) = 13
rule_of (SymbolSome v) = 14
rule_of (NameSome v) = 15
rule_of (AlternativeByOr v) = 16
rule_of (PartList v) = 17
rule_of (LabelOption v) = 18

-- what holds of a value, by what actions show: of a list, what holds of its items, and of an option, what holds of what is there
abbrev pub HoldsOf : (RuleValue → Type 0) → RuleValue → Type 0
HoldsOf holds (File v) = holds (File v)
HoldsOf holds (Declaration v) = holds (Declaration v)
HoldsOf holds (Rule v) = holds (Rule v)
HoldsOf holds (Alternative v) = holds (Alternative v)
HoldsOf holds (Label v) = holds (Label v)
HoldsOf holds (Part v) = holds (Part v)
HoldsOf holds (Item v) = holds (Item v)
HoldsOf holds (Repeat v) = holds (Repeat v)
HoldsOf holds (Symbol v) = holds (Symbol v)
HoldsOf holds (Name v) = holds (Name v)
HoldsOf holds (HEADEROption v) = Unit {0}
HoldsOf holds (DeclarationList v) = All (λ x. holds (Declaration x)) v.items
HoldsOf holds (RuleList v) = All (λ x. holds (Rule x)) v.items
HoldsOf holds (SymbolSome v) = All (λ x. holds (Symbol x)) v.items
HoldsOf holds (NameSome v) = All (λ x. holds (Name x)) v.items
HoldsOf holds (AlternativeByOr v) = All (λ x. holds (Alternative x)) v.items
HoldsOf holds (PartList v) = All (λ x. holds (Part x)) v.items
HoldsOf holds (LabelOption v) = IfSome v (λ x. holds (Label x))
