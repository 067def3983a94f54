use Rattle.std.proofs.Common.{◌≡◌, ◌<◌, ℕ, [], Some}
use Rattle.std.specs.List.{slice_get}
use Rattle.lrpar_grammar_typed.specs.Expanding.{IsDeclared}
use Rattle.lrpar_grammar_typed.specs.Expansion.{IsDefined, IsFirst}
use Rattle.lrpar_grammar_typed.specs.declared.file.Rule.{Rule}
use Rattle.lrpar_grammar_typed.proofs.expand.Expander.declare_rules.Given as goal

-- the definitions so far have their rules
abbrev pub invariant-loop-rule : goal.invariant-loop-rule
invariant-loop-rule l = record {
  declared : IsDeclared l.self;
  text : l.self.text.now ≡ l.initial.self.text.now;
  defined : (k : ℕ) (d : Rule) → k < l.rule-index → slice_get l.rules k ≡ Some d → IsDefined l.initial.self.text.now l.self.grammar d.name;
  none : l.rule-index ≡ 0 → l.self.grammar.rules.items ≡ [];
  first : (d : Rule) → 0 < l.rule-index → slice_get l.rules 0 ≡ Some d → IsFirst l.initial.self.text.now l.self.grammar d.name;
}
