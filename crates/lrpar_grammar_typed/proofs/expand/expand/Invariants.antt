use Rattle.std.proofs.Common.{take}
use Rattle.lrpar_grammar_typed.specs.Expanding.{IsExpanded}
use Rattle.lrpar_grammar_typed.proofs.expand.expand.Given as goal

-- what the definitions so far mean is there
abbrev pub invariant-loop-rule : goal.invariant-loop-rule
invariant-loop-rule l = IsExpanded l.text l.file.rules.items (take l.rule-index l.file.rules.items) l.expander
