use Rattle.std.proofs.Common.{◌≡◌, length, take}
use Rattle.lrpar_lexer.specs.RuleLines.{text_lines}
use Rattle.lrpar_lexer.specs.RuleTexts.{AreRulesOf}
use Rattle.lrpar_lexer.proofs.rules.rules_of.Given as goal

-- the lines so far are counted, and the rules so far are their rules
abbrev pub invariant-lines : goal.invariant-lines
invariant-lines g l = record {
  number : l.number ≡ length l.yielded;
  rules : AreRulesOf g.StorageT.StorageIndex.index l.grm (take l.number (text_lines l.text)) l.rules.items;
}
