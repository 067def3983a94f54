use Rattle.std.proofs.Common.{◌≡◌, length, take}
use Rattle.lrpar_names.specs.Choosing.{AreChosen, rule_numbers}
use Rattle.lrpar_names.proofs.choosing.choose_rules.Given as goal

-- the rules so far are chosen of those of the order so far
abbrev pub invariant-order : goal.invariant-order
invariant-order g l = record {
  room : length l.covered ≡ length l.fn.covered;
  chosen : AreChosen l.sets l.names l.wanted (rule_numbers g.StorageT.StorageIndex.index (take l.rule-index l.order))
      (rule_numbers g.StorageT.StorageIndex.index l.rules.items) l.covered;
}
