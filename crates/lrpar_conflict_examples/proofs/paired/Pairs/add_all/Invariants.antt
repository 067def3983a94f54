use Rattle.std.proofs.Common.{◌≡◌, length, take}
use Rattle.lrpar_conflict_examples.specs.Pairs.{AddsAll}
use Rattle.lrpar_conflict_examples.proofs.paired.Pairs.add_all.Given as goal

abbrev pub invariant-loop-pair : goal.invariant-loop-pair
invariant-loop-pair l = (length l.self.rows.items ≡ length l.initial.self.rows.items) × AddsAll (take l.pair-index l.pairs) l.initial.self l.self
