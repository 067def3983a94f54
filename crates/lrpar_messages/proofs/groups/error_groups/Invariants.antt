use Rattle.lrpar_messages.specs.Groups.{numbers_of}
use Rattle.lrpar_messages.proofs.KernelLemmas.{AreFirstsBelow}
use Rattle.lrpar_messages.proofs.groups.error_groups.Given as goal

-- the first states so far
abbrev pub invariant-loop-number : goal.invariant-loop-number
invariant-loop-number g l = AreFirstsBelow l.data.graph l.stops (numbers_of g.StorageT.StorageIndex.index l.firsts.items) l.number
