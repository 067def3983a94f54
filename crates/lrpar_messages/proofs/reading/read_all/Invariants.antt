use Rattle.lrpar_messages.specs.Messages.{AreApart, messages_of}
use Rattle.lrpar_messages.proofs.reading.read_all.Given as goal

-- no two messages so far are for the same states
abbrev pub invariant-loop-entry : goal.invariant-loop-entry
invariant-loop-entry g l = AreApart l.data.graph (messages_of g.StorageT.StorageIndex.index l.messages.items)
