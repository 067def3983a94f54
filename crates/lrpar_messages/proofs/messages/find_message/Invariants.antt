use Rattle.lrpar_messages.specs.Messages.{MessageOf, messages_of}
use Rattle.lrpar_messages.proofs.KernelLemmas.{NoneSoFar}
use Rattle.lrpar_messages.proofs.messages.find_message.Given as goal

-- none so far is for the state
abbrev pub invariant-loop-message : goal.invariant-loop-message
invariant-loop-message g l =
    let index = g.StorageT.StorageIndex.index in
    NoneSoFar (λ (m : MessageOf). m.state) l.sgraph (messages_of index l.messages) l.message-index (index l.state.0)
