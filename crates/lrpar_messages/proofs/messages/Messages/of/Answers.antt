use Rattle.std.proofs.Common.{subst}
use Rattle.lrpar_messages.specs.Messages.{HasNoMessage, messages_of}
use Rattle.lrpar_messages.proofs.messages.Messages.of.Goals as goal

pub returns-in-None : goal.returns-in-None
returns-in-None g c =
    let index = g.StorageT.StorageIndex.index in
    subst (λ messages. HasNoMessage c.args.sgraph.now messages (index c.args.state.0)) c.self.view_is
    (subst (λ xs. HasNoMessage c.args.sgraph.now (messages_of index xs) (index c.args.state.0)) c.deref.ensures.value c.in-None.ensures)
