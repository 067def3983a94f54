use Rattle.std.proofs.Common.{subst}
use Rattle.lrpar_messages.specs.Messages.{HasNoMessage, messages_of}
use Rattle.lrpar_messages.proofs.reading.message_of.Goals as goal

pub returns : goal.returns
returns g c =
    let index = g.StorageT.StorageIndex.index in
    record {
      new = subst (λ graph. HasNoMessage graph (messages_of index c.args.messages.now) (index c.in-Ok.state.0)) c.sgraph.ensures c.in-None.ensures;
    }
