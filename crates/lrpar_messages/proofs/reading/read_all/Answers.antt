use Rattle.std.specs.Prelude.{IfOk}
use Rattle.std.proofs.Common.{Vec, Global, ◌≡◌, ◌∙◌, ◌∷◌, ◌++◌, [], ap, get_or, subst, sym}
use Rattle.std.proofs.lemmas.List.{map_push}
use Rattle.std.proofs.lemmas.List.Elements.{Contains-get_or}
use Rattle.lrpar_messages.specs.Messages.{AreApart, HasNoMessage, MessageOf, message_of, messages_of}
use Rattle.lrpar_messages.specs.declared.messages.Message.{Message}
use Rattle.lrpar_messages.proofs.KernelLemmas.{apart_more}
use Rattle.lrpar_messages.proofs.reading.read_all.Goals as goal
use Rattle.lrpar_messages.proofs.reading.read_all.Goals.{in-Ok+in_ok-push-in-Ok, in-Err+in_ok-push_fault-in-Err}

pub loop-entry-preserved : goal.loop-entry-preserved
loop-entry-preserved g c =
    let index = g.StorageT.StorageIndex.index in
    let graph = c.args.data.now.graph in
    let old = c.loop-entry.messages.items in
    elim c.match-branch-4.branch as (λ _. AreApart graph (messages_of index c.match-branch-4.messages.items)) [
      | in-Ok+in_ok-push-in-Ok w ↦
          let none : HasNoMessage graph (messages_of index old) (index w.in-Ok.message.state.0) =
          subst (λ xs. HasNoMessage graph (messages_of index xs) (index w.in-Ok.message.state.0)) c.deref.ensures.value
          (subst (λ made. IfOk made (λ (m : Message g.row.StorageT.Denot). HasNoMessage graph (messages_of index c.deref.result.now) (index m.state.0))) w.in-Ok.is
          c.in_ok-message.ensures.new) in
          let pushed : messages_of index c.match-branch-4.messages.items ≡ messages_of index old ++ message_of index w.in-Ok.message ∷ [] =
          ap (λ (v : Vec (Message g.row.StorageT.Denot) Global). messages_of index v.items) w.messages-is
          ∙ ap (λ xs. messages_of index xs) w.in_ok-push-in-Ok.ensures.items
          ∙ map_push (message_of index) old w.in-Ok.message in
          subst (λ messages. AreApart graph messages) (sym pushed)
          (apart_more (λ (m : MessageOf). m.state) graph (messages_of index old) (message_of index w.in-Ok.message) c.loop-entry.invariant
          (λ j d _ within same. none (get_or (messages_of index old) j d) (Contains-get_or (messages_of index old) j d within) same))
      | in-Err+in_ok-push_fault-in-Err w ↦
          let same : messages_of index c.match-branch-4.messages.items ≡ messages_of index old =
          ap (λ (v : Vec (Message g.row.StorageT.Denot) Global). messages_of index v.items) w.messages-is in
          subst (λ messages. AreApart graph messages) (sym same) c.loop-entry.invariant
    ]
