use Rattle.std.proofs.Common.{◌≡◌, ◌<◌, ◌∙◌, ap, arith, refl, subst, sym, get_or, length}
use Rattle.std.proofs.lemmas.Bool.{false≢true}
use Rattle.std.proofs.lemmas.List.{get_or-map, length-map}
use Rattle.lrpar_messages.specs.Groups.{HaveSameKernel}
use Rattle.lrpar_messages.specs.Messages.{MessageOf, message_of, messages_of}
use Rattle.lrpar_messages.proofs.KernelLemmas.{none_more, none_of_all}
use Rattle.lrpar_messages.proofs.messages.find_message.Goals as goal

pub loop-message-preserved : goal.loop-message-preserved
loop-message-preserved g c =
    let index = g.StorageT.StorageIndex.index in
    let graph = c.args.sgraph.now in
    let messages = c.args.messages.now in
    let i = c.loop-message.message-index in
    let s = index c.args.state.0 in
    let message = c.message-item.result in
    none_more (λ (m : MessageOf). m.state) graph (messages_of index messages) i s c.loop-message.invariant
    (λ d same.
    let read : get_or (messages_of index messages) i d ≡ message_of index message =
    get_or-map (message_of index) messages i message d c.loop-message-test.true ∙ ap (message_of index) (sym c.message-item.is) in
    false≢true (sym c.if-have_same_kernel.false ∙ c.have_same_kernel.ensures.1 (subst (λ (m : MessageOf). HaveSameKernel graph m.state s) read same)))

pub returns-then-have_same_kernel : goal.returns-then-have_same_kernel
returns-then-have_same_kernel g c =
    let index = g.StorageT.StorageIndex.index in
    let messages = c.args.messages.now in
    let i = c.loop-message.message-index in
    let message = c.message-item.result in
    let low : i < length (messages_of index messages) = let count = length-map messages (message_of index) in omega (arith, count, c.loop-message-test.true) in
    let read : get_or (messages_of index messages) i (message_of index message) ≡ message_of index message =
    get_or-map (message_of index) messages i message (message_of index message) c.loop-message-test.true ∙ ap (message_of index) (sym c.message-item.is) in
    (message_of index message, (i, low, read), c.have_same_kernel.ensures.0 c.if-have_same_kernel.true, refl)

pub returns : goal.returns
returns g c =
    let index = g.StorageT.StorageIndex.index in
    let messages = c.args.messages.now in
    none_of_all (λ (m : MessageOf). m.state) c.args.sgraph.now (messages_of index messages) c.loop-message.message-index (index c.args.state.0)
    (let count = length-map messages (message_of index) in omega (arith, count, c.loop-message-test.false)) c.loop-message.invariant
