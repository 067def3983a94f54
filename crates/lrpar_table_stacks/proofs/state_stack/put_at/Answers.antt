use Rattle.std.proofs.Common.{◌<◌, ◌∙◌, ◌+◌, ap, arith, length, sym}
use Rattle.std.proofs.Math.ListN.{set}
use Rattle.std.proofs.Math.Seq.{take-set-lt}
use Rattle.std.proofs.lemmas.List.{take_more_set}
use Rattle.lrpar_table_stacks.proofs.state_stack.put_at.Goals as goal

pub returns-else-left-len-clause-put : goal.returns-else-left-len-clause-put
returns-else-left-len-clause-put g c =
    let items = c.args.states.now.items in
    let left = c.args.left in
    let below : left < length items = omega (arith, c.requires, c.if-left-len.false, c.len.ensures) in
    ap (λ xs. set xs left c.args.next) c.truncate.ensures.items
    ∙ sym (take-set-lt (left + 1) items left c.args.next (omega arith)) ∙ take_more_set items left c.args.next below
