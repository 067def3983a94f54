use Rattle.std.proofs.Common.{◌<◌, arith, length}
use Rattle.lrpar_table_first.proofs.ClearLemmas.{rooms_kept}
use Rattle.lrpar_conflict_examples.proofs.TakenLemmas.{token_more}
use Rattle.lrpar_conflict_examples.proofs.met.remove_shift.Goals as goal

pub returns-clause-room : goal.returns-clause-room
returns-clause-room c =
    let within : c.args.state < length c.args.sets.now = omega (arith, c.if-state-sets.false) in
    rooms_kept c.args.sets.now c.args.state _ c.insert.new.self within c.insert.ensures.room

pub returns-clause-exact : goal.returns-clause-exact
returns-clause-exact c = λ s t low.
    let within : c.args.state < length c.args.sets.now = omega (arith, c.if-state-sets.false) in
    token_more c.args.sets.now c.args.state c.args.token _ c.insert.new.self within c.insert.ensures.tokens s t
