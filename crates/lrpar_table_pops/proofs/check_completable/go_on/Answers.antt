use Rattle.std.proofs.lemmas.Bool.{OnFalse_at}
use Rattle.lrpar_table_stacks.specs.Stack.{states_of}
use Rattle.lrpar_table_pops.proofs.StuckLemmas.{stuck_stack}
use Rattle.lrpar_table_pops.proofs.check_completable.go_on.Goals as goal

pub returns-then-not-can_complete-clause-fault : goal.returns-then-not-can_complete-clause-fault
returns-then-not-can_complete-clause-fault g c =
    let index = g.StorageT.StorageIndex.index in
    let d = c.args.checked.now in
    let shape = c.stable-lemma.ensures.sound.safe.shape in
    λ premise. (
      c.in_ok-states.ensures.stack,
      stuck_stack index d.grammar d.graph d.table c.stable-lemma.ensures.sound (record { reduces = shape.reduces; rules = shape.rules }) c.args.pops.now premise.1
          c.args.searched.now.stacks.items c.args.place (states_of index c.in_ok-states.states.items) c.requires.stacks premise.2
          (OnFalse_at c.if-not-can_complete.true c.can_complete.ensures.none) c.in_ok-states.ensures.whole,
    )
