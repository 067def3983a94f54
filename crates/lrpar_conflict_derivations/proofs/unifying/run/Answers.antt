use Rattle.std.proofs.Common.{subst, inr, arith}
use Rattle.lrpar_conflict_derivations.specs.Search.{EndsTurn}
use Rattle.lrpar_conflict_derivations.proofs.SearchLemmas.{one_more}
use Rattle.lrpar_conflict_derivations.proofs.unifying.run.Goals as goal
use Rattle.lrpar_conflict_derivations.proofs.unifying.run.Goals.{in-Found+in_ok-example-in-Found+in_default, in-Further}

pub returns-in-Some-clause-searched : goal.returns-in-Some-clause-searched
returns-in-Some-clause-searched g c =
    let index = g.StorageT.StorageIndex.index in
    let turned = subst (EndsTurn index c.loop.search c.turn.new.self) c.in-Found.is c.in_ok-number.ensures in
    let more =
    one_more index (index c.args.conflict.now.state.0) c.loop.counter c.loop.search c.turn.new.self turned.0 turned.1 c.loop.invariant.0 c.loop.invariant.1 in
    let within = c.loop-test.true in
    let unifying = rw c.in-Some.is at c.in_ok-example-in-Found.ensures.unifying in (more.0, omega (arith, more.1, within), unifying)

pub returns-in-Over-clause-searched : goal.returns-in-Over-clause-searched
returns-in-Over-clause-searched g c =
    let index = g.StorageT.StorageIndex.index in
    let turned = subst (EndsTurn index c.loop.search c.turn.new.self) c.in-Over.is c.in_ok-number.ensures in
    let same = turned.0.1 in
    let tried = c.loop.invariant.1 in
    let within = c.loop-test.true in
    (turned.1 (index c.args.conflict.now.state.0) c.loop.invariant.0, omega (arith, same, tried, within), inr turned.0.0)

pub loop-preserved : goal.loop-preserved
loop-preserved g c =
    let index = g.StorageT.StorageIndex.index in
    let state = index c.args.conflict.now.state.0 in
    elim c.match-branch-2.branch [
      | in-Found+in_ok-example-in-Found+in_default w ↦
          let turned = subst (EndsTurn index c.loop.search c.turn.new.self) w.in-Found.is c.in_ok-number.ensures in
          one_more index state c.loop.counter c.loop.search c.turn.new.self turned.0 turned.1 c.loop.invariant.0 c.loop.invariant.1
      | in-Further w ↦
          let turned = subst (EndsTurn index c.loop.search c.turn.new.self) w.in-Further.is c.in_ok-number.ensures in
          one_more index state c.loop.counter c.loop.search c.turn.new.self turned.0 turned.1 c.loop.invariant.0 c.loop.invariant.1
    ]
