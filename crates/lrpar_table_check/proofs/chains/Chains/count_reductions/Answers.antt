use Rattle.std.proofs.Common.{◌≡◌, arith, subst, ℕ}
use Rattle.lrpar_table_stacks.specs.ReductionStep.{IsStepOf}
use Rattle.lrpar_table_stacks.specs.declared.reduction.Step.{Step}
use Rattle.lrpar_table_stacks.specs.Stack.{states_of}
use Rattle.lrpar_table_stacks.proofs.StepLemmas.{reduced_within}
use Rattle.lrpar_table_check.specs.Lengths.{IsLength}
use Rattle.lrpar_table_check.proofs.LengthLemmas.{comes_first, comes_more, length_dropped, length_stays, longer}
use Rattle.lrpar_table_check.proofs.chains.Chains.count_reductions.Goals as goal

pub loop-made-init : goal.loop-made-init
loop-made-init g c =
    let index = g.StorageT.StorageIndex.index in
    record {
      states = c.requires.states;
      comes = comes_first c.args.self.now.grm.now c.args.self.now.stable.now (index c.args.t.0) (states_of index c.args.states.now.items);
    }

pub take_step-requires-clause-states : goal.take_step-requires-clause-states
take_step-requires-clause-states g c = c.loop-made.invariant.states

pub returns-in-LeavesNone : goal.returns-in-LeavesNone
returns-in-LeavesNone g c =
    let index = g.StorageT.StorageIndex.index in
    length_dropped c.args.self.now.grm.now c.args.self.now.stable.now (index c.args.t.0) (states_of index c.args.states.now.items) c.args.self.now.cap
    (states_of index c.loop-made.states.items) (states_of index c.take_step.new.states.items) c.loop-made.made c.in_ok-step.step
    c.loop-made.invariant.comes c.loop-made-test.true c.in-LeavesNone.is c.in_ok-step.ensures.taken.of_states

pub returns-in-Stays : goal.returns-in-Stays
returns-in-Stays g c =
    let index = g.StorageT.StorageIndex.index in
    length_stays c.args.self.now.grm.now c.args.self.now.stable.now (index c.args.t.0) (states_of index c.args.states.now.items) c.args.self.now.cap
    (states_of index c.loop-made.states.items) (states_of index c.take_step.new.states.items) c.loop-made.made c.in_ok-step.step
    c.loop-made.invariant.comes (omega (arith, c.loop-made-test.true)) c.in-Stays.is c.in_ok-step.ensures.taken.of_states

pub loop-made-preserved : goal.loop-made-preserved
loop-made-preserved g c =
    let index = g.StorageT.StorageIndex.index in
    let grm = c.args.self.now.grm.now in
    let table = c.args.self.now.stable.now in
    let t = index c.args.t.0 in
    let states = states_of index c.loop-made.states.items in
    let after = states_of index c.take_step.new.states.items in
    let reduced = subst (λ (s : Step). IsStepOf grm table t states s after) c.in-Reduced.is c.in_ok-step.ensures.taken.of_states in
    record {
      states = reduced_within grm table t states reduced.0 after c.requires.sound.closed c.loop-made.invariant.states.within reduced.1;
      comes = comes_more grm table t (states_of index c.args.states.now.items) states after c.loop-made.made c.in_ok-step.step
          c.loop-made.invariant.comes c.in-Reduced.is c.in_ok-step.ensures.taken.of_states;
    }

pub take_step-requires-2-clause-states : goal.take_step-requires-2-clause-states
take_step-requires-2-clause-states g c = c.loop-made.invariant.states

pub returns-in-Reduced-step : goal.returns-in-Reduced-step
returns-in-Reduced-step g c =
    let index = g.StorageT.StorageIndex.index in
    let end : c.loop-made.made ≡ c.args.self.now.cap = omega (arith, c.loop-made-test.false, c.loop-made.auto.made-end) in
    longer c.args.self.now.grm.now c.args.self.now.stable.now (index c.args.t.0) (states_of index c.args.states.now.items) c.args.self.now.cap
    (states_of index c.loop-made.states.items) (states_of index c.take_step-2.new.states.items) c.loop-made.made c.in_ok-step-2.step
    c.loop-made.invariant.comes end c.in-Reduced-step.is c.in_ok-step-2.ensures.taken.of_states

pub returns-in-Stays-step : goal.returns-in-Stays-step
returns-in-Stays-step g c =
    let index = g.StorageT.StorageIndex.index in
    let grm = c.args.self.now.grm.now in
    let table = c.args.self.now.stable.now in
    let cap = c.args.self.now.cap in
    let start = states_of index c.args.states.now.items in
    let end : c.loop-made.made ≡ cap = omega (arith, c.loop-made-test.false, c.loop-made.auto.made-end) in
    subst (λ (n : ℕ). IsLength grm table cap (index c.args.t.0) start n) end
    (length_stays grm table (index c.args.t.0) start cap (states_of index c.loop-made.states.items) (states_of index c.take_step-2.new.states.items)
    c.loop-made.made c.in_ok-step-2.step c.loop-made.invariant.comes (omega (arith, end)) c.in-Stays-step.is c.in_ok-step-2.ensures.taken.of_states)
