use Rattle.std.proofs.Common.{◌≡◌, ◌<◌, ◌≤◌, ◌+◌, ◌-◌, ◌*◌, ◌^◌, ℕ, arith, length, refl, rules, subst, sym}
use Rattle.std.proofs.Math.Nat.{mul-le-mul_right}
use Rattle.lrpar_table_stacks.specs.Chain.{most_reductions}
use Rattle.lrpar_table_check.proofs.CheckedLemmas.{at_end, one_more, some_stack_states}
use Rattle.lrpar_grammar_places.proofs.FaultLemmas.{no_value, nothing_done}
use Rattle.lrpar_table_check.proofs.check.ParserData.settle_on.Goals as goal

pub take_step-requires-clause-states : goal.take_step-requires-clause-states
take_step-requires-clause-states g c =
    rw c.stable-table.ensures.table (some_stack_states c.args.self.now.table c.stable-table.ensures.checked.closed _ c.reductions.invariant.stack)

pub take_step-requires-clause-suits : goal.take_step-requires-clause-suits
take_step-requires-clause-suits g c = rw (c.grm-grm.ensures, c.stable-table.ensures.table) c.reductions.invariant.suits

-- each step leaves less to be made
left_to_make : (most made more : ℕ) → made < most → more ≡ made + 1 → most - more < most - made
left_to_make most made more below is = omega arith

-- what the cap allows a list is a number that is counted by
most_fit : (cap height most made : ℕ) → cap < 2 ^ 16 → height < 2 ^ 64 → most ≡ cap * height → made < most → made + 1 < 2 ^ 128
most_fit cap height most made small short is below =
    let times : cap * height ≤ 65536 * height = mul-le-mul_right height (omega arith) in
    omega (arith, times)

pub overflow_add-count : goal.overflow_add-count
overflow_add-count g c =
    let more =
    one_more g.StorageT.StorageIndex.index g.S.StateStack c.args.self.now c.stable-table.ensures.checked c.stable-table.ensures.runs c.stable-table.ensures.bounds
    c.args.t c.requires.token c.args.stack.now c.reductions.stack c.take_step.new.states c.reductions.count _ _ c.requires.stack
    c.reductions.invariant.stack c.reductions.invariant.made (rw (c.grm-grm.ensures, c.stable-table.ensures.table) at c.in_ok-step.ensures.taken) c.in-Reduced.is in
    let height = length (g.S.StateStack.states c.args.stack.now) in
    let small = subst (λ (n : ℕ). n < 2 ^ 16) c.cap-lemma.ensures c.cap-lemma.type_inv in
    let short = subst (λ (n : ℕ). n < 2 ^ 64) c.height-second_lemma.ensures c.height-second_lemma.type_inv in
    let fits : c.reductions.count + 1 < 2 ^ 128 = most_fit c.args.self.now.cap height (most_reductions c.args.self.now.cap height) c.reductions.count small short refl more.below in
    search rules

pub reductions-smaller : goal.reductions-smaller
reductions-smaller g c =
    let more =
    one_more g.StorageT.StorageIndex.index g.S.StateStack c.args.self.now c.stable-table.ensures.checked c.stable-table.ensures.runs c.stable-table.ensures.bounds
    c.args.t c.requires.token c.args.stack.now c.reductions.stack c.take_step.new.states c.reductions.count _ _ c.requires.stack
    c.reductions.invariant.stack c.reductions.invariant.made (rw (c.grm-grm.ensures, c.stable-table.ensures.table) at c.in_ok-step.ensures.taken) c.in-Reduced.is in
    left_to_make (most_reductions c.args.self.now.cap (length (g.S.StateStack.states c.args.stack.now))) c.reductions.count (c.reductions.count + 1) more.below refl

pub reductions-preserved : goal.reductions-preserved
reductions-preserved g c =
    let more =
    one_more g.StorageT.StorageIndex.index g.S.StateStack c.args.self.now c.stable-table.ensures.checked c.stable-table.ensures.runs c.stable-table.ensures.bounds
    c.args.t c.requires.token c.args.stack.now c.reductions.stack c.take_step.new.states c.reductions.count _ _ c.requires.stack
    c.reductions.invariant.stack c.reductions.invariant.made (rw (c.grm-grm.ensures, c.stable-table.ensures.table) at c.in_ok-step.ensures.taken) c.in-Reduced.is in
    let suits = g.met.S.StateStack.reduced_suits c.args.self.now.grammar c.args.self.now.table _ c.reductions.stack more.prod c.take_step.new.states c.reductions.invariant.suits more.reduces in
    record { suits = suits; stack = more.stack; made = more.made }

pub returns-in-LeavesNone : goal.returns-in-LeavesNone
returns-in-LeavesNone g c =
    let end =
    at_end g.StorageT.StorageIndex.index g.S.StateStack c.args.self.now c.stable-table.ensures.checked c.stable-table.ensures.runs c.stable-table.ensures.bounds
    c.args.t c.requires.token c.args.stack.now c.reductions.stack c.take_step.new.states c.reductions.count _ _ c.requires.stack
    c.reductions.invariant.stack c.reductions.invariant.made (rw (c.grm-grm.ensures, c.stable-table.ensures.table) at c.in_ok-step.ensures.taken) c.in-LeavesNone.is in
    record {
      settled = end.settled;
      action = end.action;
      suits = subst (g.S.StateStack.suits c.args.self.now.grammar c.args.self.now.table) (sym end.same) c.reductions.invariant.suits;
      short_of_memory = tt;
      stack = end.settled.of_states.stack;
    }

pub returns-in_err-step-clause-settled : goal.returns-in_err-step-clause-settled
returns-in_err-step-clause-settled g c = no_value c.from_residual.result _ _ c.from_residual.ensures.1

pub returns-in_err-step-clause-action : goal.returns-in_err-step-clause-action
returns-in_err-step-clause-action g c = no_value c.from_residual.result _ _ c.from_residual.ensures.1

pub returns-in_err-step-clause-suits : goal.returns-in_err-step-clause-suits
returns-in_err-step-clause-suits g c = nothing_done c.from_residual.result _ _ c.from_residual.ensures.1
