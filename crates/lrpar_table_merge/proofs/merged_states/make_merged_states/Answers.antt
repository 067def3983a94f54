use Rattle.std.proofs.Common.{◌≡◌, ◌<◌, ◌+◌, ◌∷◌, ◌++◌, ◌∙◌, ℕ, List, [], arith, ap, length, map, subst, sym}
use Rattle.std.proofs.lemmas.List.{length-map, length_push, map_push}
use Rattle.lrpar_table_items.specs.Next.{kernel_at, kernel_rows}
use Rattle.lrpar_table_items.specs.States.{StateOf, state_at, state_of}
use Rattle.lrpar_table_merge.specs.Held.{transitions_at}
use Rattle.lrpar_table_merge.specs.MergedStates.{all_transitions}
use Rattle.lrpar_table_merge.specs.MergedSteps.{IsGivenState}
use Rattle.lrpar_table_merge.proofs.GivenListLemmas.{states_more}
use Rattle.lrpar_table_merge.proofs.GivenStateLemmas.{are_merged_states}
use Rattle.lrpar_table_merge.proofs.PassLemmas.{rows_len}
use Rattle.lrpar_table_merge.proofs.merged_states.make_merged_states.Goals as goal

pub loop-number-init : goal.loop-number-init
loop-number-init g c =
    let index = g.StorageT.StorageIndex.index in
    let none : map (state_of index) c.new-states.result.items ≡ [] = ap (map (state_of index)) c.new-states.ensures.items in record {
      sets = c.requires.sets;
      within = omega arith;
      len = ap (λ (states : List StateOf). length states) none;
      given = λ s low. absurd (omega (arith, low));
    }

pub make_merged_state-requires-clause-kernels : goal.make_merged_state-requires-clause-kernels
make_merged_state-requires-clause-kernels g c = c.requires.held.filled

pub make_merged_state-requires-clause-fit : goal.make_merged_state-requires-clause-fit
make_merged_state-requires-clause-fit g c = c.requires.count.1

pub loop-number-preserved : goal.loop-number-preserved
loop-number-preserved g c =
    let index = g.StorageT.StorageIndex.index in
    let kernels = kernel_rows index c.args.kernels.now in
    let all = all_transitions c.args.all.now in
    let n = c.loop-number.number in
    let states = map (state_of index) c.loop-number.states.items in
    let state = state_of index c.in_ok-state.state in
    let so_far = c.loop-number.invariant in
    let len = so_far.len in
    let more : map (state_of index) c.push.new.self.items ≡ states ++ state ∷ [] =
    ap (map (state_of index)) c.in_ok-push.ensures.items ∙ map_push (state_of index) c.loop-number.states.items c.in_ok-state.state in
    let Given = λ (s : ℕ) (x : StateOf). IsGivenState c.args.grm.now kernels (transitions_at all s) (kernel_at kernels s) x in record {
      sets = c.in_ok-state.ensures.sets;
      within = omega (arith, c.loop-number-test.true);
      len = (let total = ap (λ (xs : List StateOf). length xs) more in omega (arith, total, len, length_push states state));
      given =
          subst (λ xs. (s : ℕ) → s < n + 1 → Given s (state_at xs s)) (sym more)
          (states_more Given states state n len so_far.given c.in_ok-state.ensures.state);
    }

pub returns-clause-made : goal.returns-clause-made
returns-clause-made g c =
    let index = g.StorageT.StorageIndex.index in
    let kernels = c.args.kernels.now in
    let rows = kernel_rows index kernels in
    let all = all_transitions c.args.all.now in
    let states = map (state_of index) c.loop-number.states.items in
    let so_far = c.loop-number.invariant in
    let len = so_far.len in
    let within = so_far.within in
    let count = rows_len index kernels in
    let some = c.requires.count.0 in
    are_merged_states c.args.grm.now c.requires.well_formed rows (omega (arith, some, count)) all c.requires.held.held states
    (omega (arith, len, within, count, c.loop-number-test.false))
    (λ s low. so_far.given s (omega (arith, low, len))) c.requires.distinct

pub returns-clause-len : goal.returns-clause-len
returns-clause-len g c =
    let so_far = c.loop-number.invariant in
    let len = so_far.len in
    let within = so_far.within in
    let count = length-map c.loop-number.states.items (state_of g.StorageT.StorageIndex.index) in
    omega (arith, len, within, count, c.loop-number-test.false)
