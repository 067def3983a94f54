use Rattle.std.proofs.Common.{List, ◌≡◌, ◌<◌, ◌≤◌, ◌∷◌, ◌++◌, ◌∙◌, [], sym, ap, subst, arith, length, map}
use Rattle.std.proofs.lemmas.List.{length-map, length_push, map_push}
use Rattle.lrpar_table_items.specs.Next.{kernel_at}
use Rattle.lrpar_table_items.specs.States.{AreExpanded, IsExpanded, StateOf, state_of}
use Rattle.lrpar_table_items.specs.Numbers.{IsFaultOfStates}
use Rattle.lrpar_table_items.specs.declared.fault.BuildFault.TheVariants.{Memory}
use Rattle.lrpar_table_items.proofs.NumberLemmas.{expanded_more, starts_kept}
use Rattle.lrpar_table_items.proofs.StatesLemmas.{are_states}
use Rattle.lrpar_table_items.proofs.FaultLemmas.{fault_same}
use Rattle.lrpar_grammar_places.proofs.FaultLemmas.{no_value}
use Rattle.lrpar_table_items.proofs.states.make_states.Goals as goal

pub states-init : goal.states-init
states-init g c =
    let index = g.StorageT.StorageIndex.index in
    let kernels = c.args.kernels.now in
    let none : map (state_of index) c.new-states.result.items ≡ [] = ap (map (state_of index)) c.new-states.ensures.items in record {
      sets = c.requires.sets;
      numbered = c.requires.kernels.numbered;
      start = c.requires.kernels.starts;
      few = subst (λ (states : List StateOf). length states ≤ length kernels) (sym none) (omega arith);
      expanded = subst (AreExpanded c.args.grm.now kernels) (sym none) (λ s low. absurd (omega (arith, low)));
    }

pub states-preserved : goal.states-preserved
states-preserved g c =
    let index = g.StorageT.StorageIndex.index in
    let grm = c.args.grm.now in
    let before = c.states.kernels in
    let after = c.expand.new.kernels in
    let states = map (state_of index) c.states.states.items in
    let state = state_of index c.in_ok-state.state in
    let kept = c.in_ok-state.ensures.state.kernels.kept in
    let count = length-map c.states.states.items (state_of index) in
    let at : c.len-in-states-2.result ≡ length states = omega (arith, count, c.states.states.ok, c.len-in-states-2.ensures) in
    let low : length states < length before = omega (arith, count, c.states.states.ok, c.states-test.true, c.len.ensures, c.len-in-states.ensures) in
    let new = subst (λ n. IsExpanded grm after (kernel_at before n) state) at c.in_ok-state.ensures.state.expanded in
    let all : map (state_of index) c.push.new.self.items ≡ states ++ state ∷ [] =
    ap (map (state_of index)) c.in_ok-push.ensures.items ∙ map_push (state_of index) c.states.states.items c.in_ok-state.state in
    let more = length_push states state in
    let longer = kept.len in record {
      sets = c.in_ok-state.ensures.sets;
      numbered = c.in_ok-state.ensures.state.kernels.numbered;
      start = starts_kept grm before after kept c.states.invariant.start;
      few = (let total = ap length all in omega (arith, total, more, low, longer));
      expanded =
          subst (AreExpanded grm after) (sym all) (expanded_more grm before after states state kept low c.states.invariant.expanded new);
    }

pub returns-clause-states : goal.returns-clause-states
returns-clause-states g c =
    let index = g.StorageT.StorageIndex.index in
    let kernels = c.states.kernels in
    let states = map (state_of index) c.states.states.items in
    let few = c.states.invariant.few in
    let count = length-map c.states.states.items (state_of index) in
    let full : length states ≡ length kernels =
    omega (arith, few, count, c.states.states.ok, c.states-test.false, c.len.ensures, c.len-in-states.ensures) in
    are_states c.args.grm.now c.requires.well_formed kernels c.states.invariant.numbered.are c.states.invariant.start.some
    c.states.invariant.start.is states full c.states.invariant.expanded

pub returns-in_err-state : goal.returns-in_err-state
returns-in_err-state g c =
    let reported = c.from_residual.ensures.1 in record {
      states = no_value c.from_residual.result _ _ reported;
      within = no_value c.from_residual.result _ _ reported;
      fits = no_value c.from_residual.result _ _ reported;
      fault = fault_same c.from_residual.result (IsFaultOfStates c.args.grm.now c.args.max_states g.StorageT.StorageIndex.limit) c.in_err-state.field-0.0 reported c.in_err-state.ensures.fault;
    }

pub returns-in_err-push : goal.returns-in_err-push
returns-in_err-push g c =
    let reported = c.from_residual-in_err-push.ensures.1 in record {
      states = no_value c.from_residual-in_err-push.result _ _ reported;
      within = no_value c.from_residual-in_err-push.result _ _ reported;
      fits = no_value c.from_residual-in_err-push.result _ _ reported;
      fault = fault_same c.from_residual-in_err-push.result (IsFaultOfStates c.args.grm.now c.args.max_states g.StorageT.StorageIndex.limit) Memory reported tt;
    }
