use Rattle.std.proofs.Common.{◌≡◌, ◌+◌, ◌∷◌, ◌++◌, ◌∙◌, ℕ, [], arith, ap, subst, sym, map}
use Rattle.std.specs.Option.{option_map}
use Rattle.std.proofs.lemmas.List.{map-append}
use Rattle.lrpar_table_items.specs.Cores.{core_set}
use Rattle.lrpar_table_items.specs.Kernels.{GoesTo}
use Rattle.lrpar_table_items.specs.States.{AreStepsBelow, step_entry}
use Rattle.lrpar_table_items.specs.Numbers.{IsFaultOfStates}
use Rattle.lrpar_table_items.proofs.FaultLemmas.{fault_same}
use Rattle.lrpar_table_items.proofs.NumberLemmas.{IsStepDone, kept_itself, kept_twice, step_done, step_failed}
use Rattle.lrpar_table_items.proofs.SuccessorLemmas.{next_at}
use Rattle.lrpar_table_items.proofs.StepLemmas.{all_steps, no_steps, step_none, step_some}
use Rattle.lrpar_table_items.proofs.states.make_steps_by.Goals as goal
use Rattle.lrpar_table_items.proofs.states.make_steps_by.Goals.{in-None, in-Some+in_ok-push-in-Some}

pub loop-number-init : goal.loop-number-init
loop-number-init g c =
    let index = g.StorageT.StorageIndex.index in
    let entry = step_entry g.SymbolT.Numbered.number index in
    let symbol = g.SymbolT.SymbolKind.symbol in
    let grm = c.args.grm.now in
    let kernels = c.args.kernels.now in
    let cores = map (core_set index) c.args.successors.now.items.items in record {
      numbered = c.requires.kernels;
      kept = kept_itself kernels;
      steps = subst (λ rows. AreStepsBelow grm kernels cores symbol (map entry rows) 0) (sym c.new-rows.ensures.items) (no_steps grm kernels cores symbol);
    }

pub returns-in_err-next-clause-fault : goal.returns-in_err-next-clause-fault
returns-in_err-next-clause-fault g c =
    let index = g.StorageT.StorageIndex.index in
    let limit = g.StorageT.StorageIndex.limit in
    let symbol = g.SymbolT.SymbolKind.symbol in
    let grm = c.args.grm.now in
    let cores = map (core_set index) c.args.successors.now.items.items in
    let n = c.loop-number.number in
    let low = c.loop-number-test.true in
    let count = c.len-number-end.ensures.len in
    let reached = c.kernels-reached.ensures grm c.requires.set.are in
    fault_same c.from_residual.result (IsFaultOfStates grm c.args.max_states limit) c.in_err-next.field-0.0
    c.from_residual.ensures.1
    (step_failed grm c.requires.well_formed c.args.max_states limit c.loop-number.kernels c.loop-number.invariant.numbered cores c.requires.set.cores
    c.requires.set.path c.requires.set.reached (symbol n) (map (core_set index) c.deref.result.now)
    (next_at index c.kernels-reached.result.now grm cores symbol reached.1 n (omega (arith, low, count, reached.0)) c.index-reached-number.result c.index-reached-number.is c.deref.result.now c.deref.ensures.value)
    c.in_err-next.field-0.0 c.in_err-next.ensures.fault)

pub loop-number-preserved : goal.loop-number-preserved
loop-number-preserved g c =
    let index = g.StorageT.StorageIndex.index in
    let entry = step_entry g.SymbolT.Numbered.number index in
    let limit = g.StorageT.StorageIndex.limit in
    let symbol = g.SymbolT.SymbolKind.symbol in
    let grm = c.args.grm.now in
    let n = c.loop-number.number in
    let before = c.loop-number.kernels in
    let after = c.step.new.kernels in
    let cores = map (core_set index) c.args.successors.now.items.items in
    let rows = map entry c.loop-number.rows.items in
    let to = option_map (λ state. index state.0) c.in_ok-next.next in
    let low = c.loop-number-test.true in
    let count = c.len-number-end.ensures.len in
    let reached = c.kernels-reached.ensures grm c.requires.set.are in
    let done : IsStepDone grm c.args.max_states limit before cores (symbol n) to after =
    step_done grm c.requires.well_formed c.args.max_states limit before c.loop-number.invariant.numbered cores c.requires.set.cores
    c.requires.set.path c.requires.set.reached (symbol n) (map (core_set index) c.deref.result.now)
    (next_at index c.kernels-reached.result.now grm cores symbol reached.1 n (omega (arith, low, count, reached.0)) c.index-reached-number.result c.index-reached-number.is c.deref.result.now c.deref.ensures.value)
    to after c.in_ok-next.ensures.step in
    let number : g.SymbolT.Numbered.number c.numbered-symbol.result ≡ n = c.numbered-symbol.ensures ∙ (rw c.unwrap.ensures at c.from_index.ensures.back) in record {
      numbered = done.numbered;
      kept = kept_twice c.args.kernels.now before after c.loop-number.invariant.kept done.kept;
      steps =
          elim c.match-next.branch [
            | in-None w ↦
                subst (λ v. AreStepsBelow grm after cores symbol (map entry v.items) (n + 1)) (sym w.rows-is)
                (step_none grm before after done.kept cores symbol rows n c.loop-number.invariant.steps
                (subst (λ next. GoesTo grm after cores (symbol n) (option_map (λ state. index state.0) next)) w.in-None.is done.goes))
            | in-Some+in_ok-push-in-Some w ↦
                step_some grm before after done.kept cores symbol rows n c.loop-number.invariant.steps (map entry c.match-next.rows.items)
                (index w.in-Some.state.0)
                (subst (λ next. GoesTo grm after cores (symbol n) (option_map (λ state. index state.0) next)) w.in-Some.is done.goes)
                (ap (λ v. map entry v.items) w.rows-is ∙ ap (map entry) w.in_ok-push-in-Some.ensures.items
                ∙ map-append entry c.loop-number.rows.items _ ∙ ap (λ (m : ℕ). rows ++ (m, index w.in-Some.state.0) ∷ []) number)
          ];
    }

pub returns-clause-kernels : goal.returns-clause-kernels
returns-clause-kernels g c = record { numbered = c.loop-number.invariant.numbered; kept = c.loop-number.invariant.kept }

pub returns-clause-steps : goal.returns-clause-steps
returns-clause-steps g c =
    let index = g.StorageT.StorageIndex.index in
    let symbol = g.SymbolT.SymbolKind.symbol in
    let grm = c.args.grm.now in
    let full = c.loop-number-test.false in
    let count = c.len-number-end.ensures.len in
    all_steps grm c.requires.well_formed c.loop-number.kernels (map (core_set index) c.args.successors.now.items.items) symbol
    (map (step_entry g.SymbolT.Numbered.number index) c.loop-number.rows.items) c.loop-number.number
    (λ k known. let low = g.SymbolT.SymbolKind.known grm k known in omega (arith, full, count, low)) c.loop-number.invariant.steps
