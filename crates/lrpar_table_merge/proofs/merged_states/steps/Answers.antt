use Rattle.std.proofs.Common.{◌≡◌, ◌<◌, ◌+◌, ◌∷◌, ◌++◌, ◌∙◌, ℕ, [], None, arith, ap, length, subst, sym, map, slice_index_or}
use Rattle.std.specs.Option.{option_map}
use Rattle.std.proofs.lemmas.List.{map-append}
use Rattle.lrpar_table_items.specs.Cores.{core_set}
use Rattle.lrpar_table_items.specs.Next.{kernel_at, kernel_rows}
use Rattle.lrpar_table_items.specs.States.{step_entry}
use Rattle.lrpar_table_items.proofs.FindLemmas.{mapped_at}
use Rattle.lrpar_table_merge.specs.MergedSteps.{AreGivenSteps, FitsNext}
use Rattle.lrpar_table_merge.proofs.GivenStepLemmas.{no_steps, step_none, step_some}
use Rattle.lrpar_table_merge.proofs.merged_states.steps.Goals as goal
use Rattle.lrpar_table_merge.proofs.merged_states.steps.Goals.{in-None, in-Some+in_ok-push-in-Some}

pub loop-number-init : goal.loop-number-init
loop-number-init g c =
    let index = g.StorageT.StorageIndex.index in
    let entry = step_entry g.SymbolT.Numbered.number index in
    let kernels = kernel_rows index c.args.kernels.now in
    let next = kernel_at (kernel_rows index c.args.reached.now) in
    let given = λ (k : ℕ). slice_index_or c.args.row.now k None in
    (omega arith, subst (λ rows. AreGivenSteps kernels next given (map entry rows) 0) (sym c.new-rows.ensures.items) (no_steps kernels next given))

pub loop-number-preserved : goal.loop-number-preserved
loop-number-preserved g c =
    let index = g.StorageT.StorageIndex.index in
    let entry = step_entry g.SymbolT.Numbered.number index in
    let reached = c.args.reached.now in
    let kernels = kernel_rows index c.args.kernels.now in
    let next = kernel_at (kernel_rows index reached) in
    let given = λ (k : ℕ). slice_index_or c.args.row.now k None in
    let n = c.loop-number.number in
    let rows = map entry c.loop-number.rows.items in
    let low : n < length reached = omega (arith, c.loop-number-test.true, c.requires.len) in
    let here : map (core_set index) c.deref.result.now ≡ next n =
    ap (map (core_set index)) c.deref.ensures.value
    ∙ sym (mapped_at (λ k. map (core_set index) k.items) reached n c.index-reached-number.result [] low c.index-reached-number.is) in
    let fits : FitsNext kernels (next n) (given n) =
    subst (λ cores. FitsNext kernels cores (given n)) here
    (subst (FitsNext kernels (map (core_set index) c.deref.result.now)) c.entry_at.ensures c.in_ok-next.ensures.fits) in
    let to : option_map (λ state. index state.0) c.in_ok-next.next ≡ given n = c.in_ok-next.ensures.state ∙ c.entry_at.ensures in
    let symbol : g.SymbolT.Numbered.number c.numbered-symbol.result ≡ n =
    c.numbered-symbol.ensures ∙ (rw c.unwrap.ensures at c.from_index.ensures.back) in (
      omega (arith, c.loop-number-test.true),
      elim c.match-next.branch [
        | in-None w ↦
            subst (λ v. AreGivenSteps kernels next given (map entry v.items) (n + 1)) (sym w.rows-is)
            (step_none kernels next given rows n c.loop-number.invariant.1 fits (sym to ∙ ap (option_map (λ state. index state.0)) w.in-None.is))
        | in-Some+in_ok-push-in-Some w ↦
            step_some kernels next given rows n c.loop-number.invariant.1 fits (map entry c.match-next.rows.items) (index w.in-Some.state.0)
            (sym to ∙ ap (option_map (λ state. index state.0)) w.in-Some.is)
            (ap (λ v. map entry v.items) w.rows-is ∙ ap (map entry) w.in_ok-push-in-Some.ensures.items
            ∙ map-append entry c.loop-number.rows.items _ ∙ ap (λ (m : ℕ). rows ++ (m, index w.in-Some.state.0) ∷ []) symbol)
      ],
    )

pub returns : goal.returns
returns g c =
    let index = g.StorageT.StorageIndex.index in
    let entry = step_entry g.SymbolT.Numbered.number index in
    let kernels = kernel_rows index c.args.kernels.now in
    let next = kernel_at (kernel_rows index c.args.reached.now) in
    let given = λ (k : ℕ). slice_index_or c.args.row.now k None in
    let within = c.loop-number.invariant.0 in
    let done : c.loop-number.number ≡ c.args.len = omega (arith, within, c.loop-number-test.false) in
    subst (AreGivenSteps kernels next given (map entry c.loop-number.rows.items)) done c.loop-number.invariant.1
