use Rattle.std.proofs.Common.{◌≡◌, ◌+◌, ◌++◌, ◌∷◌, ◌∙◌, ℕ, [], Some, sym, ap, subst, arith, length, length-append, slice_get}
use Rattle.std.proofs.lemmas.Option.{slice_get_read}
use Rattle.lrpar_grammar.specs.Grammar.{tokens_len}
use Rattle.lrpar_table_rows.specs.Runs.{set_of_rows}
use Rattle.lrpar_table_items.specs.Cores.{core_set}
use Rattle.lrpar_table_items.specs.CompleteItems.{AreLookaheads, AreRowsOf, items_of_core}
use Rattle.lrpar_table_items.proofs.CompleteItemLemmas.{cores_more, row_pushed, rows_kept}
use Rattle.lrpar_table_items.proofs.items.core_rows.Goals as goal

pub cores-preserved : goal.cores-preserved
cores-preserved g c =
    let index = g.StorageT.StorageIndex.index in
    let len = tokens_len c.args.grm.now in
    let cores = c.args.cores.now in
    let rows = c.cores.rows.items in
    let core = c.index-cores-place.result in
    let count = c.cores.invariant.0 in
    let here : slice_get cores c.cores.place ≡ Some core =
    slice_get_read cores (length cores) c.cores.place core (omega arith) c.cores-test.true c.index-cores-place.is in
    let are : AreLookaheads index len core c.in_ok-tokens.tokens.items = c.in_ok-tokens.ensures core here in
    let pushed = c.in_ok-push.ensures.items in
    let kept = rows_kept index len cores rows (core.prod, core.dot) core c.in_ok-tokens.tokens
    (ap (slice_get cores) count ∙ here) are c.cores.invariant.1 in (
      ap length pushed ∙ length-append rows ((core.prod, core.dot, c.in_ok-tokens.tokens) ∷ []) ∙ ap (λ (n : ℕ). n + 1) count,
      subst (AreRowsOf index len cores) (sym pushed) kept,
      ap (set_of_rows index) pushed ∙ row_pushed index len rows core c.in_ok-tokens.tokens are
          ∙ ap (λ s. s ++ items_of_core len (core_set index core)) c.cores.invariant.2
          ∙ sym (cores_more (core_set index) len cores c.cores.place core c.cores-test.true c.index-cores-place.is),
    )
