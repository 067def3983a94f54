use Rattle.std.proofs.Common.{None, map, slice_index_or, subst, ℕ}
use Rattle.lrpar_grammar.specs.Grammar.{Nonterminal, Terminal, rules_len, tokens_len}
use Rattle.lrpar_table_rows.specs.PlainRows.{goto_entry}
use Rattle.lrpar_table_items.specs.Cores.{core_set}
use Rattle.lrpar_table_items.specs.Next.{kernel_at, kernel_rows}
use Rattle.lrpar_table_items.specs.Resolution.{shift_entry}
use Rattle.lrpar_table_merge.specs.MergedSteps.{AreGivenSteps}
use Rattle.lrpar_table_merge.proofs.GivenStepLemmas.{given_next}
use Rattle.lrpar_table_merge.proofs.merged_states.all_steps.Goals as goal

pub returns-clause-gotos : goal.returns-clause-gotos
returns-clause-gotos g c =
    let index = g.StorageT.StorageIndex.index in
    let kernels = kernel_rows index c.args.kernels.now in
    let successors = c.args.successors.now in
    let reached = c.deref.result.now in
    let row = c.deref-2.result.now in
    let rows = map (goto_entry index) c.in_ok-gotos.gotos.items in
    given_next index c.args.grm.now kernels (map (core_set index) successors.items.items) Nonterminal successors.rules.items reached
    c.args.transitions.now.rules.items row rows (rules_len c.args.grm.now) c.deref.ensures.value c.deref-2.ensures.value
    c.requires.successors.rules_len c.requires.successors.rules
    (subst (AreGivenSteps kernels (kernel_at (kernel_rows index reached)) (λ (k : ℕ). slice_index_or row k None) rows) c.rules_len.ensures.len
    c.in_ok-gotos.ensures)

pub returns-clause-shifts : goal.returns-clause-shifts
returns-clause-shifts g c =
    let index = g.StorageT.StorageIndex.index in
    let kernels = kernel_rows index c.args.kernels.now in
    let successors = c.args.successors.now in
    let reached = c.deref-3.result.now in
    let row = c.deref-4.result.now in
    let rows = map (shift_entry index) c.in_ok-shifts.shifts.items in
    given_next index c.args.grm.now kernels (map (core_set index) successors.items.items) Terminal successors.tokens.items reached
    c.args.transitions.now.tokens.items row rows (tokens_len c.args.grm.now) c.deref-3.ensures.value c.deref-4.ensures.value
    c.requires.successors.tokens_len c.requires.successors.tokens
    (subst (AreGivenSteps kernels (kernel_at (kernel_rows index reached)) (λ (k : ℕ). slice_index_or row k None) rows) c.tokens_len.ensures.len
    c.in_ok-shifts.ensures)
