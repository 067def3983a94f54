use Rattle.std.proofs.Common.{◌≡◌, ◌∙◌, [], arith, ap, map, subst, sym}
use Rattle.lrpar_grammar.specs.Grammar.{Nonterminal, Terminal, rules_len, tokens_len}
use Rattle.lrpar_table_rows.specs.PlainRows.{goto_entry}
use Rattle.lrpar_table_items.specs.Canonical.{AreSame}
use Rattle.lrpar_table_items.specs.CoreOrder.{IsKernel}
use Rattle.lrpar_table_items.specs.Cores.{IsAmong, core_set}
use Rattle.lrpar_table_items.specs.ItemSets.{IsInClosure}
use Rattle.lrpar_table_items.specs.Next.{kernel_at, kernel_rows}
use Rattle.lrpar_table_items.specs.Resolution.{shift_entry}
use Rattle.lrpar_table_items.proofs.FindLemmas.{mapped_at}
use Rattle.lrpar_table_merge.specs.Held.{transitions_at}
use Rattle.lrpar_table_merge.specs.MergedStates.{all_transitions, transitions_of}
use Rattle.lrpar_table_merge.specs.MergedSteps.{AreGivenBy}
use Rattle.lrpar_table_merge.specs.PassedOn.{IsBeginning}
use Rattle.lrpar_table_merge.proofs.GivenListLemmas.{read_transitions}
use Rattle.lrpar_table_merge.proofs.PassLemmas.{rows_len}
use Rattle.lrpar_table_merge.proofs.merged_states.make_merged_state.Goals as goal

pub expand_filled-requires-clause-kernel : goal.expand_filled-requires-clause-kernel
expand_filled-requires-clause-kernel g c =
    let index = g.StorageT.StorageIndex.index in
    let kernels = c.args.kernels.now in
    let low = c.requires.number in
    let own : map (core_set index) c.deref.result.now ≡ kernel_at (kernel_rows index kernels) c.args.number =
    ap (map (core_set index)) c.deref.ensures.value
    ∙ sym (mapped_at (λ k. map (core_set index) k.items) kernels c.args.number c.index-kernels-number.result [] low c.index-kernels-number.is) in
    subst (IsBeginning c.args.grm.now) (sym own) (c.requires.kernels c.args.number [] (omega (arith, low, rows_len index kernels)))

pub all_steps-requires-clause-successors : goal.all_steps-requires-clause-successors
all_steps-requires-clause-successors g c =
    c.in_ok-successors.ensures.expanded.next

pub returns-clause-state : goal.returns-clause-state
returns-clause-state g c =
    let index = g.StorageT.StorageIndex.index in
    let grm = c.args.grm.now in
    let kernels = c.args.kernels.now in
    let rows = kernel_rows index kernels in
    let own : map (core_set index) c.deref.result.now ≡ kernel_at rows c.args.number =
    ap (map (core_set index)) c.deref.ensures.value
    ∙ sym (mapped_at (λ k. map (core_set index) k.items) kernels c.args.number c.index-kernels-number.result [] c.requires.number
    c.index-kernels-number.is) in
    let items = map (core_set index) c.in_ok-successors.successors.items.items in
    let all = c.in_ok-successors.ensures.expanded in
    let read = c.get.ensures.lookup in
    let transitions : transitions_of c.unwrap_or-transitions.result.now ≡ transitions_at (all_transitions c.args.all.now) c.args.number =
    ap (λ x. transitions_of x.now) c.unwrap_or-transitions.ensures
    ∙ read_transitions c.args.all.now c.args.number c.get.result _ c.new.ensures.items c.new-2.ensures.items read.1 read.3 in record {
      closure = record {
        is_kernel = subst (IsKernel grm) own c.in_ok-successors.ensures.is_kernel;
        items = subst (λ kernel. AreSame (IsAmong items) (IsInClosure grm (IsAmong kernel))) own all.items;
        are_cores = all.cores;
      };
      gotos =
          subst (λ t. AreGivenBy grm rows items t Nonterminal (map (goto_entry index) c.in_ok-gotos.gotos.items) (rules_len grm)) transitions
          c.in_ok-gotos.ensures.gotos;
      shifts =
          subst (λ t. AreGivenBy grm rows items t Terminal (map (shift_entry index) c.in_ok-gotos.shifts.items) (tokens_len grm)) transitions
          c.in_ok-gotos.ensures.shifts;
    }
