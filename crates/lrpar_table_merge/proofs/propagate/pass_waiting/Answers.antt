use Rattle.std.proofs.Common.{◌∙◌, refl, sym, ap, subst, arith, false, length, map, rules, set}
use Rattle.std.proofs.lemmas.Bool.{false≢true}
use Rattle.lrpar_grammar.specs.Grammar.{Nonterminal, Terminal}
use Rattle.lrpar_table_items.specs.Canonical.{AreSame}
use Rattle.lrpar_table_items.specs.Cores.{IsAmong, core_set}
use Rattle.lrpar_table_items.specs.ItemSets.{IsInClosure}
use Rattle.lrpar_table_items.specs.Next.{kernel_rows}
use Rattle.lrpar_table_merge.specs.Held.{GoesBy}
use Rattle.lrpar_table_merge.specs.MergedStates.{all_transitions}
use Rattle.lrpar_table_merge.proofs.ExpandedLemmas.{filled_kernel, kernels_lent, rules_lent, stuck_by_rules, stuck_by_tokens, tokens_lent}
use Rattle.lrpar_table_merge.proofs.FromLemmas.{nothing_from, passed_from}
use Rattle.lrpar_table_merge.proofs.PassLemmas.{rows_len}
use Rattle.lrpar_table_merge.proofs.PropagateLemmas.{added_itself, added_on, alike_itself, grown_on, own_at}
use Rattle.lrpar_table_merge.proofs.RoundLemmas.{passed_on}
use Rattle.lrpar_table_merge.proofs.propagate.pass_waiting.Goals as goal

pub returns-then-not-waits-state-clause-passed : goal.returns-then-not-waits-state-clause-passed
returns-then-not-waits-state-clause-passed g c = record {
  goes_on = record { alike = alike_itself (kernel_rows g.StorageT.StorageIndex.index c.args.kernels.now); propagated = c.requires.propagated };
  ends = search rules;
}

pub returns-then-not-has_items-clause-passed : goal.returns-then-not-has_items-clause-passed
returns-then-not-has_items-clause-passed g c =
    let index = g.StorageT.StorageIndex.index in
    let before = kernel_rows index c.args.kernels.now in
    let waited = c.args.waits.now in
    let at = own_at index c.args.kernels.now c.args.state c.index-kernels-state.result c.deref-kernel.result.now c.requires.state c.deref-kernel.ensures.value in
    let nothing = nothing_from c.args.grm.now (GoesBy (all_transitions c.args.all.now)) c.args.state before
    (λ x h. false≢true (sym c.if-not-has_items.true ∙ c.has_items.ensures.1 (x, subst (λ cores. IsAmong cores x) at h))) in
    passed_on index c.args.grm.now c.args.all.now c.args.state c.args.kernels.now c.args.kernels.now waited (set waited c.args.state false) false
    (omega (arith, c.requires.state, c.requires.waits)) c.requires.propagated nothing (added_itself before (set waited c.args.state false))
    c.requires.propagated.beginnings (tt, (refl, refl))

pub expand-requires-clause-kernel : goal.expand-requires-clause-kernel
expand-requires-clause-kernel g c =
    filled_kernel g.StorageT.StorageIndex.index c.args.grm.now c.args.state c.args.kernels.now c.deref-kernel.result.now c.index-kernels-state.result
    c.requires.state c.deref-kernel.ensures.value c.requires.propagated.beginnings (c.has_items.ensures.0 c.if-not-has_items.false)

pub pass_all-requires-clause-known : goal.pass_all-requires-clause-known
pass_all-requires-clause-known g c =
    let index = g.StorageT.StorageIndex.index in
    let grm = c.args.grm.now in
    let all = c.in_ok-successors.ensures.expanded in
    (grm, c.requires.propagated.beginnings, kernels_lent index grm _ _ all Nonterminal _ (rules_lent index grm _ _ c.deref.ensures.value all.next))

pub pass_all-requires-2-clause-known : goal.pass_all-requires-2-clause-known
pass_all-requires-2-clause-known g c =
    let index = g.StorageT.StorageIndex.index in
    let grm = c.args.grm.now in
    let all = c.in_ok-successors.ensures.expanded in
    let rules = kernels_lent index grm _ _ all Nonterminal _ (rules_lent index grm _ _ c.deref.ensures.value all.next) in (
      grm,
      c.in_ok-by_rules.ensures.kernels grm c.requires.propagated.beginnings rules,
      kernels_lent index grm _ _ all Terminal _ (tokens_lent index grm _ _ c.deref-2.ensures.value all.next),
    )

pub returns-in_err-by_rules-clause-stuck : goal.returns-in_err-by_rules-clause-stuck
returns-in_err-by_rules-clause-stuck g c =
    stuck_by_rules g.StorageT.StorageIndex.index c.args.grm.now c.args.all.now c.args.state c.args.kernels.now _ _ c.requires.state c.deref-kernel.ensures.value
    c.requires.propagated.beginnings (c.has_items.ensures.0 c.if-not-has_items.false) _ c.in_ok-successors.ensures.expanded _
    c.from_residual-in_err-by_rules.result _ c.from_residual-in_err-by_rules.ensures.1 _ (alike_itself _) _ c.in_err-by_rules.ensures.misfit
    c.deref.ensures.value c.rules_from.ensures

pub returns-in_err-by_tokens-clause-stuck : goal.returns-in_err-by_tokens-clause-stuck
returns-in_err-by_tokens-clause-stuck g c =
    stuck_by_tokens g.StorageT.StorageIndex.index c.args.grm.now c.args.all.now c.args.state c.args.kernels.now _ _ c.requires.state c.deref-kernel.ensures.value
    c.requires.propagated.beginnings (c.has_items.ensures.0 c.if-not-has_items.false) _ c.in_ok-successors.ensures.expanded _
    c.from_residual-in_err-by_tokens.result _ c.from_residual-in_err-by_tokens.ensures.1 _ c.in_ok-by_rules.ensures.added.alike _
    c.in_err-by_tokens.ensures.misfit c.deref-2.ensures.value c.tokens_from.ensures

pub returns-clause-passed : goal.returns-clause-passed
returns-clause-passed g c =
    let index = g.StorageT.StorageIndex.index in
    let grm = c.args.grm.now in
    let state = c.args.state in
    let before = kernel_rows index c.args.kernels.now in
    let between = kernel_rows index c.pass_all.new.kernels in
    let after = kernel_rows index c.pass_all-2.new.kernels in
    let waited = set c.args.waits.now state false in
    let by_rules = c.in_ok-by_rules.ensures in
    let by_tokens = c.in_ok-by_tokens.ensures in
    let all = c.in_ok-successors.ensures.expanded in
    let cores = map (core_set index) c.in_ok-successors.successors.items.items in
    let own = own_at index c.args.kernels.now state c.index-kernels-state.result c.deref-kernel.result.now c.requires.state c.deref-kernel.ensures.value in
    let rules = c.deref.result.now in
    let tokens = c.deref-2.result.now in
    let rules_next = rules_lent index grm _ _ c.deref.ensures.value all.next in
    let tokens_next = tokens_lent index grm _ _ c.deref-2.ensures.value all.next in
    passed_on index grm c.args.all.now state c.args.kernels.now c.pass_all-2.new.kernels c.args.waits.now c.pass_all-2.new.waits _
    (omega (arith, c.requires.state, c.requires.waits)) c.requires.propagated
    (passed_from grm c.requires.well_formed (all_transitions c.args.all.now) state before between after cores
    (subst (λ items. AreSame (IsAmong cores) (IsInClosure grm (IsAmong items))) (sym own) all.items) all.cores (kernel_rows index rules)
    (kernel_rows index tokens) rules_next tokens_next (length rules) (length tokens) (rows_len index rules) (rows_len index tokens)
    (ap (λ kernels. length kernels) c.deref.ensures.value ∙ all.next.rules_len) (ap (λ kernels. length kernels) c.deref-2.ensures.value ∙ all.next.tokens_len)
    c.rules_from.result.now c.tokens_from.result.now c.rules_from.ensures c.tokens_from.ensures by_rules.passed by_tokens.passed by_tokens.added.kept)
    (added_on before between after waited c.pass_all.new.waits c.pass_all-2.new.waits by_rules.added by_tokens.added)
    (by_tokens.kernels grm (by_rules.kernels grm c.requires.propagated.beginnings (kernels_lent index grm _ _ all Nonterminal _ rules_next))
    (kernels_lent index grm _ _ all Terminal _ tokens_next))
    (grown_on before between after waited c.pass_all.new.waits c.pass_all-2.new.waits c.in_ok-by_rules.by_rules c.in_ok-by_tokens.by_tokens
    by_rules.grown by_tokens.grown)
