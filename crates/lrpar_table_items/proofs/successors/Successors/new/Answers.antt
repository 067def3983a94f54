use Rattle.std.proofs.Common.{◌∙◌, sym, ap, subst, map, All}
use Rattle.std.proofs.lemmas.List.{take_all}
use Rattle.lrpar_grammar.specs.Grammar.{Nonterminal, Terminal}
use Rattle.lrpar_grammar_places.proofs.ListLemmas.{All-map-at}
use Rattle.lrpar_table_items.specs.Cores.{IsCoreOf, core_set}
use Rattle.lrpar_table_items.specs.Next.{kernel_rows, AreNext}
use Rattle.lrpar_table_items.proofs.SuccessorLemmas.{back_len, back_next}
use Rattle.lrpar_table_items.proofs.successors.Successors.new.Goals as goal

pub put_next-requires-clause-core : goal.put_next-requires-clause-core
put_next-requires-clause-core g c =
    let index = g.StorageT.StorageIndex.index in
    let value = c.deref-core-items.ensures.value in
    let all = subst (λ cores. All (IsCoreOf c.args.grm.now) (map (core_set index) cores)) (sym value) c.requires.cores in
    subst (λ core. IsCoreOf c.args.grm.now (core_set index core)) (sym c.core-item.is)
    (All-map-at (IsCoreOf c.args.grm.now) (core_set index) c.deref-core-items.result.now all c.loop-core.core-index c.core-item.result c.loop-core-test.true)

pub loop-core-preserved : goal.loop-core-preserved
loop-core-preserved g c =
    let index = g.StorageT.StorageIndex.index in
    let grm = c.args.grm.now in
    let cores = c.deref-core-items.result.now in
    let core = c.core-item.result in
    let i = c.loop-core.core-index in
    let low = c.loop-core-test.true in
    let so_far = c.loop-core.invariant in
    let rules = c.loop-core.rules in
    let tokens = c.loop-core.tokens in
    let put = c.in_ok-put_next.ensures in record {
      rules_len =
          back_len index rules.items c.deref_mut.result.now c.put_next.new.rules rules.len (sym rules.ok.0) c.deref_mut.ensures.value c.put_next.auto.rules
          ∙ so_far.rules_len;
      tokens_len =
          back_len index tokens.items c.deref_mut-in-loop-core.result.now c.put_next.new.tokens tokens.len (sym tokens.ok.0)
          c.deref_mut-in-loop-core.ensures.value c.put_next.auto.tokens
          ∙ so_far.tokens_len;
      rules =
          back_next index rules.items c.deref_mut.result.now c.put_next.new.rules rules.len (sym rules.ok.0) c.deref_mut.ensures.value
          c.put_next.auto.rules grm Nonterminal cores i core low c.core-item.is so_far.rules put.rules;
      tokens =
          back_next index tokens.items c.deref_mut-in-loop-core.result.now c.put_next.new.tokens tokens.len (sym tokens.ok.0)
          c.deref_mut-in-loop-core.ensures.value c.put_next.auto.tokens grm Terminal cores i core low c.core-item.is so_far.tokens put.tokens;
    }

pub returns-clause-successors : goal.returns-clause-successors
returns-clause-successors g c =
    let index = g.StorageT.StorageIndex.index in
    let grm = c.args.grm.now in
    let so_far = c.loop-core.invariant in
    let whole = ap (map (core_set index)) (take_all c.loop-core.core-index c.deref-core-items.result.now c.loop-core-test.false ∙ c.deref-core-items.ensures.value) in record {
      rules_len = so_far.rules_len;
      tokens_len = so_far.tokens_len;
      rules = subst (λ cores. AreNext grm cores Nonterminal (kernel_rows index c.loop-core.rules.items)) whole so_far.rules;
      tokens = subst (λ cores. AreNext grm cores Terminal (kernel_rows index c.loop-core.tokens.items)) whole so_far.tokens;
    }
