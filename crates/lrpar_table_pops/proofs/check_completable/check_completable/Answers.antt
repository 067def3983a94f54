use Rattle.std.proofs.Common.{◌≡◌, ◌∙◌, ap, subst}
use Rattle.std.specs.Prelude.{IfErr, OnOk}
use Rattle.lrpar_grammar.specs.Grammar.{Grammar}
use Rattle.lrpar_table_rows.specs.Table.{Table, FailsPastStates, FailsPastTokens, HasNoGotoPastRules}
use Rattle.lrpar_table_pops.specs.Completable.{AreAllCompletable}
use Rattle.lrpar_table_pops.specs.Parts.{Parts}
use Rattle.lrpar_table_pops.specs.StoredAll.{IsSoundTable}
use Rattle.lrpar_table_pops.specs.Stuck.{IsFault}
use Rattle.lrpar_table_pops.proofs.PartLemmas.{sound_same}
use Rattle.lrpar_table_pops.proofs.check_completable.check_completable.Goals as goal

pub new-whole-requires : goal.new-whole-requires
new-whole-requires g c =
    let d = c.args.checked.now in
    let sound : IsSoundTable d.grammar d.graph d.table = record {
      safe = c.stable-lemma.ensures.checked.safe;
      closed = c.stable-lemma.ensures.checked.closed;
      states = subst FailsPastStates c.stable.ensures.table c.states_len.ensures.no_action;
      tokens = subst FailsPastTokens c.stable-2.ensures.table c.tokens_len.ensures.end;
      rules = subst HasNoGotoPastRules c.stable-3.ensures.table c.rules_len.ensures.end;
    } in
    sound_same d.grammar c.grm.result.now d.graph c.sgraph.result.now d.table c.stable-4.result.now c.grm.ensures c.sgraph.ensures c.stable-4.ensures.table sound

pub returns-clause-completable : goal.returns-clause-completable
returns-clause-completable g c =
    let d = c.args.checked.now in
    let whole = c.new-whole.result in
    let grammar : whole.grammar ≡ d.grammar = ap (λ (p : Parts). p.grammar) c.new-whole.ensures ∙ c.grm.ensures in
    let table : whole.table ≡ d.table = ap (λ (p : Parts). p.table) c.new-whole.ensures ∙ c.stable-4.ensures.table in
    subst (λ (x : Grammar). OnOk c.check_whole.result (AreAllCompletable x d.table)) grammar
    (subst (λ (t : Table). OnOk c.check_whole.result (AreAllCompletable whole.grammar t)) table c.check_whole.ensures.completable)

pub returns-clause-fault : goal.returns-clause-fault
returns-clause-fault g c =
    let index = g.StorageT.StorageIndex.index in
    let d = c.args.checked.now in
    let whole = c.new-whole.result in
    let grammar : whole.grammar ≡ d.grammar = ap (λ (p : Parts). p.grammar) c.new-whole.ensures ∙ c.grm.ensures in
    let table : whole.table ≡ d.table = ap (λ (p : Parts). p.table) c.new-whole.ensures ∙ c.stable-4.ensures.table in
    subst (λ (x : Grammar). IfErr c.check_whole.result (IsFault index x d.table)) grammar
    (subst (λ (t : Table). IfErr c.check_whole.result (IsFault index whole.grammar t)) table c.check_whole.ensures.fault)
