use Rattle.std.proofs.Common.{◌∙◌, ◌↔◌, IsTrue, List, subst}
use Rattle.std.proofs.lemmas.Bool.{iff_false}
use Rattle.lrpar_table_first.specs.FirstRows.{rows_of}
use Rattle.lrpar_grammar.specs.declared.token_set.TokenSet.{TokenSet}
use Rattle.lrpar_table_conditions.specs.Itemwise.{ClosesAmong, EachOfCore}
use Rattle.lrpar_table_conditions.proofs.CoreLemmas.{core_read}
use Rattle.lrpar_table_conditions.proofs.ItemwiseLemmas.{core_each, core_more}
use Rattle.lrpar_table_rows.proofs.TestLemmas.{accepted, refused}
use Rattle.lrpar_table_conditions.proofs.completeness_test.Completeness.closes_each.Goals as goal

pub closes_core-requires-clause-core : goal.closes_core-requires-clause-core
closes_core-requires-clause-core g c =
    let index = g.StorageT.StorageIndex.index in
    core_read index c.args.self.now.sgraph.now (index c.args.s.0) c.cores-pidx-items.result.now c.loop-pidx.pidx-index c.loop-pidx-item.result
    c.cores-pidx-items.ensures.all c.loop-pidx-test.true c.loop-pidx-item.is

pub returns-then-not-closes_core-clause-test : goal.returns-then-not-closes_core-clause-test
returns-then-not-closes_core-clause-test g c =
    let index = g.StorageT.StorageIndex.index in
    let core = c.loop-pidx-item.result in
    let test = subst (λ (sets : List TokenSet). IsTrue c.closes_core.result
    ↔ EachOfCore c.args.self.now.sgraph.now (index c.args.s.0) (index core.0.0) core.1 (ClosesAmong c.args.self.now.grm.now (rows_of sets)))
    c.loop-pidx.invariant.1 c.closes_core.ensures.test in
    refused (λ each. iff_false test c.if-not-closes_core.true (each (index core.0.0) core.1))

pub returns-then-not-closes_core-clause-kept : goal.returns-then-not-closes_core-clause-kept
returns-then-not-closes_core-clause-kept g c = c.closes_core.ensures.kept ∙ c.loop-pidx.invariant.1

pub loop-pidx-preserved : goal.loop-pidx-preserved
loop-pidx-preserved g c =
    let index = g.StorageT.StorageIndex.index in
    let grm = c.args.self.now.grm.now in
    let graph = c.args.self.now.sgraph.now in
    let s = index c.args.s.0 in
    let core = c.loop-pidx-item.result in
    let test = subst (λ (sets : List TokenSet). IsTrue c.closes_core.result
    ↔ EachOfCore graph s (index core.0.0) core.1 (ClosesAmong grm (rows_of sets))) c.loop-pidx.invariant.1 c.closes_core.ensures.test in (
      c.closes_core.ensures.room,
      c.closes_core.ensures.kept ∙ c.loop-pidx.invariant.1,
      core_more index graph s (ClosesAmong grm (rows_of c.args.sets.now.starts.items)) c.cores-pidx-items.result.now c.loop-pidx.pidx-index core
          c.loop-pidx-test.true c.loop-pidx-item.is (test.0 c.if-not-closes_core.false) c.loop-pidx.invariant.2,
    )

pub returns-clause-test : goal.returns-clause-test
returns-clause-test g c =
    let index = g.StorageT.StorageIndex.index in
    accepted (core_each index c.args.self.now.sgraph.now (index c.args.s.0) (ClosesAmong c.args.self.now.grm.now (rows_of c.args.sets.now.starts.items))
    c.cores-pidx-items.result.now c.loop-pidx.pidx-index c.cores-pidx-items.ensures.all c.loop-pidx-test.false c.loop-pidx.invariant.2)
