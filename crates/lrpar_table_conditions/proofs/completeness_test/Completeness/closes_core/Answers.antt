use Rattle.std.proofs.Common.{◌↔◌, IsTrue, List, map, subst}
use Rattle.lrpar_grammar.specs.Symbols.{symbol_of}
use Rattle.lrpar_table_first.specs.FirstRows.{IsFirstBefore, rows_of}
use Rattle.lrpar_grammar.specs.declared.token_set.TokenSet.{TokenSet}
use Rattle.lrpar_table_rows.specs.Graph.{HasItem}
use Rattle.lrpar_table_conditions.specs.Itemwise.{ClosesAmong, EachOfCore}
use Rattle.lrpar_table_conditions.proofs.CoreLemmas.{core_known}
use Rattle.lrpar_table_conditions.proofs.ItemwiseLemmas.{closed_core, nothing_to_close, only_put}
use Rattle.lrpar_table_conditions.proofs.completeness_test.Completeness.closes_core.Goals as goal

pub rule_after-requires-clause-prod : goal.rule_after-requires-clause-prod
rule_after-requires-clause-prod g c = (core_known g.StorageT.StorageIndex.index c.args.self.now c.args.s c.args.pidx c.args.dot c.requires.known c.requires.core).0

pub rule_after-requires-clause-dot : goal.rule_after-requires-clause-dot
rule_after-requires-clause-dot g c = (core_known g.StorageT.StorageIndex.index c.args.self.now c.args.s c.args.pidx c.args.dot c.requires.known c.requires.core).1

pub returns-in-Some-clause-test : goal.returns-in-Some-clause-test
returns-in-Some-clause-test g c =
    let index = g.StorageT.StorageIndex.index in
    let grm = c.args.self.now.grm.now in
    let graph = c.args.self.now.sgraph.now in
    let s = index c.args.s.0 in
    let p = index c.args.pidx.0 in
    let rest = map (symbol_of index) c.in-Some.rest.now in
    let after = c.add_lookaheads.new.set in
    let begun = c.add_first_before.new.set in
    let test = c.starts_cover.result in
    let are = only_put c.clear.new.self after (HasItem graph s p c.args.dot) c.clear.ensures.none c.add_lookaheads.ensures.put in
    let firsts = only_put c.clear-in-Some.new.self begun (IsFirstBefore grm after rest) c.clear-in-Some.ensures.none c.add_first_before.ensures.tokens in
    let P : List TokenSet → Type 0 = λ sets. IsTrue test ↔ EachOfCore graph s p c.args.dot (ClosesAmong grm (rows_of sets)) in
    subst P c.deref.ensures.value
    (closed_core grm graph s (rows_of c.deref.result.now) p c.args.dot (index c.in-Some.rule.0) rest after begun test c.in-Some.ensures.rule are firsts
    c.starts_cover.ensures)

pub returns-in-None-clause-test : goal.returns-in-None-clause-test
returns-in-None-clause-test g c =
    let index = g.StorageT.StorageIndex.index in
    nothing_to_close c.args.self.now.grm.now c.args.self.now.sgraph.now (index c.args.s.0) (rows_of c.args.sets.now.starts.items) (index c.args.pidx.0) c.args.dot
    c.in-None.ensures.rule
