use Rattle.std.proofs.Common.{◌∙◌}
use Rattle.lrpar_grammar.specs.Symbols.{symbol_of}
use Rattle.lrpar_table_conditions.proofs.CoreLemmas.{core_in_shape}
use Rattle.lrpar_table_conditions.proofs.ItemwiseLemmas.{ends_each}
use Rattle.lrpar_table_rows.proofs.TestLemmas.{length_by_image}
use Rattle.lrpar_table_conditions.proofs.completeness_test.Completeness.ends_core.Goals as goal

pub prod-requires : goal.prod-requires
prod-requires g c =
    let index = g.StorageT.StorageIndex.index in
    (core_in_shape c.args.self.now.grm.now c.args.self.now.sgraph.now c.args.self.now.stable.now (index c.args.s.0) (index c.args.pidx.0) c.args.dot
    c.requires.known.shape c.requires.core).0

pub returns-else-dot-prod : goal.returns-else-dot-prod
returns-else-dot-prod g c =
    let index = g.StorageT.StorageIndex.index in
    ends_each c.args.self.now.grm.now c.args.self.now.sgraph.now c.args.self.now.stable.now (index c.args.s.0) (index c.args.pidx.0) c.args.dot
    c.ends_each.result (c.if-dot-prod.false ∙ length_by_image (symbol_of index) c.prod.result.now _ c.prod.ensures) c.ends_each.ensures
