use Rattle.std.proofs.Common.{◌<◌, sym, subst}
use Rattle.lrpar_grammar.specs.Grammar.{Terminal}
use Rattle.lrpar_table_conditions.proofs.CoreLemmas.{core_in_shape, core_known}
use Rattle.lrpar_table_conditions.proofs.ItemwiseLemmas.{each_of_kind, nothing_to_step, token_low, tokens_apart}
use Rattle.lrpar_table_conditions.proofs.completeness_test.Completeness.shifts_core.Goals as goal

pub token_after-requires : goal.token_after-requires
token_after-requires g c =
    let index = g.StorageT.StorageIndex.index in
    (core_known index c.args.self.now c.args.s c.args.pidx c.args.dot c.requires.known c.requires.core).0

pub shifts_to-requires-clause-token : goal.shifts_to-requires-clause-token
shifts_to-requires-clause-token g c =
    let index = g.StorageT.StorageIndex.index in
    let p = index c.args.pidx.0 in
    let known = (core_in_shape c.args.self.now.grm.now c.args.self.now.sgraph.now c.args.self.now.stable.now (index c.args.s.0) p c.args.dot
    c.requires.known.shape c.requires.core).0 in
    let low = token_low c.args.self.now.grm.now c.requires.known.well_formed p c.args.dot (index c.in-Some.token.0) known c.in-Some.ensures in
    subst (λ n. index c.in-Some.token.0 < n) (sym c.requires.known.shape.tokens) low

pub shifts_to-requires-clause-prod : goal.shifts_to-requires-clause-prod
shifts_to-requires-clause-prod g c =
    let index = g.StorageT.StorageIndex.index in
    (core_known index c.args.self.now c.args.s c.args.pidx c.args.dot c.requires.known c.requires.core).0

pub returns-in-Some : goal.returns-in-Some
returns-in-Some g c =
    let index = g.StorageT.StorageIndex.index in
    each_of_kind Terminal tokens_apart c.args.self.now.grm.now c.args.self.now.sgraph.now c.args.self.now.stable.now (index c.args.s.0) (index c.args.pidx.0) c.args.dot
    (index c.in-Some.token.0) c.shifts_to.result c.in-Some.ensures c.shifts_to.ensures

pub returns-in-None : goal.returns-in-None
returns-in-None g c =
    let index = g.StorageT.StorageIndex.index in
    nothing_to_step Terminal c.args.self.now.grm.now c.args.self.now.sgraph.now c.args.self.now.stable.now (index c.args.s.0) (index c.args.pidx.0) c.args.dot
    c.in-None.ensures
