use Rattle.std.proofs.Common.{◌<◌, arith, length}
use Rattle.lrpar_table_pops.proofs.StoredLemmas.{any_added}
use Rattle.lrpar_table_pops.proofs.StoredAllLemmas.{any_same, any_stores}
use Rattle.lrpar_table_pops.proofs.pops.Pops.unite_any.Goals as goal

pub returns-clause-stays : goal.returns-clause-stays
returns-clause-stays c =
    let long = c.self.inside.states.ok.0 in
    let low : c.args.state < length c.self.inside.states.items = omega (arith, c.len.ensures, c.if-state-len.false, long) in
    any_added c.self.inside.states.items c.args.self.now c.args.state c.index_mut.result.now c.unite_any.new.self c.args.exits.now c.self.view_is low
    c.index_mut.ensures.value c.unite_any.ensures.any c.unite_any.ensures.at

pub returns-clause-all : goal.returns-clause-all
returns-clause-all c =
    let long = c.self.inside.states.ok.0 in
    let low : c.args.state < length c.self.inside.states.items = omega (arith, c.len.ensures, c.if-state-len.false, long) in
    any_stores c.self.inside.states.items c.args.self.now c.self.view_is c.args.state c.index_mut.result.now c.unite_any.new.self low c.index_mut.ensures.value
    c.args.exits.now c.unite_any.ensures.all c.unite_any.ensures.at

pub returns-clause-same : goal.returns-clause-same
returns-clause-same c =
    let long = c.self.inside.states.ok.0 in
    let low : c.args.state < length c.self.inside.states.items = omega (arith, c.len.ensures, c.if-state-len.false, long) in
    any_same c.self.inside.states.items c.args.self.now c.self.view_is c.args.state c.index_mut.result.now c.unite_any.new.self low c.index_mut.ensures.value
    c.unite_any.result c.unite_any.ensures.same c.unite_any.ensures.at
