use Rattle.std.proofs.Common.{◌<◌, arith, length}
use Rattle.lrpar_table_pops.proofs.StoredLemmas.{at_added}
use Rattle.lrpar_table_pops.proofs.StoredAllLemmas.{at_same, at_stores}
use Rattle.lrpar_table_pops.proofs.pops.Pops.unite_at.Goals as goal

pub returns-clause-stays : goal.returns-clause-stays
returns-clause-stays c =
    let long = c.self.inside.states.ok.0 in
    let low : c.args.state < length c.self.inside.states.items = omega (arith, c.len.ensures, c.if-state-len.false, long) in
    at_added c.self.inside.states.items c.args.self.now c.args.state c.index_mut.result.now c.unite_at.new.self c.args.token c.args.exits.now c.self.view_is low
    c.index_mut.ensures.value c.unite_at.ensures.at c.unite_at.ensures.any

pub returns-clause-all : goal.returns-clause-all
returns-clause-all c =
    let long = c.self.inside.states.ok.0 in
    let low : c.args.state < length c.self.inside.states.items = omega (arith, c.len.ensures, c.if-state-len.false, long) in
    at_stores c.self.inside.states.items c.args.self.now c.self.view_is c.args.state c.index_mut.result.now c.unite_at.new.self low c.index_mut.ensures.value
    c.args.token c.args.exits.now c.unite_at.ensures.all c.unite_at.ensures.any

pub returns-clause-same : goal.returns-clause-same
returns-clause-same c =
    let long = c.self.inside.states.ok.0 in
    let low : c.args.state < length c.self.inside.states.items = omega (arith, c.len.ensures, c.if-state-len.false, long) in
    at_same c.self.inside.states.items c.args.self.now c.self.view_is c.args.state c.index_mut.result.now c.unite_at.new.self low c.index_mut.ensures.value
    c.unite_at.result c.unite_at.ensures.same c.unite_at.ensures.any
