use Rattle.std.proofs.Common.{◌<◌, arith, length}
use Rattle.lrpar_table_pops.specs.Exits.{HasExit}
use Rattle.lrpar_table_pops.proofs.StoredLemmas.{adds_at}
use Rattle.lrpar_table_pops.specs.Growth.{SomeHasLookahead}
use Rattle.lrpar_table_pops.proofs.StoredAllLemmas.{lists_grow}
use Rattle.lrpar_table_pops.proofs.pops.StateExits.unite_at.Goals as goal

pub returns-clause-at : goal.returns-clause-at
returns-clause-at c =
    let long = c.args.self.now.at.ok.0 in
    let low : c.args.token < length c.args.self.now.at.items = omega (arith, c.len.ensures, c.if-token-len.false, long) in
    adds_at c.args.self.now.at.items c.args.token c.index_mut.result.now c.unite_all.new.self (HasExit c.args.exits.now) low c.index_mut.ensures.value
    c.unite_all.ensures.adds

pub returns-clause-all : goal.returns-clause-all
returns-clause-all c =
    let long = c.args.self.now.at.ok.0 in
    let low : c.args.token < length c.args.self.now.at.items = omega (arith, c.len.ensures, c.if-token-len.false, long) in
    lists_grow c.args.self.now.at.items c.args.token c.index_mut.result.now c.unite_all.new.self (SomeHasLookahead c.args.exits.now) low c.index_mut.ensures.value
    c.unite_all.ensures.all
