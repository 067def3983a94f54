use Rattle.std.proofs.Common.{sym}
use Rattle.lrpar_table_pops.proofs.ExitLemmas.{on_true, united_adds, united_room}
use Rattle.std.specs.Prelude.{IsTrue}
use Rattle.lrpar_grammar.specs.Tokens.{has}
use Rattle.lrpar_table_pops.proofs.GrowthLemmas.{found_grows}
use Rattle.lrpar_table_pops.proofs.GoodAllLemmas.{ways_set}
use Rattle.lrpar_table_pops.proofs.exits.Exits.unite.Goals as goal

pub returns-in-Some-clause-adds : goal.returns-in-Some-clause-adds
returns-in-Some-clause-adds c =
    united_adds c.self.inside.exits.items c.args.self.now c.in-Some.place c.args.way c.index_mut.result.now (sym c.self.view_is) c.in-Some.ensures.place.0
    c.index_mut.ensures.value c.args.tokens.now c.unite.new.tokens c.unite.ensures.adds

pub returns-in-Some-clause-grown : goal.returns-in-Some-clause-grown
returns-in-Some-clause-grown c =
    on_true c.unite.result (united_room c.self.inside.exits.items c.args.self.now c.in-Some.place c.args.way c.index_mut.result.now (sym c.self.view_is) c.in-Some.ensures.place.0
    c.index_mut.ensures.value c.unite.new.tokens) c.unite.ensures.grown

pub returns-in-Some-clause-all : goal.returns-in-Some-clause-all
returns-in-Some-clause-all c =
    found_grows c.self.inside.exits.items c.args.self.now c.in-Some.place c.args.way c.index_mut.result.now (sym c.self.view_is) c.in-Some.ensures.place
    c.index_mut.ensures.value (λ t. IsTrue (has c.args.tokens.now t)) c.unite.new.tokens c.unite.ensures.all

pub returns-in-Some-clause-ways : goal.returns-in-Some-clause-ways
returns-in-Some-clause-ways c =
    ways_set c.self.inside.exits.items c.args.self.now c.in-Some.place c.index_mut.result.now c.unite.new.tokens c.self.view_is c.index_mut.ensures.value
