use Rattle.std.proofs.Common.{◌≡◌, sym}
use Rattle.lrpar_table_pops.proofs.ExitLemmas.{inserted_adds}
use Rattle.lrpar_table_pops.proofs.GrowthLemmas.{found_grows}
use Rattle.lrpar_table_pops.proofs.exits.Exits.insert.Goals as goal

pub returns-in-Some-clause-adds : goal.returns-in-Some-clause-adds
returns-in-Some-clause-adds c =
    inserted_adds c.self.inside.exits.items c.args.self.now c.in-Some.place c.args.way c.index_mut.result.now (sym c.self.view_is) c.in-Some.ensures.place.0
    c.index_mut.ensures.value c.args.token c.insert.new.tokens c.insert.ensures.adds

pub returns-in-Some-clause-all : goal.returns-in-Some-clause-all
returns-in-Some-clause-all c =
    found_grows c.self.inside.exits.items c.args.self.now c.in-Some.place c.args.way c.index_mut.result.now (sym c.self.view_is) c.in-Some.ensures.place
    c.index_mut.ensures.value (λ t. t ≡ c.args.token) c.insert.new.tokens c.insert.ensures.all
