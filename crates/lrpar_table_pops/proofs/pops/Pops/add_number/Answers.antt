use Rattle.std.proofs.Common.{◌≡◌}
use Rattle.lrpar_table_pops.proofs.SaturateLemmas.{number_saturates}
use Rattle.lrpar_table_pops.proofs.pops.Pops.add_number.Goals as goal

pub returns-clause-all : goal.returns-clause-all
returns-clause-all g c =
    let index = g.StorageT.StorageIndex.index in
    let d = c.args.checked.now in
    let same : index c.unwrap.result ≡ c.args.number = rw c.unwrap.ensures at c.from_index.ensures.back in
    number_saturates d.grammar d.graph d.table (index c.unwrap.result) c.args.number same c.add_state.result _ c.args.self.now c.add_state.new.self c.args.found.now
    c.add_state.new.found c.add_state.ensures.all
