use Rattle.std.specs.Option.{option_to_list}
use Rattle.std.proofs.Common.{◌∷◌}
use Rattle.lrpar_table_rows.proofs.TestLemmas.{accepted, refused}
use Rattle.lrpar_table_rows.specs.PlainRows.{plain_goto}
use Rattle.lrpar_table_check.proofs.LengthLemmas.{counted_long, counted_short}
use Rattle.lrpar_table_check.proofs.chains.Chains.is_long_from.Goals as goal

pub returns-in-Some : goal.returns-in-Some
returns-in-Some g c =
    let index = g.StorageT.StorageIndex.index in
    let start = index c.args.s.0 ∷ option_to_list (plain_goto index c.args.above) in
    refused (counted_short c.args.self.now.grm.now c.args.self.now.stable.now (index c.args.t.0) start c.args.self.now.cap _ _
    c.in_ok-count_reductions_from.ensures c.in-Some.is)

pub returns-in-None : goal.returns-in-None
returns-in-None g c =
    let index = g.StorageT.StorageIndex.index in
    let start = index c.args.s.0 ∷ option_to_list (plain_goto index c.args.above) in
    accepted (counted_long c.args.self.now.grm.now c.args.self.now.stable.now (index c.args.t.0) start c.args.self.now.cap _
    c.in_ok-count_reductions_from.ensures c.in-None.is)
