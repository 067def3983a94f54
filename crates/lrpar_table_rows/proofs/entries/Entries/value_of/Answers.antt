use Rattle.std.proofs.Common.{slice_index_or, [], ap}
use Rattle.lrpar_table_rows.proofs.PackedLemmas.{value_read}
use Rattle.lrpar_table_rows.proofs.entries.Entries.value_of.Goals as goal

pub returns-in-Some : goal.returns-in-Some
returns-in-Some g c =
    value_read g.K.Key.number c.row.result.0.now c.row.result.1.now (slice_index_or c.args.self.now c.args.number []) c.row.ensures.values c.row.ensures.entries
    c.in-Some.place (g.K.Key.number c.args.key) _ c.in-Some.ensures.0 c.in-Some.ensures.1
    (ap (λ value. slice_index_or c.row.result.1.now c.in-Some.place value) c.index-row-place.is)
