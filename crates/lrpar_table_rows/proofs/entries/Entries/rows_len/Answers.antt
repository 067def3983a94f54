use Rattle.std.proofs.Common.{arith}
use Rattle.std.specs.List.{zip}
use Rattle.lrpar_table_rows.proofs.CutLemmas.{length-cut}
use Rattle.lrpar_table_rows.proofs.entries.Entries.rows_len.Goals as goal

pub returns : goal.returns
returns g c =
    let inside = c.self.inside in
    let rows = length-cut inside.starts.items (zip inside.keys.items inside.values.items) in
    rw (← c.self.view_is) (omega (arith, rows, c.len.ensures, inside.starts.ok.0))
