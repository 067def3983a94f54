use Rattle.std.proofs.Common.{◌∙◌, sym}
use Rattle.lrpar_table_rows.proofs.CutLemmas.{pairs_len_is}
use Rattle.lrpar_table_rows.proofs.entries.Entries.len.Goals as goal

pub returns : goal.returns
returns g c =
    let inside = c.self.inside in
    rw (← c.self.view_is)
    (c.len.ensures ∙ (inside.keys.ok.0 ∙ sym (pairs_len_is inside.starts.items inside.keys.items inside.values.items c.self.invariant.0)))
