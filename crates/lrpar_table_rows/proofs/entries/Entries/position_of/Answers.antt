use Rattle.std.proofs.Common.{slice_index_or, [], sym, subst}
use Rattle.std.specs.List.{zip}
use Rattle.std.specs.List.Sorted.{IsStrictlyIncreasing}
use Rattle.lrpar_table_rows.specs.Entries.{cut}
use Rattle.lrpar_table_rows.proofs.PackedLemmas.{numbers_are, place_read, searched_in_row}
use Rattle.lrpar_table_rows.proofs.entries.Entries.position_of.Goals as goal

pub returns-in-Some : goal.returns-in-Some
returns-in-Some g c =
    let inside = c.self.inside in
    place_read (cut inside.starts.items (zip inside.keys.items inside.values.items)) c.args.self.now (λ entry. g.K.Key.number entry.0)
    inside.packed.bases.items inside.packed.slots.items c.args.number (g.K.Key.number c.args.key) c.in-Some.own c.position.result c.self.view_is
    c.self.invariant.1 c.requires.row c.in-Some.ensures (rw c.to_number.ensures.value at c.position.ensures)

pub searched-requires : goal.searched-requires
searched-requires g c =
    subst IsStrictlyIncreasing
    (sym (numbers_are g.K.Key.number c.row.result.0.now c.row.result.1.now (slice_index_or c.args.self.now c.args.number []) c.row.ensures.values c.row.ensures.entries))
    c.requires.ascending

pub returns-in-None : goal.returns-in-None
returns-in-None g c =
    searched_in_row g.K.Key.number c.row.result.0.now c.row.result.1.now (slice_index_or c.args.self.now c.args.number []) c.row.ensures.values
    c.row.ensures.entries (g.K.Key.number c.args.key) c.searched.result (rw c.to_number-in-None.ensures.value at c.searched.ensures)
