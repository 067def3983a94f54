use Rattle.std.proofs.Common.{◌+◌, slice_index_or, [], arith}
use Rattle.std.proofs.lemmas.List.{get_or_read}
use Rattle.lrpar_table_rows.proofs.CutLemmas.{row_at, row_is}
use Rattle.lrpar_table_rows.proofs.PackedLemmas.{keys_len}
use Rattle.lrpar_table_rows.proofs.entries.Entries.row.Goals as goal

pub index-start-requires : goal.index-start-requires
index-start-requires g c =
    let at =
    row_at c.self.inside.starts.items c.self.inside.keys.items c.self.inside.values.items c.args.self.now c.args.number c.self.invariant.0
    c.self.view_is c.requires in
    omega (arith, at.next, c.self.inside.starts.ok.0)

pub overflow_add-number : goal.overflow_add-number
overflow_add-number g c =
    let at =
    row_at c.self.inside.starts.items c.self.inside.keys.items c.self.inside.values.items c.args.self.now c.args.number c.self.invariant.0
    c.self.view_is c.requires in
    omega (arith, at.next, c.self.inside.starts.ok.0)

pub index-end-requires : goal.index-end-requires
index-end-requires g c =
    let at =
    row_at c.self.inside.starts.items c.self.inside.keys.items c.self.inside.values.items c.args.self.now c.args.number c.self.invariant.0
    c.self.view_is c.requires in
    omega (arith, at.next, c.self.inside.starts.ok.0)

pub parts-requires-clause-up : goal.parts-requires-clause-up
parts-requires-clause-up g c =
    let at =
    row_at c.self.inside.starts.items c.self.inside.keys.items c.self.inside.values.items c.args.self.now c.args.number c.self.invariant.0
    c.self.view_is c.requires in
    let from = get_or_read c.self.inside.starts.items c.args.number c.index-start.result.now (omega (arith, at.next)) c.index-start.ensures 0 in
    let to = get_or_read c.self.inside.starts.items (c.args.number + 1) c.index-end.result.now at.next c.index-end.ensures 0 in
    omega (arith, at.up, from, to)

pub parts-requires-clause-within : goal.parts-requires-clause-within
parts-requires-clause-within g c =
    let at =
    row_at c.self.inside.starts.items c.self.inside.keys.items c.self.inside.values.items c.args.self.now c.args.number c.self.invariant.0
    c.self.view_is c.requires in
    let to = get_or_read c.self.inside.starts.items (c.args.number + 1) c.index-end.result.now at.next c.index-end.ensures 0 in
    rw c.deref.ensures.value (omega (arith, at.within, to))

pub returns-clause-entries : goal.returns-clause-entries
returns-clause-entries g c =
    let inside = c.self.inside in
    let at =
    row_at inside.starts.items inside.keys.items inside.values.items c.args.self.now c.args.number c.self.invariant.0 c.self.view_is c.requires in
    let from = get_or_read inside.starts.items c.args.number c.index-start.result.now (omega (arith, at.next)) c.index-start.ensures 0 in
    let to = get_or_read inside.starts.items (c.args.number + 1) c.index-end.result.now at.next c.index-end.ensures 0 in
    row_is inside.starts.items inside.keys.items c.parts.result.0.now inside.values.items c.parts.result.1.now c.args.self.now c.args.number
    c.index-start.result.now c.index-end.result.now c.self.invariant.0 c.self.view_is c.requires from to
    (rw c.deref.ensures.value at c.parts.ensures.keys) (rw c.deref-2.ensures.value at c.parts.ensures.values)

pub returns-clause-len : goal.returns-clause-len
returns-clause-len g c =
    let inside = c.self.inside in
    let at =
    row_at inside.starts.items inside.keys.items inside.values.items c.args.self.now c.args.number c.self.invariant.0 c.self.view_is c.requires in
    let from = get_or_read inside.starts.items c.args.number c.index-start.result.now (omega (arith, at.next)) c.index-start.ensures 0 in
    let to = get_or_read inside.starts.items (c.args.number + 1) c.index-end.result.now at.next c.index-end.ensures 0 in
    let entries =
    row_is inside.starts.items inside.keys.items c.parts.result.0.now inside.values.items c.parts.result.1.now c.args.self.now c.args.number
    c.index-start.result.now c.index-end.result.now c.self.invariant.0 c.self.view_is c.requires from to
    (rw c.deref.ensures.value at c.parts.ensures.keys) (rw c.deref-2.ensures.value at c.parts.ensures.values) in
    let same = keys_len (λ k. 0) c.parts.result.0.now c.parts.result.1.now (slice_index_or c.args.self.now c.args.number []) c.parts.ensures.paired entries in
    omega (arith, same, c.parts.ensures.paired)
