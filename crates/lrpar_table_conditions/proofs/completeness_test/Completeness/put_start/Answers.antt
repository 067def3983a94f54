use Rattle.std.proofs.Common.{◌∙◌, ◌<◌, IsTrue, length, rules}
use Rattle.lrpar_table_first.specs.FirstRows.{row_at, rows_of}
use Rattle.lrpar_grammar.specs.Tokens.{has}
use Rattle.lrpar_table_rows.specs.Graph.{HasItem}
use Rattle.lrpar_table_conditions.proofs.ItemwiseLemmas.{no_start, start_put, start_wide, start_of_core, starts_room}
use Rattle.lrpar_table_conditions.proofs.completeness_test.Completeness.put_start.Goals as goal

pub bounds-starts-prod : goal.bounds-starts-prod
bounds-starts-prod g c =
    start_of_core g.StorageT.StorageIndex.index c.args.self.now c.args.s c.args.pidx c.args.dot c.args.starts.now c.from-prod.result c.requires.known c.requires.core c.requires.room c.from-prod.ensures

pub offset_bounds-starts-prod : goal.offset_bounds-starts-prod
offset_bounds-starts-prod g c =
    let within : c.from-prod.result < length c.args.starts.now = bounds-starts-prod g c in
    search rules

pub add_lookaheads-requires-clause-room : goal.add_lookaheads-requires-clause-room
add_lookaheads-requires-clause-room g c =
    let index = g.StorageT.StorageIndex.index in
    let within = start_of_core index c.args.self.now c.args.s c.args.pidx c.args.dot c.args.starts.now c.from-prod.result c.requires.known c.requires.core c.requires.room c.from-prod.ensures in
    let wide = start_wide c.args.self.now.grm.now c.args.starts.now c.from-prod.result c.index-starts-prod.result c.requires.room within in
    wide

pub returns-then-dot-eq0-clause-room : goal.returns-then-dot-eq0-clause-room
returns-then-dot-eq0-clause-room g c =
    let index = g.StorageT.StorageIndex.index in
    let within = start_of_core index c.args.self.now c.args.s c.args.pidx c.args.dot c.args.starts.now c.from-prod.result c.requires.known c.requires.core c.requires.room c.from-prod.ensures in
    let wide = start_wide c.args.self.now.grm.now c.args.starts.now c.from-prod.result c.index-starts-prod.result c.requires.room within in
    starts_room c.args.self.now.grm.now c.args.starts.now c.from-prod.result c.add_lookaheads.new.set c.requires.room (c.add_lookaheads.ensures.room ∙ wide)

pub returns-then-dot-eq0-clause-put : goal.returns-then-dot-eq0-clause-put
returns-then-dot-eq0-clause-put g c =
    let index = g.StorageT.StorageIndex.index in
    let s = index c.args.s.0 in
    let within = start_of_core index c.args.self.now c.args.s c.args.pidx c.args.dot c.args.starts.now c.from-prod.result c.requires.known c.requires.core c.requires.room c.from-prod.ensures in
    λ q t.
    start_put c.args.starts.now (index c.args.pidx.0) c.from-prod.result c.args.dot q t c.index-starts-prod.result c.add_lookaheads.new.set
    (HasItem c.args.self.now.sgraph.now s) within c.from-prod.ensures c.if-dot-eq0.true c.add_lookaheads.ensures.put

pub returns-else-dot-eq0-clause-put : goal.returns-else-dot-eq0-clause-put
returns-else-dot-eq0-clause-put g c =
    let index = g.StorageT.StorageIndex.index in
    λ q t.
    no_start (index c.args.pidx.0) c.args.dot q (IsTrue (has (row_at (rows_of c.args.starts.now) q) t)) (HasItem c.args.self.now.sgraph.now (index c.args.s.0) q 0 t)
    c.if-dot-eq0.false
