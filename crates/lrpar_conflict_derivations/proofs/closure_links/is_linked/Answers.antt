use Rattle.std.proofs.Common.{arith}
use Rattle.lrpar_conflict_derivations.specs.ClosureLinks.{links_of}
use Rattle.lrpar_conflict_derivations.proofs.MarkLemmas.{linked_by}
use Rattle.lrpar_conflict_derivations.proofs.closure_links.is_linked.Goals as goal

pub returns-then-asked : goal.returns-then-asked
returns-then-asked g c =
    let index = g.StorageT.StorageIndex.index in
    let found = c.args.found.now in
    let room = c.requires.marks.asked_room in
    let low = c.requires.rule in
    linked_by (links_of index found.links.items) found.asked.items _ c.args.asked c.requires.marks.asked_linked c.if-asked.true c.from.result (index c.args.rule.0) c.from.ensures
    (omega (arith, room, low, c.from.ensures)) c.index.result.now c.index.ensures

pub returns : goal.returns
returns g c =
    let index = g.StorageT.StorageIndex.index in
    let found = c.args.found.now in
    let low = c.requires.rule in
    linked_by (links_of index found.links.items) found.any.items _ c.args.asked c.requires.marks.any_linked c.if-asked.false c.from-2.result (index c.args.rule.0) c.from-2.ensures
    (omega (arith, low, c.from-2.ensures)) c.index-2.result.now c.index-2.ensures
