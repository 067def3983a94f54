use Rattle.std.proofs.Common.{length}
use Rattle.std.proofs.lemmas.Result.{on_ok_weaker}
use Rattle.lrpar_conflict_derivations.specs.ClosureLinks.{link_of, links_of}
use Rattle.lrpar_conflict_derivations.proofs.MarkLemmas.{marks_any, marks_asked}
use Rattle.lrpar_conflict_derivations.proofs.closure_links.add.Goals as goal

pub returns-then-link-clause-marks : goal.returns-then-link-clause-marks
returns-then-link-clause-marks g c =
    let index = g.StorageT.StorageIndex.index in
    let found = c.args.found.now in
    on_ok_weaker c.put.result
    (marks_asked (length found.any.items) (links_of index found.links.items) (links_of index c.put.new.links.items) found.any.items found.asked.items
    c.put.new.marks.items c.requires.marks (link_of index c.args.link) c.if-link.true)
    c.put.ensures

pub returns-else-link-clause-marks : goal.returns-else-link-clause-marks
returns-else-link-clause-marks g c =
    let index = g.StorageT.StorageIndex.index in
    let found = c.args.found.now in
    on_ok_weaker c.put-else-link.result
    (marks_any (length found.any.items) (links_of index found.links.items) (links_of index c.put-else-link.new.links.items) found.any.items found.asked.items
    c.put-else-link.new.marks.items c.requires.marks (link_of index c.args.link) c.if-link.false)
    c.put-else-link.ensures
