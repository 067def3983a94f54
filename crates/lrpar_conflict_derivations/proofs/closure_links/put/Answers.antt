use Rattle.std.proofs.Common.{◌∷◌, ◌∙◌, [], ap}
use Rattle.std.proofs.lemmas.List.{map-append}
use Rattle.lrpar_conflict_derivations.specs.ClosureLinks.{link_of, links_of}
use Rattle.lrpar_conflict_derivations.proofs.MarkLemmas.{put_marked, put_unmarked}
use Rattle.lrpar_conflict_derivations.proofs.closure_links.put.Goals as goal

pub returns-in_ok-push : goal.returns-in_ok-push
returns-in_ok-push g c =
    let index = g.StorageT.StorageIndex.index in
    let links = c.args.links.now.items in
    put_unmarked (links_of index links) c.args.marks.now.items (link_of index c.args.link) c.requires.linked c.requires.rule c.from-rule.result c.from-rule.ensures
    c.index.result.now c.index.ensures c.if-not-index.true (links_of index c.push.new.self.items)
    (ap (links_of index) c.in_ok-push.ensures.items ∙ map-append (link_of index) links (c.args.link ∷ []))

pub returns-else-not-index : goal.returns-else-not-index
returns-else-not-index g c =
    let index = g.StorageT.StorageIndex.index in
    put_marked (links_of index c.args.links.now.items) c.args.marks.now.items (link_of index c.args.link) c.requires.linked c.requires.rule c.from-rule.result
    c.from-rule.ensures c.index.result.now c.index.ensures c.if-not-index.false
