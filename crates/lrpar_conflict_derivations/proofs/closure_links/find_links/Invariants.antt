use Rattle.std.proofs.Common.{◌<◌, ◌≤◌, ◌-◌, ◌*◌, ℕ, length}
use Rattle.lrpar_grammar.specs.Grammar.{rules_len}
use Rattle.lrpar_table_items.specs.Canonical.{sets_of}
use Rattle.lrpar_conflict_derivations.specs.ClosureLinks.{AreKernelItemsNoted, AreLinks, AreMarks, AreNotedOf, link_at, links_of}
use Rattle.lrpar_conflict_derivations.proofs.closure_links.find_links.Given as goal

-- the links are good; the kernel items have theirs, and so have the rules of the links so far
abbrev pub invariant-links : goal.invariant-links
invariant-links g l =
    let index = g.StorageT.StorageIndex.index in
    let token = index l.token.0 in
    let set = sets_of l.graph (index l.fn.state.0) in
    let links = links_of index l.found.links.items in
    AreMarks (rules_len l.grm) links l.found.any.items l.found.asked.items
    × AreLinks l.grm set token links
    × AreKernelItemsNoted l.grm set token links
    × ((i : ℕ) → i < l.at → AreNotedOf l.grm token links (link_at links i).rule (link_at links i).asked)
    × (l.at ≤ length links)

abbrev pub decreases-links : goal.decreases-links
decreases-links g l = 2 * rules_len l.grm - l.at
