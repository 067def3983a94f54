use Rattle.std.proofs.Common.{ℕ, map, take}
use Rattle.std.specs.List.{Contains}
use Rattle.lrpar_grammar.specs.Grammar.{rules_len, start_prod}
use Rattle.lrpar_table_rows.specs.PlainItems.{core_of}
use Rattle.lrpar_table_items.specs.Canonical.{sets_of}
use Rattle.lrpar_conflict_derivations.specs.ClosureLinks.{AreMarks, ArePut, IsKernelLink, IsNotedCore, links_of}
use Rattle.lrpar_conflict_derivations.proofs.closure_links.note_kernel.Given as goal

-- the start item has its links, and so have the cores so far
abbrev pub invariant-loop-core : goal.invariant-loop-core
invariant-loop-core g l =
    let index = g.StorageT.StorageIndex.index in
    let token = index l.token.0 in
    let set = sets_of l.graph (index l.state.0) in
    let links = links_of index l.found.links.items in
    AreMarks (rules_len l.grm) links l.found.any.items l.found.asked.items
    × ArePut (IsKernelLink l.grm set token) (links_of index l.fn.found.links.items) links
    × IsNotedCore l.grm set token links (start_prod l.grm) 0
    × ((q j : ℕ) → Contains (map (core_of index) (take l.core-index l.core-items)) (q, j) → IsNotedCore l.grm set token links q j)
