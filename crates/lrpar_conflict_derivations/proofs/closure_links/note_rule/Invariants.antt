use Rattle.std.proofs.Common.{ℕ, take}
use Rattle.std.specs.List.{Contains}
use Rattle.lrpar_grammar.specs.Grammar.{rules_len}
use Rattle.lrpar_grammar.specs.Symbols.{prod_numbers}
use Rattle.lrpar_conflict_derivations.specs.ClosureLinks.{AreMarks, AreNoted, ArePut, IsLinkBelow, links_of}
use Rattle.lrpar_conflict_derivations.proofs.closure_links.note_rule.Given as goal

-- the productions so far have their links
abbrev pub invariant-loop-pidx : goal.invariant-loop-pidx
invariant-loop-pidx g l =
    let index = g.StorageT.StorageIndex.index in
    let token = index l.token.0 in
    let links = links_of index l.found.links.items in
    AreMarks (rules_len l.grm) links l.found.any.items l.found.asked.items
    × ArePut (IsLinkBelow l.grm token l.at (index l.link.rule.0) l.link.asked) (links_of index l.fn.found.links.items) links
    × ((p : ℕ) → Contains (prod_numbers index (take l.pidx-index l.pidx-items)) p → AreNoted l.grm token links p 0 l.link.asked)
