use Rattle.std.proofs.Common.{◌≡◌, ◌<◌, ℕ}
use Rattle.lrpar_conflict_derivations.specs.ClosureLinks.{link_at, links_of}
use Rattle.lrpar_conflict_derivations.proofs.completion.number_of.Given as goal

-- none of the links so far is one of the rule
abbrev pub invariant-loop-number : goal.invariant-loop-number
invariant-loop-number g l =
    let index = g.StorageT.StorageIndex.index in
    let links = links_of index l.links in
    (i : ℕ) → i < l.number → (link_at links i).rule ≡ index l.rule.0 → (link_at links i).asked ≡ l.asked → ⊥
