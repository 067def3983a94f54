use Rattle.std.proofs.Common.{◌≤◌, ◌⊎◌, arith, false, inl, inr, length}
use Rattle.std.proofs.lemmas.Bool.{OnFalse_from, OnTrue_at, ltb-false}
use Rattle.lrpar_conflict_derivations.specs.ClosureLinks.{HasLink, links_of}
use Rattle.lrpar_conflict_derivations.proofs.closure_links.goes_on.Goals as goal

pub returns-then-is_linked-clause-done : goal.returns-then-is_linked-clause-done
returns-then-is_linked-clause-done g c =
    let index = g.StorageT.StorageIndex.index in
    let links = c.args.found.now.links.items in
    OnFalse_from false ((length links ≤ c.args.at) ⊎ HasLink (links_of index links) c.args.asked (index c.args.rule.0))
    (λ is. inr (OnTrue_at c.if-is_linked.true c.is_linked.ensures))

pub returns-clause-done : goal.returns-clause-done
returns-clause-done g c =
    let index = g.StorageT.StorageIndex.index in
    let links = c.args.found.now.links.items in
    OnFalse_from _ ((length links ≤ c.args.at) ⊎ HasLink (links_of index links) c.args.asked (index c.args.rule.0))
    (λ is. inl (let low = ltb-false c.args.at c.len.result is in let full = c.args.found.now.links.ok.0 in omega (arith, low, full, c.len.ensures)))
