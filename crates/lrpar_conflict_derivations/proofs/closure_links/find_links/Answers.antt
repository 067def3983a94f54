use Rattle.std.proofs.Common.{◌<◌, ◌≤◌, List, [], inl, inr, sym, subst, arith, length}
use Rattle.std.proofs.lemmas.Bool.{OnFalse_at, OnTrue_at}
use Rattle.std.proofs.lemmas.List.{length-map}
use Rattle.lrpar_grammar.specs.Grammar.{rules_len}
use Rattle.lrpar_table_items.specs.Canonical.{sets_of}
use Rattle.lrpar_conflict_derivations.specs.ClosureLinks.{ArePut, HasLink, IsKernelLink, IsLinkBelow, LinkOf, link_at, link_of, links_of}
use Rattle.lrpar_conflict_derivations.proofs.LinkLemmas.{all_linked, begun_kept, length_put, link_is, links_begun, links_below, ofs_more, rule_within}
use Rattle.lrpar_conflict_derivations.proofs.closure_links.find_links.Goals as goal

pub links-init : goal.links-init
links-init g c =
    let index = g.StorageT.StorageIndex.index in
    let grm = c.args.grm.now in
    let set = sets_of c.args.graph.now (index c.args.state.0) in
    let token = index c.args.token.0 in
    let new = links_of index c.note_kernel.new.found.links.items in
    let put : ArePut (IsKernelLink grm set token) [] new =
    subst (λ (old : List LinkOf). ArePut (IsKernelLink grm set token) old new) c.requires.none c.in_ok-note_kernel.ensures.put in (
      c.in_ok-note_kernel.ensures.marks,
      links_begun grm set token [] new (λ i low. absurd (omega arith)) put,
      c.in_ok-note_kernel.ensures.noted,
      λ i low. absurd (omega arith),
      omega arith,
    )

pub note_rule-requires-clause-rule : goal.note_rule-requires-clause-rule
note_rule-requires-clause-rule g c =
    let index = g.StorageT.StorageIndex.index in
    let grm = c.args.grm.now in
    let set = sets_of c.args.graph.now (index c.args.state.0) in
    let token = index c.args.token.0 in
    let links = c.links.found.links.items in
    let i = c.links.at in
    let low : i < length links = OnTrue_at c.links-test.true c.goes_on.ensures.more in
    let same = link_is index links i c.index-link.result.now low c.index-link.ensures in
    let there : i < length (links_of index links) = let long = length-map links (link_of index) in omega (arith, long, low) in
    let own = rule_within grm set token c.requires.asked.well_formed (link_at (links_of index links) i) (c.links.invariant.1 i there).step in
    subst (λ (x : LinkOf). x.rule < rules_len grm) (sym same) own.1

pub links-smaller : goal.links-smaller
links-smaller g c =
    let index = g.StorageT.StorageIndex.index in
    let links = c.links.found.links.items in
    let low : c.links.at < length links = OnTrue_at c.links-test.true c.goes_on.ensures.more in
    let long = length-map links (link_of index) in
    let bound = c.links.invariant.0.bounded in omega (arith, long, low, bound)

pub links-preserved : goal.links-preserved
links-preserved g c =
    let index = g.StorageT.StorageIndex.index in
    let grm = c.args.grm.now in
    let set = sets_of c.args.graph.now (index c.args.state.0) in
    let token = index c.args.token.0 in
    let well = c.requires.asked.well_formed in
    let links = c.links.found.links.items in
    let old = links_of index links in
    let new = links_of index c.note_rule.new.found.links.items in
    let i = c.links.at in
    let link = c.index-link.result.now in
    let x = link_of index link in
    let low : i < length links = OnTrue_at c.links-test.true c.goes_on.ensures.more in
    let same = link_is index links i link low c.index-link.ensures in
    let there : i < length old = let long = length-map links (link_of index) in omega (arith, long, low) in
    let Good = IsLinkBelow grm token i x.rule x.asked in
    let put : ArePut Good old new = c.in_ok-note_rule.ensures.put in (
      c.in_ok-note_rule.ensures.marks,
      links_below grm set token well old new i x there same c.links.invariant.1 put,
      begun_kept grm set token Good old new put c.links.invariant.2,
      ofs_more grm set token Good old new put i x there same c.links.invariant.3 c.in_ok-note_rule.ensures.noted,
      (let longer = length_put Good old new put in omega (arith, longer, there)),
    )

pub returns-clause-links : goal.returns-clause-links
returns-clause-links g c = c.links.invariant.1

pub returns-clause-linked : goal.returns-clause-linked
returns-clause-linked g c =
    let index = g.StorageT.StorageIndex.index in
    let grm = c.args.grm.now in
    let s = index c.args.state.0 in
    let r = index c.args.rule.0 in
    let asked = c.args.asked in
    let set = sets_of c.args.graph.now s in
    let links = links_of index c.links.found.links.items in
    let reached = c.requires.asked.canonical.reached s c.requires.asked.state in
    λ y has_item front listed own of_rule.
    elim (OnFalse_at c.links-test.false c.goes_on.ensures.done) as (λ _. HasLink links asked r) [
      | inl past ↦
          let end : length links ≤ c.links.at = let long = length-map c.links.found.links.items (link_of index) in omega (arith, long, past) in
          let all =
          all_linked grm c.requires.asked.well_formed (index c.args.token.0) links
          (λ i low. c.links.invariant.3 i (omega (arith, low, end))) set reached.0 reached.1 c.links.invariant.2 in
          subst (HasLink links asked) of_rule (all y asked has_item front listed own)
      | inr there ↦ there
    ]
