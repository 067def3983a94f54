use Rattle.std.proofs.Common.{refl, sym, subst}
use Rattle.std.proofs.lemmas.Result.{IfOk-weaker}
use Rattle.lrpar_table_rows.specs.Graph.{item_at}
use Rattle.lrpar_table_items.specs.Canonical.{sets_of}
use Rattle.lrpar_grammar.specs.Grammar.{rule_of}
use Rattle.lrpar_conflict_derivations.specs.Completion.{AreUpLinks, EndsLink, up_of}
use Rattle.lrpar_conflict_derivations.specs.ClosureLinks.{HasLink, IsKernelItem, links_of}
use Rattle.lrpar_conflict_derivations.proofs.LinkLemmas.{core_known}
use Rattle.lrpar_conflict_derivations.proofs.UpLemmas.{ends_begun, up_links}
use Rattle.lrpar_conflict_derivations.proofs.completion.complete_in_state.Goals as goal

pub prod_to_rule-rule-requires : goal.prod_to_rule-rule-requires
prod_to_rule-rule-requires g c =
    let index = g.StorageT.StorageIndex.index in
    (core_known c.args.grm.now c.start_prod-lemma.ensures.well_formed c.args.graph.now c.requires.parts.canonical (index c.args.state.0) (index c.args.prod.0) 0
    c.requires.state (c.requires.item.0, c.requires.item.1)).0

pub links_to-requires-clause-asked : goal.links_to-requires-clause-asked
links_to-requires-clause-asked g c = record {
  well_formed = c.start_prod-lemma.ensures.well_formed;
  firsts = c.requires.parts.firsts;
  canonical = c.requires.parts.canonical;
  state = c.requires.state;
  token = c.requires.token;
}

pub complete_by_links-requires-clause-prod : goal.complete_by_links-requires-clause-prod
complete_by_links-requires-clause-prod g c =
    let index = g.StorageT.StorageIndex.index in
    (core_known c.args.grm.now c.start_prod-lemma.ensures.well_formed c.args.graph.now c.requires.parts.canonical (index c.args.state.0) (index c.args.prod.0) 0
    c.requires.state (c.requires.item.0, c.requires.item.1)).0

pub complete_by_links-requires-clause-links : goal.complete_by_links-requires-clause-links
complete_by_links-requires-clause-links g c =
    let index = g.StorageT.StorageIndex.index in
    let grm = c.args.grm.now in
    let s = index c.args.state.0 in
    let reached = c.requires.parts.canonical.reached s c.requires.state in
    subst (λ xs. AreUpLinks grm (index c.args.token.0) (links_of index xs)) (sym c.deref.ensures.value)
    (up_links grm c.start_prod-lemma.ensures.well_formed (sets_of c.args.graph.now s) reached.0 reached.1 (index c.args.token.0)
    (links_of index c.in_ok-links.links.items) c.in_ok-links.ensures.links)

pub complete_by_links-requires-clause-linked : goal.complete_by_links-requires-clause-linked
complete_by_links-requires-clause-linked g c =
    let index = g.StorageT.StorageIndex.index in
    let p = index c.args.prod.0 in
    let item = c.requires.item in
    subst (λ xs. HasLink (links_of index xs) c.args.asked (rule_of c.args.grm.now p)) (sym c.deref.ensures.value)
    (subst (HasLink (links_of index c.in_ok-links.links.items) c.args.asked) c.prod_to_rule-rule.ensures.rule
    (c.in_ok-links.ensures.linked (item_at p 0 item.0) item.1 refl c.requires.listed item.2 (sym c.prod_to_rule-rule.ensures.rule)))

pub returns-clause-begun : goal.returns-clause-begun
returns-clause-begun g c =
    let index = g.StorageT.StorageIndex.index in
    let grm = c.args.grm.now in
    let set = sets_of c.args.graph.now (index c.args.state.0) in
    let token = index c.args.token.0 in
    let links = links_of index c.in_ok-links.links.items in
    IfOk-weaker c.complete_by_links.result _ (λ up. IsKernelItem grm set token (index up.prod.0) up.dot up.asked)
    (λ up ends.
    ends_begun grm set token links (up_of index up) c.in_ok-links.ensures.links
    (subst (λ xs. EndsLink grm (links_of index xs) (up_of index up)) c.deref.ensures.value ends))
    c.complete_by_links.ensures.ends
