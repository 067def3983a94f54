use Rattle.std.proofs.Common.{◌+◌, ℕ, List, sym, subst, arith, take}
use Rattle.std.proofs.lemmas.List.{take_all}
use Rattle.std.specs.List.{Contains}
use Rattle.lrpar_grammar.specs.Symbols.{prod_numbers}
use Rattle.lrpar_grammar_places.proofs.ListLemmas.{map-take_more}
use Rattle.lrpar_table_items.proofs.ProdLemmas.{in_prods, listed_at}
use Rattle.lrpar_conflict_derivations.specs.ClosureLinks.{IsLinkBelow, IsStep, links_of}
use Rattle.lrpar_conflict_derivations.proofs.LinkLemmas.{below_link, prods_more}
use Rattle.lrpar_conflict_derivations.proofs.MarkLemmas.{put_none, put_then, put_weaker}
use Rattle.lrpar_conflict_derivations.proofs.closure_links.note_rule.Goals as goal

pub loop-pidx-init : goal.loop-pidx-init
loop-pidx-init g c =
    let index = g.StorageT.StorageIndex.index in (
      c.requires.marks,
      put_none (IsLinkBelow c.args.grm.now (index c.args.token.0) c.args.at (index c.args.link.rule.0) c.args.link.asked) (links_of index c.args.found.now.links.items),
      λ p has_one. absurd (let low = has_one.1 in omega arith),
    )

pub note-requires-clause-core : goal.note-requires-clause-core
note-requires-clause-core g c =
    let index = g.StorageT.StorageIndex.index in
    let known =
    listed_at index c.args.grm.now (index c.args.link.rule.0) c.rule_to_prods-pidx-items.result.now c.loop-pidx.pidx-index c.pidx-item.result
    c.rule_to_prods-pidx-items.ensures c.loop-pidx-test.true c.pidx-item.is in
    (known.0, omega arith)

pub loop-pidx-preserved : goal.loop-pidx-preserved
loop-pidx-preserved g c =
    let index = g.StorageT.StorageIndex.index in
    let grm = c.args.grm.now in
    let token = index c.args.token.0 in
    let r = index c.args.link.rule.0 in
    let asked = c.args.link.asked in
    let prods = c.rule_to_prods-pidx-items.result.now in
    let i = c.loop-pidx.pidx-index in
    let p = c.pidx-item.result in
    let known = listed_at index grm r prods i p c.rule_to_prods-pidx-items.ensures c.loop-pidx-test.true c.pidx-item.is in
    let Good = IsLinkBelow grm token c.args.at r asked in
    let first = links_of index c.args.found.now.links.items in
    let old = links_of index c.loop-pidx.found.links.items in
    let new = links_of index c.note.new.found.links.items in
    let Step = IsStep grm token (index p.0) 0 asked c.args.at in
    let put = put_weaker Step Good old new (λ x step. below_link grm token c.args.at r (index p.0) asked x known.0 known.1 step) c.in_ok-note.ensures.put in
    let more = map-take_more (λ x. index x.0) prods i p c.loop-pidx-test.true c.pidx-item.is in (
      c.in_ok-note.ensures.marks,
      put_then Good first old new c.loop-pidx.invariant.1 put,
      prods_more grm (λ _. ⊥) token Good old new put (prod_numbers index (take i prods)) (prod_numbers index (take (i + 1) prods)) (index p.0) asked more
          c.loop-pidx.invariant.2 c.in_ok-note.ensures.noted,
    )

pub returns-clause-noted : goal.returns-clause-noted
returns-clause-noted g c =
    let index = g.StorageT.StorageIndex.index in
    let grm = c.args.grm.now in
    let r = index c.args.link.rule.0 in
    let prods = c.rule_to_prods-pidx-items.result.now in
    let all = take_all c.loop-pidx.pidx-index prods c.loop-pidx-test.false in
    λ p low is.
    let listed = subst (λ (xs : List ℕ). Contains xs p) (sym c.rule_to_prods-pidx-items.ensures) (in_prods grm r p low is) in
    c.loop-pidx.invariant.2 p (subst (λ xs. Contains (prod_numbers index xs) p) (sym all) listed)
