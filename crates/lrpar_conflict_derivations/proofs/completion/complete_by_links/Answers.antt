use Rattle.std.proofs.Common.{◌∙◌, Bool, inl, inr, sym, subst, arith}
use Rattle.std.proofs.lemmas.List.{length-map}
use Rattle.lrpar_table_sentences.specs.Moves.{moves_in}
use Rattle.lrpar_conflict_derivations.specs.ClosureLinks.{link_at, link_of, links_of}
use Rattle.lrpar_conflict_derivations.proofs.UpLemmas.{IsPathUp, above_here, ends_here, item_here, known_here, reached_here, step_here, path_none, path_on}
use Rattle.lrpar_conflict_derivations.proofs.completion.complete_by_links.Goals.{then-link-gt0-via-then-link-gt0, then-link-gt0-via-else-link-gt0+then-from-start}
use Rattle.lrpar_conflict_derivations.proofs.completion.complete_by_links.Goals as goal

pub up-init : goal.up-init
up-init g c =
    let index = g.StorageT.StorageIndex.index in
    let grm = c.args.grm.now in
    let p = index c.args.prod.0 in
    let out = moves_in index c.args.out.now.items in
    let found = rw c.unwrap-number.ensures at c.number_of.ensures in (
      (let long = length-map c.args.links.now (link_of index) in let low = found.0 in omega (arith, long, low)),
      c.requires.prod,
      found.1 ∙ c.prod_to_rule.ensures.rule,
      subst (λ (b : Bool). IsPathUp grm (index c.args.token.0) p c.args.asked out out p b) (sym found.2) (path_none grm (index c.args.token.0) p c.args.asked out),
    )

pub push_rest-requires-clause-step : goal.push_rest-requires-clause-step
push_rest-requires-clause-step g c =
    let index = g.StorageT.StorageIndex.index in
    step_here index c.args.grm.now (index c.args.token.0) c.args.links.now c.requires.links c.up.number c.up.invariant.0 c.index-links-number.result
    c.index-links-number.is

pub push_rest-requires-clause-reached : goal.push_rest-requires-clause-reached
push_rest-requires-clause-reached g c =
    let index = g.StorageT.StorageIndex.index in
    reached_here index c.args.grm.now (index c.args.token.0) c.args.links.now c.requires.links c.up.number c.up.invariant.0 c.index-links-number.result
    c.index-links-number.is

pub returns-then-link-gt0-clause-to_kernel : goal.returns-then-link-gt0-clause-to_kernel
returns-then-link-gt0-clause-to_kernel g c =
    let index = g.StorageT.StorageIndex.index in
    item_here index c.args.grm.now (index c.args.token.0) c.args.links.now c.requires.links c.up.number c.up.invariant.0 c.index-links-number.result
    c.index-links-number.is (index c.args.prod.0) c.args.asked c.args.out.now.items c.up.out.items c.push.new.self.items c.push_rest.new.out.items c.up.node
    c.start_prod.ensures.well_formed c.up.invariant.3 c.up.invariant.1 c.up.invariant.2 c.in_ok-push.ensures.items c.in_ok-push_rest.ensures

pub returns-then-link-gt0-clause-ends : goal.returns-then-link-gt0-clause-ends
returns-then-link-gt0-clause-ends g c =
    let index = g.StorageT.StorageIndex.index in
    ends_here index c.args.grm.now (index c.args.token.0) c.args.links.now c.requires.links c.up.number c.up.invariant.0 c.index-links-number.result
    c.index-links-number.is (elim c.then-link-gt0.branch [
      | then-link-gt0-via-then-link-gt0 w ↦ inl w.if-link-gt0.true
      | then-link-gt0-via-else-link-gt0+then-from-start w ↦
          inr (sym w.from.ensures ∙ w.if-from-start.true ∙ c.from-start.ensures ∙ c.start_prod.ensures.number)
    ])

pub up-smaller : goal.up-smaller
up-smaller g c =
    let index = g.StorageT.StorageIndex.index in
    let above =
    above_here index c.args.grm.now (index c.args.token.0) c.args.links.now c.requires.links c.up.number c.up.invariant.0 c.index-links-number.result
    c.index-links-number.is c.if-link-gt0.false
    (λ last. c.if-from-start.false (c.from.ensures ∙ last ∙ sym c.start_prod.ensures.number ∙ sym c.from-start.ensures)) in
    above.0

pub up-preserved : goal.up-preserved
up-preserved g c =
    let index = g.StorageT.StorageIndex.index in
    let grm = c.args.grm.now in
    let token = index c.args.token.0 in
    let links = c.args.links.now in
    let link = c.index-links-number.result in
    let low = c.up.invariant.0 in
    let read = c.index-links-number.is in
    let above =
    above_here index grm token links c.requires.links c.up.number low link read c.if-link-gt0.false
    (λ last. c.if-from-start.false (c.from.ensures ∙ last ∙ sym c.start_prod.ensures.number ∙ sym c.from-start.ensures)) in
    let to_kernel =
    item_here index grm token links c.requires.links c.up.number low link read (index c.args.prod.0) c.args.asked c.args.out.now.items c.up.out.items
    c.push.new.self.items c.push_rest.new.out.items c.up.node c.start_prod.ensures.well_formed c.up.invariant.3 c.up.invariant.1 c.up.invariant.2
    c.in_ok-push.ensures.items c.in_ok-push_rest.ensures in (
      (let less = above.0 in omega (arith, less, low)),
      known_here index grm token links c.requires.links c.up.number low link read,
      above.1,
      path_on grm token (index c.args.prod.0) c.args.asked (moves_in index c.args.out.now.items) (moves_in index c.push_rest.new.out.items) (index link.prod.0) link.dot
          link.further (link_at (links_of index links) link.above).asked to_kernel (let moved = c.if-link-gt0.false in omega (arith, moved)) (sym above.2),
    )
