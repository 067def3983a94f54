use Rattle.std.proofs.Common.{◌≡◌, ◌<◌, ◌-◌, ◌+◌, [], Some, length, map, ap, subst, sym, ◌∙◌, arith}
use Rattle.std.proofs.lemmas.List.{get_or-map, length-map, length-set}
use Rattle.std.proofs.lemmas.Map.Text.{btree_map_updates_str}
use Rattle.lrpar_grammar.specs.SameProds.{AreFirstFrom, AreNextFrom, IsFirstFrom}
use Rattle.lrpar_grammar.specs.Spelled.{numbers_at}
use Rattle.lrpar_grammar.proofs.ChainLemmas.{chain_first, chain_next}
use Rattle.lrpar_grammar.proofs.grammar.matching.link_equals.Goals as goal

pub loop-prod-preserved : goal.loop-prod-preserved
loop-prod-preserved c =
    let vecs = c.args.prods.now in
    let prods = map (λ x. x.items) vecs in
    let i = c.loop-prod.prod - 1 in
    let count = length-map vecs (λ x. x.items) in
    let back : c.loop-prod.prod ≡ i + 1 = omega arith in
    let inside : i < length vecs = omega arith in
    let within : i < length prods = omega arith in
    let key : c.as_slice.result.now ≡ numbers_at prods i =
    c.as_slice.ensures.value ∙ ap (λ x. x.items) c.index-prods-prod.is ∙ sym (get_or-map (λ x. x.items) vecs i c.index-prods-prod.result [] inside) in
    let first = subst (λ n. AreFirstFrom prods n c.loop-prod.first) back c.loop-prod.invariant.first in
    record {
      first = chain_first prods i c.as_slice.result.now c.loop-prod.first c.insert.new.self within key first
          (btree_map_updates_str c.as_slice.result.now c.loop-prod.first c.insert.new.self (Some i) c.in_ok-next-2.ensures.updates);
      len = length-set c.loop-prod.next.items i c.in_ok-next-2.field-0 ∙ c.loop-prod.invariant.len;
      next = chain_next prods i c.loop-prod.next.items c.in_ok-next-2.field-0 within (c.loop-prod.invariant.len ∙ sym count)
          (subst (λ q. IsFirstFrom prods q (i + 1) c.in_ok-next-2.field-0) key
          (subst (IsFirstFrom prods c.as_slice.result.now (i + 1)) (sym c.in_ok-next-2.ensures.old) (first c.as_slice.result.now)))
          (subst (λ n. AreNextFrom prods n c.loop-prod.next.items) back c.loop-prod.invariant.next);
    }
