use Rattle.std.proofs.Common.{ℕ, All, List, arith, get_or, inr, map, refl, subst, sym}
use Rattle.std.specs.List.{Contains}
use Rattle.std.proofs.lemmas.List.Elements.{All-map}
use Rattle.lrpar_grammar.specs.Grammar.{rule_of}
use Rattle.lrpar_table_conditions.proofs.ItemwiseLemmas.{each_of_rule}
use Rattle.lrpar_table_items.proofs.ProdLemmas.{listed_at}
use Rattle.lrpar_table_rows.proofs.TestLemmas.{each_more}
use Rattle.lrpar_parse_completion.specs.Waiting.{HasRuleAfter, IsOwnCore, LinkOf, links_of, rules_in}
use Rattle.lrpar_parse_completion.proofs.FoundLemmas.{added_found, after_kept, counted_more, grows_none, grows_on, rule_kept}
use Rattle.lrpar_parse_completion.proofs.waiting.Found.add_prods.Goals as goal

pub add-requires-clause-prod : goal.add-requires-clause-prod
add-requires-clause-prod g c =
    let index = g.StorageT.StorageIndex.index in
    (listed_at index c.args.grm.now (index c.args.rule.0) c.rule_to_prods-prod-items.result.now c.loop-prod.prod-index c.prod-item.result
    c.rule_to_prods-prod-items.ensures c.loop-prod-test.true c.prod-item.is).0

pub loop-prod-init : goal.loop-prod-init
loop-prod-init g c =
    let index = g.StorageT.StorageIndex.index in
    let grm = c.args.grm.now in
    record {
      counted = c.requires.counted;
      grows = λ graph table s found has. grows_none grm (IsOwnCore grm graph table s) (links_of index c.args.self.now.links.items) c.args.self.now.marks.items found;
      begun = λ graph table s found has k d low. absurd (omega (arith, low));
    }

pub loop-prod-preserved : goal.loop-prod-preserved
loop-prod-preserved g c =
    let index = g.StorageT.StorageIndex.index in
    let grm = c.args.grm.now in
    let l = c.loop-prod in
    let p = index c.prod-item.result.0 in
    let prods = c.rule_to_prods-prod-items.result.now in
    let before = links_of index c.args.self.now.links.items in
    let links = links_of index l.self.links.items in
    let after = links_of index c.add.new.self.links.items in
    let marks = l.self.marks.items in
    let marks_after = c.add.new.self.marks.items in
    let known =
    listed_at index grm (index c.args.rule.0) prods l.prod-index c.prod-item.result c.rule_to_prods-prod-items.ensures c.loop-prod-test.true c.prod-item.is in
    record {
      counted = counted_more grm p 0 links after marks marks_after c.in_ok-add.ensures l.invariant.counted;
      grows = λ graph table s found has.
          let own = IsOwnCore grm graph table s in
          let so_far = l.invariant.grows graph table s found has in
          let here : Contains (rules_in links) (rule_of grm p) =
          subst (Contains (rules_in links)) (sym known.1)
          (subst (λ (xs : List LinkOf). Contains (rules_in xs) (index c.args.rule.0)) (sym so_far.more) (rule_kept grm before so_far.tail (index c.args.rule.0) has)) in
          let one = added_found grm own p 0 links after marks marks_after known.0 (inr (refl, here)) c.in_ok-add.ensures so_far.found in
          grows_on grm own before links after marks marks_after so_far one.0;
      begun = λ graph table s found has.
          let own = IsOwnCore grm graph table s in
          let so_far = l.invariant.grows graph table s found has in
          let here : Contains (rules_in links) (rule_of grm p) =
          subst (Contains (rules_in links)) (sym known.1)
          (subst (λ (xs : List LinkOf). Contains (rules_in xs) (index c.args.rule.0)) (sym so_far.more) (rule_kept grm before so_far.tail (index c.args.rule.0) has)) in
          let one = added_found grm own p 0 links after marks marks_after known.0 (inr (refl, here)) c.in_ok-add.ensures so_far.found in
          each_more (λ x. HasRuleAfter grm after (index x.0) 0) prods l.prod-index c.prod-item.result c.loop-prod-test.true c.prod-item.is one.1
          (λ k d low.
          let q = index (get_or prods k d).0 in
          subst (λ (xs : List LinkOf). HasRuleAfter grm xs q 0) (sym one.0.more)
          (after_kept grm links one.0.tail q 0 (l.invariant.begun graph table s found has k d low)));
    }

pub returns : goal.returns
returns g c =
    let index = g.StorageT.StorageIndex.index in
    let grm = c.args.grm.now in
    let l = c.loop-prod in
    let links = links_of index l.self.links.items in
    let prods = c.rule_to_prods-prod-items.result.now in
    let P : ℕ → Type 0 = λ q. HasRuleAfter grm links q 0 in
    record {
      counted = l.invariant.counted;
      grows = λ graph table s found has. (
        l.invariant.grows graph table s found has,
        let mapped : All P (map (λ x. index x.0) prods) =
            All-map P (λ x. index x.0) prods (λ k d low. l.invariant.begun graph table s found has k d (omega (arith, low, c.loop-prod-test.false))) in
            let listed = subst (λ (qs : List ℕ). All P qs) c.rule_to_prods-prod-items.ensures mapped in
            λ q within is. (each_of_rule grm (index c.args.rule.0) P).0 listed q within is,
      );
    }

pub add-requires-clause-len : goal.add-requires-clause-len
add-requires-clause-len g c = c.loop-prod.invariant.counted.0
