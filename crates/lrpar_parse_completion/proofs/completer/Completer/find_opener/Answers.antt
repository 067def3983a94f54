use Rattle.std.proofs.Common.{◌≡◌, ◌<◌, ◌+◌, ◌++◌, ◌∷◌, ◌-◌, ◌∙◌, ℕ, List, [], arith, length, refl, subst, sym, take}
use Rattle.std.specs.List.{Contains}
use Rattle.std.proofs.lemmas.Bool.{both_ways, iff_false}
use Rattle.std.proofs.lemmas.List.{length-map, take_all}
use Rattle.lrpar_grammar.specs.Grammar.{Nonterminal, prod_len, rule_of, symbols_of}
use Rattle.lrpar_table_stacks.specs.Expected.{tokens_of}
use Rattle.lrpar_parse_completion.specs.Waiting.{LinkOf, link_of, links_of, rules_in}
use Rattle.lrpar_parse_completion.proofs.CompletesLemmas.{length_at}
use Rattle.lrpar_parse_completion.proofs.FoundLemmas.{link_before}
use Rattle.lrpar_parse_completion.proofs.OpenLemmas.{Climbs, climbs_none, climbs_past, link_trees, links_to, none_listed, not_last, opened_waits, opens_here}
use Rattle.lrpar_parse_completion.proofs.completer.Completer.find_opener.Goals as goal

pub links-init : goal.links-init
links-init g c =
    let index = g.StorageT.StorageIndex.index in
    let d = c.args.self.now.data.now in
    let grm = d.grammar in
    let s = index c.args.state.0 in
    let p = index c.args.prod.0 in
    let found = c.in_ok-links.links in
    let links = links_of index found.items in
    let old = tokens_of index c.args.tokens.now.items in
    let w = index c.prod_to_rule-wanted.result.0 in
    let wanted : w ≡ rule_of grm p = rw c.grm-grm.ensures at c.prod_to_rule-wanted.ensures.rule in
    let many : length links ≡ c.len-place.result = length-map found.items (link_of index) ∙ sym found.ok.0 ∙ sym c.len-place.ensures in
    record {
      within = omega (arith, many);
      climbs = subst (λ (r : ℕ). Climbs grm d.graph d.table (rule_of grm p) r old old) (sym wanted) (climbs_none grm d.graph d.table (rule_of grm p) old);
      listed = λ must.
          let has = opened_waits d c.stable-lemma.ensures.checked must.can s p links c.requires.state c.in_ok-links.ensures must.core must.other in
          subst (λ (xs : List LinkOf). Contains (rules_in xs) w) (sym (take_all c.len-place.result links (omega (arith, many))))
          (subst (Contains (rules_in links)) (sym wanted) has);
    }

pub index-link-requires : goal.index-link-requires
index-link-requires g c =
    let found = c.in_ok-links.links in
    let within = c.links.invariant.within in
    omega (arith, within, length-map found.items (link_of g.StorageT.StorageIndex.index), found.ok.0)

pub push_after-requires-clause-prod : goal.push_after-requires-clause-prod
push_after-requires-clause-prod g c =
    let index = g.StorageT.StorageIndex.index in
    let link = c.index-link.result.now in
    let at = link_before index c.in_ok-links.links.items c.links.place link c.links-test.true c.links.invariant.within c.index-link.ensures in
    rw c.grm-grm.ensures (c.in_ok-links.ensures.each (c.links.place - 1) (link_of index link) at).known

pub returns-then-not-branch : goal.returns-then-not-branch
returns-then-not-branch g c =
    let index = g.StorageT.StorageIndex.index in
    let d = c.args.self.now.data.now in
    let link = c.index-link.result.now in
    let at = link_before index c.in_ok-links.links.items c.links.place link c.links-test.true c.links.invariant.within c.index-link.ensures in
    record {
      opened = tt;
      some = λ must.
          let trees = link_trees d c.stable-lemma.ensures.checked must.can (index c.args.state.0) (links_of index c.in_ok-links.links.items) c.requires.state
          must.walked c.in_ok-links.ensures (c.links.place - 1) (link_of index link) at in
          absurd (both_ways _ c.if-not-branch.true ((rw c.grm-grm.ensures at c.in_ok-push_after.ensures.some) trees));
    }

pub returns-then-is_kernel : goal.returns-then-is_kernel
returns-then-is_kernel g c =
    let index = g.StorageT.StorageIndex.index in
    let d = c.args.self.now.data.now in
    let l = c.links in
    let link = c.index-link.result.now in
    let at = link_before index c.in_ok-links.links.items l.place link c.links-test.true l.invariant.within c.index-link.ensures in
    let wanted : index link.rule.0 ≡ index l.wanted.0 = sym c.from.ensures ∙ c.if-from.false ∙ c.from-in-links.ensures in
    let pushed = (rw c.grm-grm.ensures at c.in_ok-push_after.ensures.pushed) c.if-not-branch.false in
    record {
      opened = opens_here d c.stable-lemma.ensures.checked (index c.args.state.0) (rule_of d.grammar (index c.args.prod.0)) (index l.wanted.0)
          (links_of index c.in_ok-links.links.items) c.in_ok-links.ensures.each (l.place - 1) (link_of index link) at wanted
          (tokens_of index c.args.tokens.now.items) (tokens_of index l.tokens.items) (tokens_of index c.push_after.new.tokens.items)
          l.invariant.climbs pushed (c.is_kernel.ensures.0 c.if-is_kernel.true);
      some = λ must. refl;
    }

pub links-preserved : goal.links-preserved
links-preserved g c =
    let index = g.StorageT.StorageIndex.index in
    let d = c.args.self.now.data.now in
    let l = c.links in
    let link = c.index-link.result.now in
    let at = link_before index c.in_ok-links.links.items l.place link c.links-test.true l.invariant.within c.index-link.ensures in
    let wanted : index link.rule.0 ≡ index l.wanted.0 = sym c.from.ensures ∙ c.if-from.false ∙ c.from-in-links.ensures in
    let past = climbs_past d c.stable-lemma.ensures.checked (index c.args.state.0) (rule_of d.grammar (index c.args.prod.0)) (index l.wanted.0)
    (links_of index c.in_ok-links.links.items) c.in_ok-links.ensures.each (l.place - 1) (link_of index link) at wanted
    (tokens_of index c.args.tokens.now.items) (tokens_of index l.tokens.items) (tokens_of index c.push_after.new.tokens.items)
    l.invariant.climbs ((rw c.grm-grm.ensures at c.in_ok-push_after.ensures.pushed) c.if-not-branch.false) (iff_false c.is_kernel.ensures c.if-is_kernel.false) in
    let next : index c.prod_to_rule-wanted-in-links.result.0 ≡ rule_of d.grammar (index link.prod.0) =
    rw c.grm-grm.ensures at c.prod_to_rule-wanted-in-links.ensures.rule in
    record {
      within = let within = l.invariant.within in omega (arith, within);
      climbs = subst
          (λ (r : ℕ). Climbs d.grammar d.graph d.table (rule_of d.grammar (index c.args.prod.0)) r (tokens_of index c.args.tokens.now.items)
          (tokens_of index c.push_after.new.tokens.items)) (sym next) past.0;
      listed = λ must. subst (Contains (rules_in (take (l.place - 1) (links_of index c.in_ok-links.links.items)))) (sym next) past.1;
    }

pub links-preserved-then-from : goal.links-preserved-then-from
links-preserved-then-from g c =
    let index = g.StorageT.StorageIndex.index in
    let found = c.in_ok-links.links in
    let links = links_of index found.items in
    let l = c.links in
    let within = l.invariant.within in
    let link = c.index-link.result.now in
    let n = l.place - 1 in
    let at = link_before index found.items c.links.place link c.links-test.true within c.index-link.ensures in
    let w = index l.wanted.0 in
    let next : n + 1 ≡ l.place = omega (arith, c.links-test.true) in
    let whole : take l.place links ≡ take n links ++ link_of index link ∷ [] =
    subst (λ (m : ℕ). take m links ≡ take n links ++ link_of index link ∷ []) next (links_to links n (link_of index link) at) in
    record {
      within = omega (arith, within);
      climbs = l.invariant.climbs;
      listed = λ must.
          not_last (take n links) (link_of index link) w (subst (λ (xs : List LinkOf). Contains (rules_in xs) w) whole (l.invariant.listed must))
          (λ same. c.if-from.true (c.from.ensures ∙ same ∙ sym c.from-in-links.ensures));
    }

pub returns : goal.returns
returns g c =
    let index = g.StorageT.StorageIndex.index in
    let links = links_of index c.in_ok-links.links.items in
    let l = c.links in
    record {
      opened = tt;
      some = λ must. absurd (none_listed links l.place (index l.wanted.0) (omega (arith, c.links-test.false)) (l.invariant.listed must));
    }

pub prod_to_rule-wanted-requires-in-links : goal.prod_to_rule-wanted-requires-in-links
prod_to_rule-wanted-requires-in-links g c =
    let index = g.StorageT.StorageIndex.index in
    let link = c.index-link.result.now in
    let at = link_before index c.in_ok-links.links.items c.links.place link c.links-test.true c.links.invariant.within c.index-link.ensures in
    rw c.grm-grm.ensures (c.in_ok-links.ensures.each (c.links.place - 1) (link_of index link) at).known

pub push_after-requires-clause-shortest : goal.push_after-requires-clause-shortest
push_after-requires-clause-shortest g c = rw c.grm-grm.ensures c.requires.shortest

pub push_after-requires-clause-dot : goal.push_after-requires-clause-dot
push_after-requires-clause-dot g c =
    let index = g.StorageT.StorageIndex.index in
    let grm = c.args.self.now.data.now.grammar in
    let link = c.index-link.result.now in
    let at = link_before index c.in_ok-links.links.items c.links.place link c.links-test.true c.links.invariant.within c.index-link.ensures in
    let is = c.in_ok-links.ensures.each (c.links.place - 1) (link_of index link) at in
    let q = index link.prod.0 in
    let dot : link.dot < prod_len grm q = omega (arith, length_at (symbols_of grm q) link.dot (Nonterminal (index link.rule.0)) is.rest is.waits) in
    rw c.grm-grm.ensures dot
