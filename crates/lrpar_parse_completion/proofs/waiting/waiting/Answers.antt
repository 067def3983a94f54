use Rattle.std.proofs.Common.{◌<◌, ◌∙◌, ℕ, List, ap, arith, inl, inr, length, subst, sym, length-append}
use Rattle.std.proofs.lemmas.List.{length-map}
use Rattle.std.proofs.lemmas.Option.{slice_get_within}
use Rattle.lrpar_grammar.specs.Grammar.{start_prod}
use Rattle.lrpar_parse_completion.specs.Waiting.{AreCounted, AreFound, HasRuleAfter, IsOwnCore, LinkOf, link_of, links_of}
use Rattle.lrpar_parse_completion.proofs.FoundLemmas.{after_kept, closed_all, closed_more, counted_none, found_none, link_at, link_contained, link_rule_low}
use Rattle.lrpar_parse_completion.proofs.waiting.waiting.Goals as goal

pub add_kernel-requires-clause-counted : goal.add_kernel-requires-clause-counted
add_kernel-requires-clause-counted g c =
    let d = c.args.checked.now in
    let first = c.in_ok-found.found in
    let marks = rw c.grm-grm.ensures at c.in_ok-found.ensures.marks in
    subst (λ (l : List LinkOf). AreCounted d.grammar l first.marks.items) (sym c.in_ok-found.ensures.links) (counted_none d.grammar first.marks.items marks)

pub found-init : goal.found-init
found-init g c =
    let index = g.StorageT.StorageIndex.index in
    let d = c.args.checked.now in
    let grm = d.grammar in
    let s = index c.args.state.0 in
    let own = IsOwnCore grm d.graph d.table s in
    let first = c.in_ok-found.found in
    let marks = rw c.grm-grm.ensures at c.in_ok-found.ensures.marks in
    let nothing = subst (λ (l : List LinkOf). AreFound grm own l first.marks.items) (sym c.in_ok-found.ensures.links) (found_none grm own first.marks.items marks) in
    let kernel = c.in_ok-add_kernel.ensures.grows nothing in
    let start = c.in_ok-add_start.ensures.grows kernel.0.found in
    let mid = links_of index c.add_kernel.new.self.links.items in
    let links = links_of index c.add_start.new.self.links.items in
    record {
      counted = c.in_ok-add_start.ensures.counted;
      found = start.0.found;
      begun = λ p k mine.
          elim mine as (λ _. HasRuleAfter grm links p k) [
            | inl core ↦ subst (λ (l : List LinkOf). HasRuleAfter grm l p k) (sym start.0.more) (after_kept grm mid start.0.tail p k (kernel.1 p k core.0 core.1))
            | inr is ↦
                subst (λ (q : ℕ). HasRuleAfter grm links q k) (sym is.1)
                (subst (λ (j : ℕ). HasRuleAfter grm links (start_prod grm) j) (sym is.2) (start.1 is.0))
          ];
      closed = λ i x low. absurd (omega (arith, low));
      within = omega arith;
    }

pub add_prods-requires-clause-rule : goal.add_prods-requires-clause-rule
add_prods-requires-clause-rule g c =
    let index = g.StorageT.StorageIndex.index in
    let d = c.args.checked.now in
    let own = IsOwnCore d.grammar d.graph d.table (index c.args.state.0) in
    let low : c.found.place < length c.found.found.links.items = subst (λ (n : ℕ). c.found.place < n) (c.len.ensures ∙ c.found.found.links.ok.0) c.found-test.true in
    let at = link_at index c.found.found.links.items c.found.place c.index-link.result.now low c.index-link.ensures in
    rw c.grm-grm.ensures (link_rule_low d.grammar c.stable-lemma.ensures.checked.well_formed own (links_of index c.found.found.links.items) c.found.invariant.found.each c.found.place _ at)

pub found-preserved : goal.found-preserved
found-preserved g c =
    let index = g.StorageT.StorageIndex.index in
    let d = c.args.checked.now in
    let grm = d.grammar in
    let s = index c.args.state.0 in
    let own = IsOwnCore grm d.graph d.table s in
    let l = c.found in
    let link = link_of index c.index-link.result.now in
    let links = links_of index l.found.links.items in
    let after = links_of index c.add_prods.new.self.links.items in
    let low : l.place < length l.found.links.items = subst (λ (n : ℕ). l.place < n) (c.len.ensures ∙ l.found.links.ok.0) c.found-test.true in
    let at = link_at index l.found.links.items l.place c.index-link.result.now low c.index-link.ensures in
    let grows = rw c.grm-grm.ensures at c.in_ok-add_prods.ensures.grows in
    let one = grows d.graph d.table s l.invariant.found (link_contained links l.place link at) in
    record {
      counted = rw c.grm-grm.ensures at c.in_ok-add_prods.ensures.counted;
      found = one.0.found;
      begun = λ p k mine. subst (λ (xs : List LinkOf). HasRuleAfter grm xs p k) (sym one.0.more) (after_kept grm links one.0.tail p k (l.invariant.begun p k mine));
      closed = closed_more grm links one.0.tail after l.place link one.0.more at one.1 l.invariant.closed;
      within = let inside = slice_get_within links l.place link at in
          omega (arith, inside, ap (λ (xs : List LinkOf). length xs) one.0.more, length-append links one.0.tail);
    }

pub found-smaller : goal.found-smaller
found-smaller g c =
    let index = g.StorageT.StorageIndex.index in
    let l = c.found in
    let low : l.place < length l.found.links.items = subst (λ (n : ℕ). l.place < n) (c.len.ensures ∙ l.found.links.ok.0) c.found-test.true in
    let at = link_at index l.found.links.items l.place c.index-link.result.now low c.index-link.ensures in
    let inside = slice_get_within (links_of index l.found.links.items) l.place _ at in
    omega (arith, inside, l.invariant.counted.0, l.invariant.counted.1)

pub returns : goal.returns
returns g c =
    let index = g.StorageT.StorageIndex.index in
    let d = c.args.checked.now in
    let l = c.found in
    let links = links_of index l.found.links.items in
    record {
      each = l.invariant.found.each;
      own = l.invariant.begun;
      closed = closed_all d.grammar links l.place (omega (arith, c.found-test.false, length-map l.found.links.items (link_of index))) l.invariant.closed;
    }

pub add_prods-requires-clause-counted : goal.add_prods-requires-clause-counted
add_prods-requires-clause-counted g c = rw c.grm-grm.ensures c.found.invariant.counted
