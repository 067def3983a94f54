use Rattle.std.proofs.Common.{◌<◌, List, arith, get_or, inl, subst, sym}
use Rattle.lrpar_table_conditions.proofs.CoreLemmas.{core_in_shape}
use Rattle.lrpar_table_rows.proofs.GraphLemmas.{all_begun}
use Rattle.lrpar_table_rows.proofs.TestLemmas.{each_more}
use Rattle.lrpar_parse_completion.specs.Waiting.{HasRuleAfter, IsOwnCore, LinkOf, links_of}
use Rattle.lrpar_parse_completion.proofs.FoundLemmas.{added_found, after_kept, counted_more, grows_none, grows_on}
use Rattle.lrpar_parse_completion.proofs.OpenLemmas.{begun_is}
use Rattle.lrpar_parse_completion.proofs.waiting.Found.add_kernel.Goals as goal

pub add-requires-clause-prod : goal.add-requires-clause-prod
add-requires-clause-prod g c =
    let index = g.StorageT.StorageIndex.index in
    let d = c.args.checked.now in
    let has = begun_is index d.graph (index c.args.state.0) c.begun_cores-prod-items.result.now c.loop-prod.prod-index c.loop-prod-item.result
    (rw c.sgraph.ensures at c.begun_cores-prod-items.ensures.all) c.loop-prod-test.true c.loop-prod-item.is in
    rw c.grm-grm.ensures (core_in_shape d.grammar d.graph d.table _ _ _ c.stable-lemma.ensures.checked.safe.shape has.0).0

pub add-requires-clause-dot : goal.add-requires-clause-dot
add-requires-clause-dot g c =
    let index = g.StorageT.StorageIndex.index in
    let d = c.args.checked.now in
    let has = begun_is index d.graph (index c.args.state.0) c.begun_cores-prod-items.result.now c.loop-prod.prod-index c.loop-prod-item.result
    (rw c.sgraph.ensures at c.begun_cores-prod-items.ensures.all) c.loop-prod-test.true c.loop-prod-item.is in
    rw c.grm-grm.ensures (core_in_shape d.grammar d.graph d.table _ _ _ c.stable-lemma.ensures.checked.safe.shape has.0).1

pub loop-prod-init : goal.loop-prod-init
loop-prod-init g c =
    let index = g.StorageT.StorageIndex.index in
    let d = c.args.checked.now in
    record {
      counted = c.requires.counted;
      grows = λ found. grows_none d.grammar (IsOwnCore d.grammar d.graph d.table (index c.args.state.0)) (links_of index c.args.self.now.links.items) c.args.self.now.marks.items found;
      begun = λ found k e low. absurd (omega (arith, low));
    }

pub loop-prod-preserved : goal.loop-prod-preserved
loop-prod-preserved g c =
    let index = g.StorageT.StorageIndex.index in
    let d = c.args.checked.now in
    let grm = d.grammar in
    let s = index c.args.state.0 in
    let own = IsOwnCore grm d.graph d.table s in
    let l = c.loop-prod in
    let core = c.loop-prod-item.result in
    let p = index core.0.0 in
    let cores = c.begun_cores-prod-items.result.now in
    let before = links_of index c.args.self.now.links.items in
    let links = links_of index l.self.links.items in
    let after = links_of index c.add.new.self.links.items in
    let marks = l.self.marks.items in
    let marks_after = c.add.new.self.marks.items in
    let has = begun_is index d.graph s cores l.prod-index core (rw c.sgraph.ensures at c.begun_cores-prod-items.ensures.all) c.loop-prod-test.true c.loop-prod-item.is in
    let known = (core_in_shape grm d.graph d.table s p core.1 c.stable-lemma.ensures.checked.safe.shape has.0).0 in
    let added = rw c.grm-grm.ensures at c.in_ok-add.ensures in
    record {
      counted = counted_more grm p core.1 links after marks marks_after added l.invariant.counted;
      grows = λ found.
          let so_far = l.invariant.grows found in
          let one = added_found grm own p core.1 links after marks marks_after known (inl (inl has)) added so_far.found in
          grows_on grm own before links after marks marks_after so_far one.0;
      begun = λ found.
          let so_far = l.invariant.grows found in
          let one = added_found grm own p core.1 links after marks marks_after known (inl (inl has)) added so_far.found in
          each_more (λ x. HasRuleAfter grm after (index x.0.0) x.1) cores l.prod-index core c.loop-prod-test.true c.loop-prod-item.is one.1
          (λ k e low.
          let x = get_or cores k e in
          subst (λ (xs : List LinkOf). HasRuleAfter grm xs (index x.0.0) x.1) (sym one.0.more)
          (after_kept grm links one.0.tail (index x.0.0) x.1 (l.invariant.begun found k e low)));
    }

pub returns : goal.returns
returns g c =
    let index = g.StorageT.StorageIndex.index in
    let d = c.args.checked.now in
    let grm = d.grammar in
    let s = index c.args.state.0 in
    let l = c.loop-prod in
    let cores = c.begun_cores-prod-items.result.now in
    let links = links_of index l.self.links.items in
    let all = rw c.sgraph.ensures at c.begun_cores-prod-items.ensures.all in
    record {
      counted = l.invariant.counted;
      grows = λ found. (
        l.invariant.grows found,
        λ p k core begun.
            (all_begun index (λ q j. 0 < j → HasRuleAfter grm links q j) d.graph s cores all (λ q none. absurd (omega (arith, none)))).0
            (λ i e low some. l.invariant.begun found i e (omega (arith, low, c.loop-prod-test.false))) p k core begun,
      );
    }

pub add-requires-clause-len : goal.add-requires-clause-len
add-requires-clause-len g c = rw c.grm-grm.ensures c.loop-prod.invariant.counted.0
