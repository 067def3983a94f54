use Rattle.std.proofs.Common.{◌≡◌, ◌<◌, ◌∙◌, ◌↔◌, [], arith, length, slice_index_or, subst, sym}
use Rattle.std.specs.List.{Contains}
use Rattle.std.specs.Ordering.{nat_cmp}
use Rattle.std.proofs.lemmas.List.{get_or_default}
use Rattle.lrpar_grammar_places.specs.declared.span.TIdx.{TIdx}
use Rattle.lrpar_table_rows.specs.Runs.{run_items}
use Rattle.lrpar_table_rows.proofs.ItemLemmas.{exact_index, sorted_image}
use Rattle.lrpar_table_rows.proofs.RunLemmas.{lookaheads_by_numbers, no_lookaheads, none_sorted, run_at}
use Rattle.lrpar_table_rows.proofs.items.ItemSet.lookaheads.Goals as goal

pub index-requires : goal.index-requires
index-requires g c = omega (arith, c.in-Some.ensures.within, c.self.invariant.paired)

pub returns-in-Some-clause-all : goal.returns-in-Some-clause-all
returns-in-Some-clause-all g c = λ t.
    let index = g.StorageT.StorageIndex.index in
    let cores = c.self.inside.cores in
    let runs = c.self.inside.runs.items in
    let exact = exact_index index g.StorageT.StorageIndex.at_index g.met.StorageT.StorageIndex.at_index_law in
    let below : c.in-Some.place < length runs = omega (arith, c.in-Some.ensures.within, c.self.invariant.paired) in
    let read : c.as_slice.result.now ≡ slice_index_or runs c.in-Some.place [] =
    c.as_slice.ensures.all ∙ c.index.ensures ∙ get_or_default runs c.in-Some.place c.index.result.now [] below in
    rw (← c.self.view_is)
    (lookaheads_by_numbers index exact cores runs c.args.prod c.args.dot c.as_slice.result.now
    (λ u. subst (λ run. Contains run u ↔ Contains (run_items cores runs) (c.args.prod, c.args.dot, u)) (sym read)
    (run_at cores runs c.in-Some.place c.args.prod c.args.dot u c.in-Some.ensures)) t)

pub returns-in-Some-clause-ascending : goal.returns-in-Some-clause-ascending
returns-in-Some-clause-ascending g c =
    rw c.as_slice.ensures.all
    (sorted_image _ nat_cmp (λ (token : TIdx g.row.StorageT.Denot). g.StorageT.StorageIndex.index token.0) (λ x y. g.met.StorageT.StorageIndex.cmp_law x.0 y.0) c.index.result.now
    c.as_slice.ensures.sorted)

pub returns-in-None-clause-all : goal.returns-in-None-clause-all
returns-in-None-clause-all g c = λ t.
    let index = g.StorageT.StorageIndex.index in
    let cores = c.self.inside.cores in
    let runs = c.self.inside.runs.items in
    let exact = exact_index index g.StorageT.StorageIndex.at_index g.met.StorageT.StorageIndex.at_index_law in
    rw (← c.self.view_is)
    (lookaheads_by_numbers index exact cores runs c.args.prod c.args.dot [] (no_lookaheads index exact cores runs c.args.prod c.args.dot c.in-None.ensures) t)

pub returns-in-None-clause-ascending : goal.returns-in-None-clause-ascending
returns-in-None-clause-ascending g c = none_sorted nat_cmp
