use Rattle.std.proofs.Common.{◌≡◌, ◌<◌, ◌∙◌, [], arith, length, slice_index_or, subst, sym}
use Rattle.std.specs.List.{Contains}
use Rattle.std.proofs.lemmas.Bool.{false≢true}
use Rattle.std.proofs.lemmas.List.{get_or_default}
use Rattle.lrpar_table_rows.specs.Runs.{run_items}
use Rattle.lrpar_table_rows.proofs.ItemLemmas.{exact_index, item_by_numbers}
use Rattle.lrpar_table_rows.proofs.RunLemmas.{core_from_items, run_at}
use Rattle.lrpar_table_rows.proofs.items.ItemSet.has_item.Goals as goal

pub index-requires : goal.index-requires
index-requires g c = omega (arith, c.in-Some.ensures.within, c.self.invariant.paired)

pub returns-in-Some : goal.returns-in-Some
returns-in-Some g c =
    let cores = c.self.inside.cores in
    let runs = c.self.inside.runs.items in
    let exact =
    exact_index g.StorageT.StorageIndex.index g.StorageT.StorageIndex.at_index g.met.StorageT.StorageIndex.at_index_law in
    let numbers = item_by_numbers g.StorageT.StorageIndex.index exact (run_items cores runs) c.args.prod c.args.dot c.args.token in
    let at = run_at cores runs c.in-Some.place c.args.prod c.args.dot c.args.token c.in-Some.ensures in
    let below : c.in-Some.place < length runs = omega (arith, c.in-Some.ensures.within, c.self.invariant.paired) in
    let read : c.index.result.now ≡ slice_index_or runs c.in-Some.place [] =
    c.index.ensures ∙ get_or_default runs c.in-Some.place c.index.result.now [] below in
    record {
      found = rw (← c.self.view_is) (
        λ h. numbers.0 (at.0 (subst (λ run. Contains run c.args.token) read (c.contains.ensures.found.0 h))),
        λ h. c.contains.ensures.found.1 (subst (λ run. Contains run c.args.token) (sym read) (at.1 (numbers.1 h))),
      );
    }

pub returns-in-None : goal.returns-in-None
returns-in-None g c =
    let cores = c.self.inside.cores in
    let runs = c.self.inside.runs.items in
    let exact =
    exact_index g.StorageT.StorageIndex.index g.StorageT.StorageIndex.at_index g.met.StorageT.StorageIndex.at_index_law in
    let numbers = item_by_numbers g.StorageT.StorageIndex.index exact (run_items cores runs) c.args.prod c.args.dot c.args.token in
    record {
      found = rw (← c.self.view_is) (
        λ h. absurd (false≢true h),
        λ h. absurd (c.in-None.ensures (core_from_items cores runs c.args.prod c.args.dot c.args.token (numbers.1 h))),
      );
    }
