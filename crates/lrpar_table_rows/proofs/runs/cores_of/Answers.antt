use Rattle.std.proofs.Common.{◌≡◌, ◌++◌, ◌+◌, ◌∷◌, [], map, take}
use Rattle.std.proofs.lemmas.List.{map-append, take_all, take_more}
use Rattle.lrpar_table_rows.specs.Ascending.{HaveSame}
use Rattle.lrpar_table_rows.proofs.ItemLemmas.{HaveSame-push, core_part, cores_exactly, cores_from_same, cores_same_by_test, exact_index}
use Rattle.lrpar_grammar_places.proofs.FaultLemmas.{no_value}
use Rattle.lrpar_table_rows.proofs.runs.cores_of.Goals as goal

pub push_new-requires : goal.push_new-requires
push_new-requires g c =
    let exact =
    exact_index g.StorageT.StorageIndex.index g.StorageT.StorageIndex.at_index g.met.StorageT.StorageIndex.at_index_law in
    record { exact = cores_same_by_test g.StorageT.StorageIndex.index exact g.StorageT.PartialEq.eq g.met.StorageT.StorageIndex.eq_law }

pub from_vec-requires : goal.from_vec-requires
from_vec-requires g c =
    let laws = g.met.StorageT.StorageIndex in
    record { exact = cores_exactly g.StorageT.StorageIndex.index g.StorageT.StorageIndex.at_index g.StorageT.Ord.cmp laws.at_index_law laws.cmp_law }

pub loop-item-preserved : goal.loop-item-preserved
loop-item-preserved g c =
    let items = c.args.items.now in
    let i = c.loop-item.item-index in
    let item = c.item-item.result in
    let below = c.loop-item-test.true in
    let more : take (i + 1) items ≡ take i items ++ item ∷ [] = rw (← c.item-item.is) at (take_more items i item below) in
    rw (more, map-append)
    (HaveSame-push c.loop-item.cores.items (map core_part (take i items)) c.push_new.new.row.items (core_part item) c.loop-item.invariant
    c.in_ok-push_new.ensures.same)

pub returns : goal.returns
returns g c =
    let all = take_all c.loop-item.item-index c.args.items.now c.loop-item-test.false in
    let same : HaveSame c.loop-item.cores.items (map core_part c.args.items.now) = rw all at c.loop-item.invariant in
    cores_from_same c.args.items.now c.from_vec.result
    (λ x. (λ h. (same x).0 ((c.from_vec.ensures.same x).0 h), λ h. (c.from_vec.ensures.same x).1 ((same x).1 h)))

pub returns-in_err-push_new : goal.returns-in_err-push_new
returns-in_err-push_new g c = no_value c.from_residual.result _ _ c.from_residual.ensures.1
