use Rattle.std.proofs.Common.{◌≡◌, ◌<◌, ◌++◌, ◌+◌, ◌∷◌, ◌∙◌, [], ap, arith, length, subst, sym, take}
use Rattle.std.proofs.lemmas.List.{take_all, take_more}
use Rattle.lrpar_table_rows.specs.PlainItems.{AreCoresOf}
use Rattle.lrpar_table_rows.specs.Runs.{core_items, items_of_rows}
use Rattle.lrpar_table_rows.proofs.ItemLemmas.{cores_exactly}
use Rattle.lrpar_table_rows.proofs.RunLemmas.{cores_more, cores_no_more, row_more}
use Rattle.lrpar_table_rows.proofs.runs.cores_of_rows.Goals as goal
use Rattle.lrpar_table_rows.proofs.runs.cores_of_rows.Goals.{then-some-gt0+in_ok-push, else-some-gt0}

pub loop-row-preserved : goal.loop-row-preserved
loop-row-preserved g c =
    let rows = c.args.rows.now in
    let i = c.loop-row.row-index in
    let row = c.row-item.result in
    let front = items_of_rows (take i rows) in
    let more : take (i + 1) rows ≡ take i rows ++ row ∷ [] = rw (← c.row-item.is) at (take_more rows i row c.loop-row-test.true) in
    let items : items_of_rows (take (i + 1) rows) ≡ front ++ core_items (row.0, row.1) row.2.items = ap items_of_rows more ∙ row_more (take i rows) row in
    subst (λ xs. AreCoresOf xs c.if-some-gt0.cores.items) (sym items)
    (elim c.if-some-gt0.branch [
      | then-some-gt0+in_ok-push w ↦
          let some : 0 < length row.2.items = omega (arith, w.if-some-gt0.true, c.len-some.ensures, row.2.ok.0) in
          subst (AreCoresOf (front ++ core_items (row.0, row.1) row.2.items)) (sym w.in_ok-push.ensures.items ∙ sym (ap (λ v. v.items) w.cores-is))
          (cores_more front c.loop-row.cores.items (row.0, row.1) row.2.items c.loop-row.invariant some)
      | else-some-gt0 w ↦
          let none : length row.2.items ≡ 0 = omega (arith, w.if-some-gt0.false, c.len-some.ensures, row.2.ok.0) in
          subst (λ v. AreCoresOf (front ++ core_items (row.0, row.1) row.2.items) v.items) (sym w.cores-is)
          (cores_no_more front c.loop-row.cores.items (row.0, row.1) row.2.items c.loop-row.invariant none)
    ])

pub returns : goal.returns
returns g c = λ p k.
    let all = take_all c.loop-row.row-index c.args.rows.now c.loop-row-test.false in
    let are : AreCoresOf (items_of_rows c.args.rows.now) c.loop-row.cores.items = rw all at c.loop-row.invariant in
    let same = c.from_vec.ensures.same (p, k) in
    (λ h. (are p k).0 (same.0 h), λ h. same.1 ((are p k).1 h))

pub from_vec-requires : goal.from_vec-requires
from_vec-requires g c =
    let laws = g.met.StorageT.StorageIndex in
    record { exact = cores_exactly g.StorageT.StorageIndex.index g.StorageT.StorageIndex.at_index g.StorageT.Ord.cmp laws.at_index_law laws.cmp_law }
