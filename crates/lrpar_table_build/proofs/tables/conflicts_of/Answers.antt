use Rattle.std.proofs.Common.{◌<◌, ◌⊎◌, ◌∙◌, inl, inr, sym, length, map}
use Rattle.lrpar_table_rows.specs.PlainConflicts.{reduce_reduce_of, shift_reduce_of}
use Rattle.lrpar_table_build.proofs.ListedLemmas.{unless_empty_kept, unless_empty_none}
use Rattle.lrpar_table_items.proofs.NumberLemmas.{none_tested, some_tested}
use Rattle.lrpar_table_build.proofs.tables.conflicts_of.Goals as goal
use Rattle.lrpar_table_build.proofs.tables.conflicts_of.Goals.{else-is_empty-via-then-is_empty+else-is_empty-2, else-is_empty-via-else-is_empty}

pub returns-then-is_empty-2 : goal.returns-then-is_empty-2
returns-then-is_empty-2 g c =
    let index = g.StorageT.StorageIndex.index in
    let rr = c.args.rr in
    let sr = c.args.sr in
    unless_empty_none (map (reduce_reduce_of index) rr.items) (map (shift_reduce_of index) sr.items)
    (none_tested (reduce_reduce_of index) rr.items rr.len (sym rr.ok.0) (sym c.is_empty.ensures ∙ c.if-is_empty.true))
    (none_tested (shift_reduce_of index) sr.items sr.len (sym sr.ok.0) (sym c.is_empty-then-is_empty.ensures ∙ c.if-is_empty-2.true))

pub returns-else-is_empty : goal.returns-else-is_empty
returns-else-is_empty g c =
    let index = g.StorageT.StorageIndex.index in
    let rr = c.args.rr in
    let sr = c.args.sr in
    let some : (0 < length (map (reduce_reduce_of index) rr.items)) ⊎ (0 < length (map (shift_reduce_of index) sr.items)) =
    elim c.else-is_empty.branch [
      | else-is_empty-via-then-is_empty+else-is_empty-2 w ↦
          inr (some_tested (shift_reduce_of index) sr.items sr.len (sym sr.ok.0) (sym w.is_empty-then-is_empty.ensures ∙ w.if-is_empty-2.false))
      | else-is_empty-via-else-is_empty w ↦
          inl (some_tested (reduce_reduce_of index) rr.items rr.len (sym rr.ok.0) (sym c.is_empty.ensures ∙ w.if-is_empty.false))
    ] in
    unless_empty_kept c.new.result (map (reduce_reduce_of index) rr.items) (map (shift_reduce_of index) sr.items) c.new.ensures.rr c.new.ensures.sr some
