use Rattle.std.proofs.Common.{◌≡◌, length, map, take}
use Rattle.lrpar_grammar.specs.Grammar.{tokens_len}
use Rattle.lrpar_table_rows.specs.Runs.{set_of_rows}
use Rattle.lrpar_table_items.specs.Cores.{core_set}
use Rattle.lrpar_table_items.specs.CompleteItems.{AreRowsOf, items_of_cores}
use Rattle.lrpar_table_items.proofs.items.core_rows.Given as goal

-- the items of the cores so far, a row for each
abbrev pub invariant-cores : goal.invariant-cores
invariant-cores g l =
    let index = g.StorageT.StorageIndex.index in
    (length l.rows.items ≡ l.place)
    × AreRowsOf index (tokens_len l.grm) l.cores l.rows.items
    × (set_of_rows index l.rows.items ≡ items_of_cores (tokens_len l.grm) (map (core_set index) (take l.place l.cores)))
