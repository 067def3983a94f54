use Rattle.std.proofs.Common.{◌<◌, ◌↔◌, ◌⊎◌, All, map}
use Rattle.lrpar_grammar.specs.Grammar.{rule_of}
use Rattle.lrpar_table_rows.specs.Graph.{ItemOf}
use Rattle.lrpar_table_items.specs.Cores.{IsAmong, IsOfRows, core_set}
use Rattle.lrpar_table_items.specs.CoreOrder.{AreCores, IsAhead}
use Rattle.lrpar_table_first.specs.FirstRows.{rows_of}
use Rattle.lrpar_table_items.proofs.closure.push_brought.Given as goal

-- the items of the rules so far are there, and the cores are in order
abbrev pub invariant-loop-rule : goal.invariant-loop-rule
invariant-loop-rule g l =
    let index = g.StorageT.StorageIndex.index in
    let cores = map (core_set index) l.closure.items in record {
      items : (x : ItemOf) → IsAmong cores x
          ↔ (IsAmong (map (core_set index) l.initial.closure.items) x ⊎ (IsOfRows l.grm (rows_of l.brought) x × (rule_of l.grm x.prod < l.rule)));
      are : AreCores l.grm cores;
      ahead : All (IsAhead l.grm l.rule) cores;
    }
