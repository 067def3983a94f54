use Rattle.std.proofs.Common.{◌<◌, ◌≤◌}
use Rattle.std.specs.Bool.{OnTrue}
use Rattle.lrpar_table_pops.specs.StoredPops.{ArePopsOf, room_of}
use Rattle.lrpar_table_rows.specs.Table.{states_len}
use Rattle.lrpar_table_pops.specs.FoundAll.{HasRoomFor}
use Rattle.lrpar_table_pops.specs.StoredAll.{HaveAllWays, IsSoundTable, Saturates}
use Rattle.lrpar_table_pops.proofs.SaturateLemmas.{AreTokensClosed}
use Rattle.lrpar_table_pops.proofs.pops.Pops.add_at_tokens.Given as goal

-- what was added so far is right
abbrev pub invariant-tokens : goal.invariant-tokens
invariant-tokens g l = record {
  pops : ArePopsOf l.checked.grammar l.checked.table l.self;
  all : IsSoundTable l.checked.grammar l.checked.graph l.checked.table → g.StorageT.StorageIndex.index l.fn.state.0 < states_len l.checked.table
      → HasRoomFor l.checked.grammar l.checked.graph (g.StorageT.StorageIndex.index l.fn.state.0) l.initial.found
      → HaveAllWays l.checked.grammar l.checked.graph l.checked.table l.initial.self
      → Saturates l.checked.grammar l.checked.graph l.checked.table (g.StorageT.StorageIndex.index l.fn.state.0) l.grown
      (AreTokensClosed g.StorageT.StorageIndex.index l.checked.grammar l.checked.graph l.checked.table l.initial.self (g.StorageT.StorageIndex.index l.fn.state.0) l.tokens l.place)
      l.initial.self l.self
      × HasRoomFor l.checked.grammar l.checked.graph (g.StorageT.StorageIndex.index l.fn.state.0) l.found;
  less : OnTrue l.grown (room_of l.self < room_of l.initial.self);
  no_more : room_of l.self ≤ room_of l.initial.self;
}
