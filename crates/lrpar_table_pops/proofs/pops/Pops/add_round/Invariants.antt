use Rattle.std.proofs.Common.{◌≡◌, ◌<◌, ◌≤◌, length}
use Rattle.std.specs.Bool.{OnFalse, OnTrue}
use Rattle.lrpar_table_pops.specs.StoredPops.{ArePopsOf, room_of}
use Rattle.lrpar_table_rows.specs.Table.{states_len}
use Rattle.lrpar_table_pops.specs.StoredAll.{HasNoMarks, HaveAllWays, HaveSets}
use Rattle.lrpar_table_pops.proofs.RoundLemmas.{AreSettledFrom}
use Rattle.lrpar_table_pops.proofs.pops.Pops.add_round.Given as goal

-- what was added so far is right
abbrev pub invariant-states : goal.invariant-states
invariant-states g l = record {
  pops : ArePopsOf l.checked.grammar l.checked.table l.self;
  places : HaveAllWays l.checked.grammar l.checked.graph l.checked.table l.self;
  sets : HaveSets l.checked.grammar l.found;
  len : length l.changed_now.items ≡ states_len l.checked.table;
  settled : AreSettledFrom l.checked.grammar l.checked.graph l.checked.table l.self l.changed_now.items l.fn.changed.items l.above;
  marks : OnFalse l.grown (HasNoMarks l.changed_now.items);
  less : OnTrue l.grown (room_of l.self < room_of l.initial.self);
  no_more : room_of l.self ≤ room_of l.initial.self;
}
