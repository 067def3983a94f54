use Rattle.std.proofs.Common.{◌≡◌, length}
use Rattle.lrpar_table_rows.specs.Table.{states_len}
use Rattle.lrpar_table_pops.proofs.MarkLemmas.{AreGotosMarked}
use Rattle.lrpar_table_pops.proofs.saturate.goto_states.Given as goal

-- the states that gotos of the states so far lead to are marked
abbrev pub invariant-loop-number : goal.invariant-loop-number
invariant-loop-number g l = record {
  len : length l.are.items ≡ states_len l.stable;
  all : AreGotosMarked l.stable l.number l.are.items;
}
