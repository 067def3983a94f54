use Rattle.std.proofs.Common.{◌≡◌, length}
use Rattle.lrpar_table_pops.specs.StoredPops.{ArePopsOf}
use Rattle.lrpar_table_pops.proofs.KeptLemmas.{ArePlacesOf}
use Rattle.lrpar_table_pops.proofs.pops.Pops.empty.Given as goal

-- there are no exits, and there is room for those of the states so far
abbrev pub invariant-states : goal.invariant-states
invariant-states g l = record {
  pops : ArePopsOf l.checked.grammar l.checked.table l.states.items;
  len : length l.states.items ≡ l.number;
  places : ArePlacesOf l.checked.grammar l.checked.graph l.checked.table l.states.items;
}
