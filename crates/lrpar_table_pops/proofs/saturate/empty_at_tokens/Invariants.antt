use Rattle.std.proofs.Common.{◌≡◌, length}
use Rattle.lrpar_table_pops.specs.StoredPops.{HaveNoExits}
use Rattle.lrpar_table_pops.proofs.KeptLemmas.{ArePlacesAt}
use Rattle.lrpar_table_pops.proofs.saturate.empty_at_tokens.Given as goal

-- there are no exits; there is room for those at the tokens so far at which they are kept
abbrev pub invariant-tokens : goal.invariant-tokens
invariant-tokens g l = record {
  none : HaveNoExits l.at.items;
  len : length l.at.items ≡ l.number;
  places : ArePlacesAt l.checked.grammar l.checked.graph l.checked.table (g.StorageT.StorageIndex.index l.state.0) l.at.items;
}
