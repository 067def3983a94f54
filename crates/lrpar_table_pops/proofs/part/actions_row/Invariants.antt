use Rattle.lrpar_table_pops.specs.Parts.{HasSomeActionsOf}
use Rattle.lrpar_table_pops.proofs.part.actions_row.Given as goal

-- the actions so far are those of the state
abbrev pub invariant-tokens : goal.invariant-tokens
invariant-tokens g l = HasSomeActionsOf g.StorageT.StorageIndex.index l.stable (g.StorageT.StorageIndex.index l.fn.state.0) l.row.items
