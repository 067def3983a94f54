use Rattle.std.proofs.Common.{inl}
use Rattle.lrpar_table_stops.specs.ErrorStates.{Enters}
use Rattle.lrpar_table_stops.proofs.met.add_all.Goals as goal

pub add_tokens-start-requires-clause-looks : goal.add_tokens-start-requires-clause-looks
add_tokens-start-requires-clause-looks g c =
    λ t low. Enters (g.StorageT.StorageIndex.index c.start_state.result.0) t (inl c.start_state.ensures.start) low
