use Rattle.std.proofs.Common.{◌≡◌, [], take}
use Rattle.lrpar_table_sentences.specs.Moves.{moves_in}
use Rattle.lrpar_conflict_derivations.specs.Texts.{tokens_in}
use Rattle.lrpar_conflict_derivations.proofs.validation.shifts_first.Given as goal

-- no token is shifted so far
abbrev pub invariant-loop-step : goal.invariant-loop-step
invariant-loop-step g l = tokens_in (moves_in g.StorageT.StorageIndex.index (take l.step-index l.moves)) ≡ []
