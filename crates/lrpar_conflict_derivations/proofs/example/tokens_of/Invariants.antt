use Rattle.std.proofs.Common.{◌≡◌, take}
use Rattle.lrpar_table_sentences.specs.Moves.{moves_in}
use Rattle.lrpar_conflict_derivations.specs.Texts.{tokens_in, token_numbers}
use Rattle.lrpar_conflict_derivations.proofs.example.tokens_of.Given as goal

-- the tokens so far
abbrev pub invariant-loop-step : goal.invariant-loop-step
invariant-loop-step g l =
    let index = g.StorageT.StorageIndex.index in token_numbers index l.tokens.items ≡ tokens_in (moves_in index (take l.step-index l.moves))
