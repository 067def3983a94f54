use Rattle.std.proofs.Common.{◌≡◌, take}
use Rattle.lrpar_conflict_derivations.specs.Texts.{token_numbers}
use Rattle.lrpar_conflict_derivations.proofs.example.are_same.Given as goal

-- the tokens so far are the same
abbrev pub invariant-loop-place : goal.invariant-loop-place
invariant-loop-place g l =
    let index = g.StorageT.StorageIndex.index in
    take l.place (token_numbers index l.one) ≡ take l.place (token_numbers index l.other)
