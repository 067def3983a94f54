use Rattle.std.proofs.Common.{◌≡◌, ◌≤◌, ◌++◌, ◌-◌, ◌^◌, List, vec_len}
use Rattle.lrpar_table_sentences.specs.AccessStrings.{GoBack, StepOf, steps_of, accesses_of}
use Rattle.lrpar_table_sentences.proofs.back.push_back.Given as goal

-- the steps so far, and those that are left, are all
abbrev pub invariant-back : goal.invariant-back
invariant-back g l =
    let index = g.StorageT.StorageIndex.index in
    (vec_len l.initial.out ≤ vec_len l.out)
    × ((all : List StepOf) → GoBack (accesses_of index l.accesses) (index l.fn.s.0) all
    → (rest : List StepOf) × GoBack (accesses_of index l.accesses) (index l.state.0) rest
    × (steps_of index l.initial.out.items ++ all ≡ steps_of index l.out.items ++ rest))

-- there is no room for more steps than a list can have
abbrev pub decreases-back : goal.decreases-back
decreases-back g l = 2 ^ 64 - vec_len l.out
