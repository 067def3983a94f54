use Rattle.lrpar_messages.specs.Groups.{numbers_of}
use Rattle.lrpar_messages.proofs.KernelLemmas.{NoneSoFar}
use Rattle.lrpar_messages.proofs.groups.is_in_group.Given as goal

-- none so far has the kernel of the state
abbrev pub invariant-loop-first : goal.invariant-loop-first
invariant-loop-first g l =
    let index = g.StorageT.StorageIndex.index in
    NoneSoFar (λ n. n) l.sgraph (numbers_of index l.firsts) l.first-index (index l.state.0)
