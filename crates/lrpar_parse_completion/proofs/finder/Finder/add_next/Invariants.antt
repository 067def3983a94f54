use Rattle.lrpar_parse_completion.specs.FinderView.{AddsNextBelow}
use Rattle.lrpar_parse_completion.proofs.finder.Finder.add_next.Given as goal

-- the stacks to which the tokens so far lead were added
abbrev pub invariant-loop-number : goal.invariant-loop-number
invariant-loop-number g l = AddsNextBelow g.StorageT.StorageIndex.index l.self l.place l.number l.initial.found l.found
