use Rattle.std.proofs.Common.{◌≡◌, map, take}
use Rattle.lrpar_grammar_reader.specs.Parts.{prod_of}
use Rattle.lrpar_grammar_unmatched.proofs.copies.declared_prods.Given as goal

-- the productions so far
abbrev pub invariant-loop-number : goal.invariant-loop-number
invariant-loop-number g l = map (prod_of g.StorageT.StorageIndex.index) l.prods.items ≡ take l.number l.grm.prods
