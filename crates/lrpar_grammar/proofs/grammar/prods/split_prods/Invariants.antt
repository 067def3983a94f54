use Rattle.std.proofs.Common.{◌≡◌, map, take}
use Rattle.lrpar_grammar_reader.specs.Parts.{prod_of}
use Rattle.lrpar_grammar.specs.Kept.{split_prod_of}
use Rattle.lrpar_grammar.proofs.grammar.prods.split_prods.Given as goal

-- the productions so far are split
abbrev pub invariant-loop-part : goal.invariant-loop-part
invariant-loop-part g l =
    let index = g.StorageT.StorageIndex.index in
    map (split_prod_of index) l.prods.items ≡ map (prod_of index) (take l.part-index l.parts)
