use Rattle.std.proofs.Common.{map, take}
use Rattle.lrpar_grammar.specs.Kept.{AreRowsOf, split_prod_of}
use Rattle.lrpar_grammar.proofs.grammar.prods.prods_by_rule.Given as goal

-- the rows have the productions so far
abbrev pub invariant-loop-number : goal.invariant-loop-number
invariant-loop-number g l =
    let index = g.StorageT.StorageIndex.index in
    AreRowsOf index l.rules (map (split_prod_of index) (take l.number l.prods)) l.rows.items
