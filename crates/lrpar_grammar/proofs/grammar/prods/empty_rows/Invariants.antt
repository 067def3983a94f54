use Rattle.lrpar_grammar.specs.Kept.{AreRowsOf}
use Rattle.std.proofs.Common.{[]}
use Rattle.lrpar_grammar.proofs.grammar.prods.empty_rows.Given as goal

-- the rows so far are empty
abbrev pub invariant-loop : goal.invariant-loop
invariant-loop g l = AreRowsOf g.StorageT.StorageIndex.index l.counter [] l.rows.items
