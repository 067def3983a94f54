use Rattle.std.proofs.Common.{sym}
use Rattle.lrpar_table_sentences.proofs.FrameLemmas.{none_after, some_after}
use Rattle.lrpar_table_sentences.proofs.unfold.symbol_at.Goals as goal

pub returns-in-Some-clause-symbol : goal.returns-in-Some-clause-symbol
returns-in-Some-clause-symbol g c =
    let fact = c.in-Some.ensures.lookup in
    some_after g.StorageT.StorageIndex.index c.prod.result.now _ c.args.frame.dot c.in-Some.symbol.now c.prod.ensures (sym fact.0) fact.1

pub returns-in-None-clause-symbol : goal.returns-in-None-clause-symbol
returns-in-None-clause-symbol g c =
    none_after g.StorageT.StorageIndex.index c.prod.result.now _ c.args.frame.dot c.prod.ensures (sym c.in-None.ensures.lookup.0)
