use Rattle.lrpar_grammar.specs.Symbols.{symbol_of}
use Rattle.lrpar_conflict_derivations.proofs.ReplayLemmas.{one_symbol}
use Rattle.lrpar_conflict_derivations.proofs.replay.is_alone.Goals as goal

pub returns : goal.returns
returns g c =
    let index = g.StorageT.StorageIndex.index in
    λ is.
    one_symbol index c.args.symbols.now c.index-symbols-0.result (symbol_of index c.args.symbol) c.if-symbols-ne1.false c.index-symbols-0.is (c.is_same.ensures is)
