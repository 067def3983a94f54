use Rattle.std.proofs.Common.{◌≡◌, ◌∙◌, ap}
use Rattle.std.specs.Option.{option_map}
use Rattle.lrpar_grammar.specs.Grammar.{symbols_of}
use Rattle.lrpar_grammar.specs.Symbols.{symbol_of}
use Rattle.lrpar_table_items.specs.Cores.{core_set}
use Rattle.lrpar_table_items.specs.Next.{symbol_after}
use Rattle.lrpar_table_items.proofs.NextLemmas.{after_read}
use Rattle.lrpar_table_items.proofs.SymbolLemmas.{symbol_below}
use Rattle.lrpar_table_items.proofs.successors.symbol_after.Goals as goal

pub returns-clause-listed : goal.returns-clause-listed
returns-clause-listed g c =
    let symbol = symbol_of g.StorageT.StorageIndex.index in
    let core = core_set g.StorageT.StorageIndex.index c.args.core.now in
    let read = c.get.ensures.lookup in
    let found : option_map symbol c.copied.result ≡ symbol_after c.args.grm.now core =
    ap (option_map symbol) c.copied.ensures ∙ after_read symbol c.prod.result.now (symbols_of c.args.grm.now core.prod) core.dot c.get.result c.prod.ensures read.1 read.3 in
    symbol_below c.args.grm.now c.requires.well_formed symbol core.prod core.dot c.copied.result found
