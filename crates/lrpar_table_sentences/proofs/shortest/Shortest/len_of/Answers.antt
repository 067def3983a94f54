use Rattle.std.proofs.Common.{◌≡◌, ◌^◌, ◌-◌, lit≤, rules}
use Rattle.lrpar_grammar.specs.Symbols.{symbol_of}
use Rattle.lrpar_table_sentences.specs.Lens.{len_at}
use Rattle.lrpar_table_sentences.proofs.LenLemmas.{len_is_exact}
use Rattle.lrpar_table_sentences.proofs.shortest.Shortest.len_of.Goals as goal

pub returns-clause-shortest : goal.returns-clause-shortest
returns-clause-shortest g c = λ grm shortest.
    let s = symbol_of g.StorageT.StorageIndex.index c.args.symbol in
    let is : c.len_of.result ≡ len_at c.args.self.now s = search rules in
    len_is_exact grm (2 ^ 64 - 1) c.args.self.now shortest (lit≤ tt) s c.len_of.result is
