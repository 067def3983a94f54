use Rattle.std.proofs.Common.{◌≡◌, ◌^◌, ◌-◌, map, rules}
use Rattle.lrpar_grammar.specs.Symbols.{symbol_of}
use Rattle.lrpar_table_sentences.specs.Lens.{sum_of_lens}
use Rattle.lrpar_table_sentences.proofs.LenLemmas.{total_is_exact}
use Rattle.lrpar_table_sentences.proofs.shortest.Shortest.len_of_all.Goals as goal

pub returns-clause-shortest : goal.returns-clause-shortest
returns-clause-shortest g c = λ grm shortest.
    let ss = map (symbol_of g.StorageT.StorageIndex.index) c.args.symbols.now in
    let is : c.sum_of_lens.result ≡ sum_of_lens (2 ^ 64 - 1) c.args.self.now ss = search rules in
    total_is_exact grm (2 ^ 64 - 1) c.args.self.now shortest ss c.sum_of_lens.result is
