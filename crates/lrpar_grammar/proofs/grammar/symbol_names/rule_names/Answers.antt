use Rattle.std.proofs.Common.{◌≡◌, arith}
use Rattle.lrpar_grammar.proofs.SymbolNameLemmas.{rule_names_more}
use Rattle.lrpar_grammar.proofs.grammar.symbol_names.rule_names.Goals as goal

pub loop-number-preserved : goal.loop-number-preserved
loop-number-preserved g c =
    let number = c.loop-number.number in
    let same : g.StorageT.StorageIndex.index c.unwrap.result ≡ number = rw c.unwrap.ensures at c.from_index.ensures.back in
    rule_names_more c.args.grm.now number (g.StorageT.StorageIndex.index c.unwrap.result) c.loop-number.names.items c.push.new.self.items c.rule_name_str.result
    (omega arith) same c.loop-number.invariant c.in_ok-push.ensures.items c.rule_name_str.ensures
