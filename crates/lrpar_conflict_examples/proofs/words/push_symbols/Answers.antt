use Rattle.std.proofs.Common.{ap, map}
use Rattle.std.specs.String.{string_bytes}
use Rattle.lrpar_grammar.specs.Symbols.{symbol_of}
use Rattle.lrpar_conflict_examples.specs.Words.{symbol_text}
use Rattle.lrpar_conflict_examples.proofs.TextLemmas.{next_text}
use Rattle.lrpar_conflict_examples.proofs.words.push_symbols.Goals as goal

pub loop-symbol-preserved : goal.loop-symbol-preserved
loop-symbol-preserved g c =
    let plain = symbol_of g.StorageT.StorageIndex.index in
    let parted = c.in-Some.ensures.cases.0 in
    let fit = rw parted at c.loop-symbol.invariant.fit in
    record {
      fit = fit.1;
      whole = next_text (symbol_text c.args.grm.now) (map plain c.loop-symbol.rest.now) (map plain c.in-Some.others.now) (plain c.in-Some.symbol.now)
          (string_bytes c.loop-symbol.out) (string_bytes c.push_symbol.new.out) _ (ap (map plain) parted) c.in_ok-push_symbol.ensures c.loop-symbol.invariant.whole;
    }
