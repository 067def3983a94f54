use Rattle.std.proofs.Common.{Some, option_map, ap, sym, ◌∙◌}
use Rattle.lrpar_grammar_words.specs.Words.{PlacedWord}
use Rattle.lrpar_grammar_reader.proofs.SpanLemmas.{placed_index}
use Rattle.lrpar_grammar_reader.proofs.reader.refuse_second_start.Goals as goal

pub returns-in-Some-clause-err : goal.returns-in-Some-clause-err
returns-in-Some-clause-err c =
    let word = c.in-Some.word.now in
    let found = c.in-Some.ensures.lookup in
    ap (option_map (λ (w : PlacedWord). w.span)) (placed_index c.args.outline.now.starts.items c.deref.result.now 1 word c.deref.ensures.value found.3.0 found.1)
    ∙ ap Some (sym c.span.ensures)
