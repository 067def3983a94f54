use Rattle.std.proofs.Common.{ap, sym, ◌∙◌, map}
use Rattle.std.proofs.lemmas.Simd.{map-map}
use Rattle.lrpar_grammar_reader.specs.Parts.{prod_of}
use Rattle.lrpar_grammar_reader.specs.Symbols.{symbol_of}
use Rattle.lrpar_grammar_unmatched.proofs.SoundLemmas.{prod_is}
use Rattle.lrpar_grammar_unmatched.proofs.copies.copied_prod.Goals as goal

pub returns : goal.returns
returns g c =
    let index = g.StorageT.StorageIndex.index in
    let pairs = c.in_ok-symbols_with_spans.field-0.items in
    prod_is c.args.grm.now (index c.args.prod.0) (prod_of index (record { rule = c.prod_to_rule.result; symbols = c.in_ok-symbols_with_spans.field-0; span = c.prod_span.result }))
    c.requires.within c.prod_to_rule.ensures.rule
    (sym (map-map (symbol_of index) (λ pair. pair.0) pairs) ∙ ap (map (symbol_of index)) c.in_ok-symbols_with_spans.ensures.symbols ∙ c.prod.ensures)
    (c.in_ok-symbols_with_spans.ensures.spans ∙ c.symbol_spans.ensures)
    c.prod_span.ensures
