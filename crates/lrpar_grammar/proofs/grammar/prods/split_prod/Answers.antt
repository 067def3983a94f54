use Rattle.std.proofs.Common.{◌≡◌, ◌<◌, map, length, take, ap, ◌∙◌, refl, arith}
use Rattle.std.proofs.lemmas.List.{take_all}
use Rattle.std.proofs.lemmas.Simd.{map-map}
use Rattle.lrpar_grammar_reader.specs.Symbols.{symbol_of}
use Rattle.lrpar_grammar_places.proofs.ListLemmas.{copies_more}
use Rattle.lrpar_grammar.proofs.grammar.prods.split_prod.Goals as goal

pub loop-symbol-preserved : goal.loop-symbol-preserved
loop-symbol-preserved g c =
    let pairs = c.args.part.now.symbols.items in
    let within : c.loop-symbol.symbol-index < length pairs = omega arith in
    let pair = c.loop-symbol-item.result in
    let is = rw c.deref-symbol-items.ensures.value at c.loop-symbol-item.is in
    record {
      symbols = copies_more (λ x. x.0) pairs c.loop-symbol.symbol-index pair c.loop-symbol.symbols.items c.push.new.self.items
          within is c.loop-symbol.invariant.symbols c.in_ok-push.ensures.items;
      spans = copies_more (λ x. x.1) pairs c.loop-symbol.symbol-index pair c.loop-symbol.symbol_spans.items c.push-in-loop-symbol.new.self.items
          within is c.loop-symbol.invariant.spans c.in_ok-push-2.ensures.items;
    }

pub returns : goal.returns
returns g c =
    let pairs = c.args.part.now.symbols.items in
    let all : take c.loop-symbol.symbol-index pairs ≡ pairs = take_all _ _ (omega arith) in
    let index = g.StorageT.StorageIndex.index in
    let symbols : map (symbol_of index) c.loop-symbol.symbols.items ≡ map (λ x. symbol_of index x.0) pairs =
    ap (map (symbol_of index)) (c.loop-symbol.invariant.symbols ∙ ap (map (λ x. x.0)) all) ∙ map-map (symbol_of index) (λ x. x.0) pairs in
    let spans : c.loop-symbol.symbol_spans.items ≡ map (λ x. x.1) pairs = c.loop-symbol.invariant.spans ∙ ap (map (λ x. x.1)) all in
    rw (symbols, spans) refl
