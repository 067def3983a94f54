use Rattle.std.proofs.Common.{◌≡◌, ◌+◌, ◌∙◌, Some, ap, arith, slice_get, sym}
use Rattle.std.proofs.lemmas.Bool.{both_ways, iff_false}
use Rattle.std.proofs.lemmas.Option.{same_Some}
use Rattle.lrpar_grammar.specs.Grammar.{symbols_of}
use Rattle.lrpar_grammar.specs.Symbols.{symbol_of}
use Rattle.lrpar_table_rows.specs.Graph.{HasCore}
use Rattle.lrpar_table_conditions.proofs.CoreLemmas.{before_read, before_test, beside_test}
use Rattle.lrpar_table_conditions.proofs.checkable.Checkable.core_follows.Goals as goal

pub returns-then-is_symbol : goal.returns-then-is_symbol
returns-then-is_symbol g c =
    let index = g.StorageT.StorageIndex.index in
    let p = index c.args.pidx.0 in
    let is : c.args.dot ≡ c.in-Some.before + 1 = omega (arith, c.in-Some.ensures.0, c.in-Some.ensures.1) in
    let read = before_read index c.prod.result.now _ _ _ _ c.prod.ensures is c.requires.dot c.index-prod-before.is in
    before_test (λ k. (slice_get (symbols_of c.args.self.now.grm.now p) k ≡ Some (symbol_of index c.args.symbol)) × HasCore c.args.self.now.sgraph.now (index c.args.s.0) p k)
    c.args.dot c.in-Some.before c.has_core.result is
    (beside_test c.has_core.result (read ∙ ap Some (c.is_symbol.ensures.0 c.if-is_symbol.true)) c.has_core.ensures.found)

pub returns-else-is_symbol : goal.returns-else-is_symbol
returns-else-is_symbol g c =
    let index = g.StorageT.StorageIndex.index in
    let p = index c.args.pidx.0 in
    let is : c.args.dot ≡ c.in-Some.before + 1 = omega (arith, c.in-Some.ensures.0, c.in-Some.ensures.1) in
    let read = before_read index c.prod.result.now _ _ _ _ c.prod.ensures is c.requires.dot c.index-prod-before.is in
    before_test (λ k. (slice_get (symbols_of c.args.self.now.grm.now p) k ≡ Some (symbol_of index c.args.symbol)) × HasCore c.args.self.now.sgraph.now (index c.args.s.0) p k)
    c.args.dot c.in-Some.before c.is_symbol.result is (
      λ h. absurd (both_ways c.is_symbol.result c.if-is_symbol.false h),
      λ parts. absurd (iff_false c.is_symbol.ensures c.if-is_symbol.false (same_Some _ _ (sym read ∙ parts.0))),
    )
