use Rattle.std.proofs.Common.{rules, arith, ◌+◌}
use Rattle.std.proofs.lemmas.List.Elements.{All-map}
use Rattle.lrpar_grammar_reader.specs.Grammar.{IsDeclaredSymbol}
use Rattle.lrpar_grammar_reader.specs.Symbols.{symbol_of}
use Rattle.lrpar_grammar_places.proofs.ListLemmas.{All-map-fails, holds_more}
use Rattle.lrpar_grammar_reader.proofs.parts.ProdPart.is_declared.Goals as goal

pub loop-symbol-preserved : goal.loop-symbol-preserved
loop-symbol-preserved g c =
    holds_more (λ pair. IsDeclaredSymbol (c.args.rules + 1) c.args.tokens (symbol_of g.StorageT.StorageIndex.index pair.0))
    c.args.self.now.symbols.items c.loop-symbol.symbol-index c.loop-symbol-item.result c.loop-symbol.invariant (omega arith)
    (rw c.deref-symbol-items.ensures.value at c.loop-symbol-item.is) (c.is_declared_symbol.ensures.0 c.if-not-is_declared_symbol.false)

pub returns-then-not-is_declared_symbol : goal.returns-then-not-is_declared_symbol
returns-then-not-is_declared_symbol g c = (
  search rules,
  λ listed. absurd (All-map-fails (IsDeclaredSymbol (c.args.rules + 1) c.args.tokens) (λ x. symbol_of g.StorageT.StorageIndex.index x.0)
      c.args.self.now.symbols.items c.loop-symbol.symbol-index c.loop-symbol-item.result (omega arith)
      (rw c.deref-symbol-items.ensures.value at c.loop-symbol-item.is) (search rules) listed.symbols),
)

pub returns : goal.returns
returns g c = (
  λ h. let rule = c.is_declared_rule.ensures.0 h in record {
    rule_added = rule.0;
    rule_within = rule.1;
    symbols = All-map (IsDeclaredSymbol (c.args.rules + 1) c.args.tokens) (λ x. symbol_of g.StorageT.StorageIndex.index x.0) c.args.self.now.symbols.items
        (λ k d within. c.loop-symbol.invariant k d (omega arith));
  },
  λ listed. c.is_declared_rule.ensures.1 (listed.rule_added, listed.rule_within),
)
