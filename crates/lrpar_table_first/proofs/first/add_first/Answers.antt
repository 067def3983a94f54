use Rattle.std.proofs.Common.{◌<◌, ◌+◌, ◌∷◌, ◌∙◌, sym, ap, arith, rules, length, map, drop}
use Rattle.lrpar_grammar.specs.Grammar.{Nonterminal}
use Rattle.lrpar_grammar.specs.Symbols.{symbol_of}
use Rattle.lrpar_table_first.specs.FirstRows.{IsSymbolBelow, rows_of}
use Rattle.lrpar_grammar.specs.Tokens.{has}
use Rattle.lrpar_table_first.proofs.RowLemmas.{rule_met, symbol_below, symbols_from, walk_on, walk_rule, walk_token}
use Rattle.lrpar_table_first.proofs.first.add_first.Goals as goal

pub insert-requires : goal.insert-requires
insert-requires g c =
    let index = g.StorageT.StorageIndex.index in
    let low =
    symbol_below index (IsSymbolBelow (length c.args.sets.now) c.args.dummy) c.args.symbols.now c.loop-symbol.symbol-index c.symbol-item.result _ c.requires.rules
    c.loop-symbol-test.true c.symbol-item.is c.in-Token.is in
    omega (arith, low, c.from.ensures, c.loop-symbol.invariant.0)

pub returns-in-Token-clause-tokens : goal.returns-in-Token-clause-tokens
returns-in-Token-clause-tokens g c =
    let index = g.StorageT.StorageIndex.index in
    let symbols = map (symbol_of index) c.args.symbols.now in
    let i = c.loop-symbol.symbol-index in
    let at = symbols_from index c.args.symbols.now i c.symbol-item.result c.loop-symbol-test.true c.symbol-item.is
    ∙ ap (λ s. symbol_of index s ∷ drop (i + 1) symbols) c.in-Token.is in
    walk_token c.args.dummy (rows_of c.args.sets.now) symbols i c.args.front.now c.loop-symbol.front c.insert.new.self
    c.loop-symbol.invariant.1 _ _ at (rw c.from.ensures at c.insert.ensures.tokens)

pub bounds-sets-from : goal.bounds-sets-from
bounds-sets-from g c =
    let index = g.StorageT.StorageIndex.index in
    let low =
    symbol_below index (IsSymbolBelow (length c.args.sets.now) c.args.dummy) c.args.symbols.now c.loop-symbol.symbol-index c.symbol-item.result _ c.requires.rules
    c.loop-symbol-test.true c.symbol-item.is c.in-Rule.is in
    omega (arith, low, c.from-in-Rule.ensures)

pub offset_bounds-sets-from : goal.offset_bounds-sets-from
offset_bounds-sets-from g c =
    let index = g.StorageT.StorageIndex.index in
    let low =
    symbol_below index (IsSymbolBelow (length c.args.sets.now) c.args.dummy) c.args.symbols.now c.loop-symbol.symbol-index c.symbol-item.result _ c.requires.rules
    c.loop-symbol-test.true c.symbol-item.is c.in-Rule.is in
    let within : c.from-in-Rule.result < length c.args.sets.now = omega (arith, low, c.from-in-Rule.ensures) in
    search rules

pub returns-then-not-contains-clause-tokens : goal.returns-then-not-contains-clause-tokens
returns-then-not-contains-clause-tokens g c =
    let index = g.StorageT.StorageIndex.index in
    let met =
    rule_met index c.args.dummy c.args.sets.now c.args.symbols.now c.loop-symbol.symbol-index c.symbol-item.result c.from-in-Rule.result c.index-sets-from.result
    c.loop-symbol.front c.unite_below-grown.new.self c.requires.rules c.loop-symbol-test.true c.symbol-item.is
    (ap (symbol_of index) c.in-Rule.is ∙ ap Nonterminal (sym c.from-in-Rule.ensures)) c.index-sets-from.is c.unite_below-grown.ensures.tokens in
    walk_rule c.args.dummy (rows_of c.args.sets.now) (map (symbol_of index) c.args.symbols.now) c.loop-symbol.symbol-index c.args.front.now
    c.loop-symbol.front c.unite_below-grown.new.self c.loop-symbol.invariant.1 c.from-in-Rule.result _ met.0
    (ap (λ bits. has bits c.args.dummy) met.1 ∙ sym c.contains.ensures ∙ c.if-not-contains.true) met.2

pub loop-symbol-preserved : goal.loop-symbol-preserved
loop-symbol-preserved g c =
    let index = g.StorageT.StorageIndex.index in
    let met =
    rule_met index c.args.dummy c.args.sets.now c.args.symbols.now c.loop-symbol.symbol-index c.symbol-item.result c.from-in-Rule.result c.index-sets-from.result
    c.loop-symbol.front c.unite_below-grown.new.self c.requires.rules c.loop-symbol-test.true c.symbol-item.is
    (ap (symbol_of index) c.in-Rule.is ∙ ap Nonterminal (sym c.from-in-Rule.ensures)) c.index-sets-from.is c.unite_below-grown.ensures.tokens in (
      c.unite_below-grown.ensures.room ∙ c.loop-symbol.invariant.0,
      walk_on c.args.dummy (rows_of c.args.sets.now) (map (symbol_of index) c.args.symbols.now) c.loop-symbol.symbol-index c.args.front.now
          c.loop-symbol.front c.unite_below-grown.new.self c.loop-symbol.invariant.1 c.from-in-Rule.result met.0
          (ap (λ bits. has bits c.args.dummy) met.1 ∙ sym c.contains.ensures ∙ c.if-not-contains.false) met.2,
    )
