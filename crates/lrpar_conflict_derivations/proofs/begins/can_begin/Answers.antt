use Rattle.std.proofs.Common.{◌+◌, ◌∷◌, ◌∙◌, nat_eq, ap, arith, rules, map, drop}
use Rattle.lrpar_grammar.specs.Symbols.{symbol_of}
use Rattle.lrpar_table_first.specs.FirstRows.{rows_of}
use Rattle.lrpar_table_first.proofs.RowLemmas.{symbols_from}
use Rattle.lrpar_conflict_derivations.proofs.BeginLemmas.{at_token, begins_here, goes_through, set_there, stops_here}
use Rattle.lrpar_conflict_derivations.proofs.begins.can_begin.Goals as goal

pub returns-in-Token : goal.returns-in-Token
returns-in-Token g c =
    let index = g.StorageT.StorageIndex.index in
    let symbols = map (symbol_of index) c.args.symbols.now in
    let i = c.loop-symbol.symbol-index in
    let at = symbols_from index c.args.symbols.now i c.symbol-item.result c.loop-symbol-test.true c.symbol-item.is
    ∙ ap (λ s. symbol_of index s ∷ drop (i + 1) symbols) c.in-Token.is in
    ap (λ n. nat_eq c.args.token n) c.from.ensures ∙ at_token c.args.dummy (rows_of c.args.firsts.now) symbols i c.args.token c.loop-symbol.invariant _ _ at

pub bounds-firsts-from : goal.bounds-firsts-from
bounds-firsts-from g c =
    let within =
    set_there g.StorageT.StorageIndex.index c.args.firsts.now c.args.symbols.now c.args.dummy c.loop-symbol.symbol-index c.requires c.symbol-item.result _
    c.from-in-Rule.result c.loop-symbol-test.true c.symbol-item.is c.in-Rule.is c.from-in-Rule.ensures in
    omega (arith, within)

pub offset_bounds-firsts-from : goal.offset_bounds-firsts-from
offset_bounds-firsts-from g c =
    let within =
    set_there g.StorageT.StorageIndex.index c.args.firsts.now c.args.symbols.now c.args.dummy c.loop-symbol.symbol-index c.requires c.symbol-item.result _
    c.from-in-Rule.result c.loop-symbol-test.true c.symbol-item.is c.in-Rule.is c.from-in-Rule.ensures in
    search rules

pub returns-then-has_token : goal.returns-then-has_token
returns-then-has_token g c =
    begins_here g.StorageT.StorageIndex.index c.args.firsts.now c.args.symbols.now c.args.dummy c.loop-symbol.symbol-index c.requires c.symbol-item.result _
    c.from-in-Rule.result c.loop-symbol-test.true c.symbol-item.is c.in-Rule.is c.from-in-Rule.ensures c.args.token c.loop-symbol.invariant
    c.index-firsts-from.result c.index-firsts-from.is c.has_token.result c.has_token.ensures c.if-has_token.true

pub returns-then-not-contains : goal.returns-then-not-contains
returns-then-not-contains g c =
    stops_here g.StorageT.StorageIndex.index c.args.firsts.now c.args.symbols.now c.args.dummy c.loop-symbol.symbol-index c.requires c.symbol-item.result _
    c.from-in-Rule.result c.loop-symbol-test.true c.symbol-item.is c.in-Rule.is c.from-in-Rule.ensures c.args.token c.loop-symbol.invariant
    c.index-firsts-from.result c.index-firsts-from.is c.has_token.result c.has_token.ensures c.if-has_token.false c.contains.result c.contains.ensures
    c.if-not-contains.true

pub loop-symbol-preserved : goal.loop-symbol-preserved
loop-symbol-preserved g c =
    goes_through g.StorageT.StorageIndex.index c.args.firsts.now c.args.symbols.now c.args.dummy c.loop-symbol.symbol-index c.requires c.symbol-item.result _
    c.from-in-Rule.result c.loop-symbol-test.true c.symbol-item.is c.in-Rule.is c.from-in-Rule.ensures c.args.token c.loop-symbol.invariant
    c.index-firsts-from.result c.index-firsts-from.is c.has_token.result c.has_token.ensures c.if-has_token.false c.contains.result c.contains.ensures
    c.if-not-contains.false
