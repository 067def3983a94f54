use Rattle.std.proofs.Common.{◌≡◌, ◌∙◌, ◌∷◌, ap, drop, map, sym, Some, None, ◌+◌}
use Rattle.std.specs.Option.{option_and_then}
use Rattle.std.proofs.lemmas.List.{drop_all, drop_more}
use Rattle.lrpar_grammar.specs.Symbols.{symbol_of}
use Rattle.lrpar_table_stops.specs.Met.{number_in}
use Rattle.lrpar_table_stops.specs.ErrorStates.{end_of_path, next_by}
use Rattle.lrpar_table_stops.proofs.path.end_of_path.Goals as goal

pub loop-symbol-preserved : goal.loop-symbol-preserved
loop-symbol-preserved g c =
    let index = g.StorageT.StorageIndex.index in
    let table = c.args.stable.now in
    let s = index c.loop-symbol.state.0 in
    let i = c.loop-symbol.symbol-index in
    let symbols = c.args.symbols.now in
    let rest = map (symbol_of index) (drop (i + 1) symbols) in
    let after : drop i symbols ≡ c.symbol-item.result ∷ drop (i + 1) symbols =
    drop_more symbols i c.symbol-item.result c.loop-symbol-test.true ∙ ap (λ y. y ∷ drop (i + 1) symbols) (sym c.symbol-item.is) in
    let next : next_by table s (symbol_of index c.symbol-item.result) ≡ Some (index c.in_ok-state.state.0) =
    sym c.next_by.ensures ∙ ap (λ o. number_in index o) c.in_ok-state.was in
    let step : end_of_path table s (map (symbol_of index) (drop i symbols)) ≡ end_of_path table (index c.in_ok-state.state.0) rest =
    ap (λ xs. end_of_path table s (map (symbol_of index) xs)) after ∙ ap (λ o. option_and_then (λ n. end_of_path table n rest) o) next in
    c.loop-symbol.invariant ∙ step

pub returns-in_err-state : goal.returns-in_err-state
returns-in_err-state g c =
    let index = g.StorageT.StorageIndex.index in
    let table = c.args.stable.now in
    let s = index c.loop-symbol.state.0 in
    let i = c.loop-symbol.symbol-index in
    let symbols = c.args.symbols.now in
    let rest = map (symbol_of index) (drop (i + 1) symbols) in
    let after : drop i symbols ≡ c.symbol-item.result ∷ drop (i + 1) symbols =
    drop_more symbols i c.symbol-item.result c.loop-symbol-test.true ∙ ap (λ y. y ∷ drop (i + 1) symbols) (sym c.symbol-item.is) in
    let none : next_by table s (symbol_of index c.symbol-item.result) ≡ None =
    sym c.next_by.ensures ∙ ap (λ o. number_in index o) c.in_err-state.was in
    let step : end_of_path table s (map (symbol_of index) (drop i symbols)) ≡ None =
    ap (λ xs. end_of_path table s (map (symbol_of index) xs)) after ∙ ap (λ o. option_and_then (λ n. end_of_path table n rest) o) none in
    ap (λ o. number_in index o) c.from_residual.ensures ∙ sym (c.loop-symbol.invariant ∙ step)

pub returns : goal.returns
returns g c =
    let index = g.StorageT.StorageIndex.index in
    let s = index c.loop-symbol.state.0 in
    sym (c.loop-symbol.invariant ∙ ap (λ xs. end_of_path c.args.stable.now s (map (symbol_of index) xs))
    (drop_all c.loop-symbol.symbol-index c.args.symbols.now c.loop-symbol-test.false))
