use Rattle.std.proofs.Common.{◌≡◌, ◌+◌, ◌-◌, ◌∙◌, ap, arith, drop, length, length-drop, map, subst, sym, take}
use Rattle.std.specs.Bool.{OnTrue}
use Rattle.std.proofs.lemmas.List.{drop-map, take-map, take_all}
use Rattle.lrpar_grammar.specs.Symbols.{symbol_of}
use Rattle.lrpar_report.specs.Loops.{DeriveNothing}
use Rattle.lrpar_report.proofs.LoopLemmas.{front_place, lone_place}
use Rattle.lrpar_report.proofs.loops.is_position.Goals as goal

pub returns-then-derive_nothing : goal.returns-then-derive_nothing
returns-then-derive_nothing g c = λ grm shortest.
    let symbol = symbol_of g.StorageT.StorageIndex.index in
    let symbols = c.args.symbols.now in
    let place = c.args.place in
    let front = c.derive_nothing.result in
    let back = c.derive_nothing-then-derive_nothing.result in
    let next = place + 1 in
    let all : take (length symbols - next) (drop next symbols) ≡ drop next symbols =
    take_all (length symbols - next) (drop next symbols) (omega (arith, length-drop next symbols)) in
    lone_place c.args.kind grm (map symbol symbols) place front back c.in-DerivesItself.is c.if-derive_nothing.true
    (subst (λ w. OnTrue front (DeriveNothing grm w)) (sym (take-map symbol place symbols)) (c.derive_nothing.ensures grm shortest))
    (subst (λ w. OnTrue back (DeriveNothing grm w)) (ap (map symbol) all ∙ sym (drop-map symbol next symbols)) (c.derive_nothing-then-derive_nothing.ensures grm shortest))

pub returns-in-IsHiddenLeft : goal.returns-in-IsHiddenLeft
returns-in-IsHiddenLeft g c = λ grm shortest.
    let symbol = symbol_of g.StorageT.StorageIndex.index in
    let symbols = c.args.symbols.now in
    let front = c.derive_nothing-in-IsHiddenLeft.result in
    front_place c.args.kind grm (map symbol symbols) c.args.place front c.in-IsHiddenLeft.is
    (subst (λ w. OnTrue front (DeriveNothing grm w)) (sym (take-map symbol c.args.place symbols)) (c.derive_nothing-in-IsHiddenLeft.ensures grm shortest))
