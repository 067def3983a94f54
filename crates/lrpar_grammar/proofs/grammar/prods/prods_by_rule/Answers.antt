use Rattle.std.proofs.Common.{◌≡◌, ◌<◌, map, length, take, sym, subst, ◌∙◌, arith}
use Rattle.std.proofs.lemmas.List.{length-map, length-take-le}
use Rattle.lrpar_grammar.specs.Kept.{split_prod_of}
use Rattle.lrpar_grammar_places.proofs.ListLemmas.{All-map-at, map-take_more}
use Rattle.lrpar_grammar.proofs.RowsLemmas.{AreRowsOf-push}
use Rattle.lrpar_grammar.proofs.grammar.prods.prods_by_rule.Goals as goal

pub index_mut-row-requires : goal.index_mut-row-requires
index_mut-row-requires g c =
    let index = g.StorageT.StorageIndex.index in
    let prod = c.index-prods-number.result in
    let within : index prod.rule.0 < c.args.rules =
    subst (λ p. index p.rule.0 < c.args.rules) (sym c.index-prods-number.is)
    (All-map-at (λ p. p.rule < c.args.rules) (split_prod_of index) c.args.prods.now c.requires.within c.loop-number.number prod (omega arith)) in
    let from : c.from.result ≡ index prod.rule.0 = c.from.ensures in
    omega (arith, c.loop-number.invariant.len)

pub loop-number-preserved : goal.loop-number-preserved
loop-number-preserved g c =
    let index = g.StorageT.StorageIndex.index in
    let prods = c.args.prods.now in
    let prod = c.index-prods-number.result in
    let number = c.loop-number.number in
    let front = map (split_prod_of index) (take number prods) in
    let inside : number < length prods = omega arith in
    let within : index prod.rule.0 < c.args.rules =
    subst (λ p. index p.rule.0 < c.args.rules) (sym c.index-prods-number.is)
    (All-map-at (λ p. p.rule < c.args.rules) (split_prod_of index) prods c.requires.within number prod inside) in
    let read = rw c.from.ensures at c.index_mut-row.ensures.value in
    let count : index c.unwrap.result ≡ length front =
    (rw c.unwrap.ensures at c.from_index.ensures.back) ∙ sym (length-map (take number prods) (split_prod_of index) ∙ length-take-le number prods (omega arith)) in
    let pushed = AreRowsOf-push index c.args.rules front c.loop-number.rows.items (split_prod_of index prod)
    c.index_mut-row.result.now c.push.new.self (record { 0 = c.unwrap.result }) c.loop-number.invariant within read c.in_ok-push.ensures.items count in
    rw (map-take_more (split_prod_of index) prods number prod inside c.index-prods-number.is, c.from.ensures) pushed
