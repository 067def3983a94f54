use Rattle.std.proofs.Common.{◌<◌, ◌↔◌, ◌∙◌, arith, length, map, subst, sym}
use Rattle.std.specs.List.{Contains}
use Rattle.std.proofs.lemmas.List.{length-map}
use Rattle.lrpar_conflict_examples.specs.Pairs.{IsPairStep, PairLists, pairs_in}
use Rattle.lrpar_conflict_examples.proofs.PairLemmas.{all_found, first_found, found_within, nexts_below, place_below, round_more}
use Rattle.lrpar_conflict_examples.proofs.paired.Pairs.new.Goals as goal

pub add-requires : goal.add-requires
add-requires g c =
    let low = c.start_state.ensures.within in
    let len = length-map c.in_ok-rows.rows.items (λ row. row.items) in
    let rows = c.in_ok-rows.ensures.len in
    omega (arith, low, len, rows, c.from.ensures, c.start_state.ensures.start)

pub places-init : goal.places-init
places-init g c =
    let old : PairLists = record { rows = map (λ row. row.items) c.in_ok-rows.rows.items; found = c.new.result.items } in
    let both =
    first_found c.args.one.now c.args.other.now c.states_len.result c.from.result c.from-2.result old (pairs_in c.add.new.self) c.states_len.ensures.closed
    c.states_len-lemma.ensures.closed c.states_len.ensures.states (c.from.ensures ∙ c.start_state.ensures.start) (c.from-2.ensures ∙ c.start_state-2.ensures.start)
    c.in_ok-rows.ensures c.new.ensures.items c.in_ok-add.ensures.added in
    record { found = both.0; start = both.1; followed = λ k low. absurd (omega (arith, low)) }

pub next_pairs-requires-clause-state : goal.next_pairs-requires-clause-state
next_pairs-requires-clause-state g c =
    let l = c.places in
    let low : l.place < length l.pairs.found.items = omega (arith, c.places-test.true, c.len.ensures, l.pairs.found.ok.0) in
    let p = c.index.result.now in
    (found_within c.args.one.now c.args.other.now (pairs_in l.pairs) l.invariant.found p.0 p.1 (l.place, low, sym c.index.ensures)).0

pub next_pairs-requires-clause-paired : goal.next_pairs-requires-clause-paired
next_pairs-requires-clause-paired g c =
    let l = c.places in
    let low : l.place < length l.pairs.found.items = omega (arith, c.places-test.true, c.len.ensures, l.pairs.found.ok.0) in
    let p = c.index.result.now in
    (found_within c.args.one.now c.args.other.now (pairs_in l.pairs) l.invariant.found p.0 p.1 (l.place, low, sym c.index.ensures)).1

pub add_all-requires : goal.add_all-requires
add_all-requires g c =
    let l = c.places in
    let one = c.args.one.now in
    let other = c.args.other.now in
    let p = c.index.result.now in
    let low : l.place < length l.pairs.found.items = omega (arith, c.places-test.true, c.len.ensures, l.pairs.found.ok.0) in
    nexts_below one other l.place (pairs_in l.pairs) p c.deref.result.now low c.index.ensures l.invariant.found
    (λ next beside. subst (λ items. Contains items (next, beside) ↔ IsPairStep one other p.0 p.1 next beside) (sym c.deref.ensures.value) (c.in_ok-nexts.ensures next beside))
    (length l.pairs.rows.items) (length-map l.pairs.rows.items (λ row. row.items))

pub places-preserved : goal.places-preserved
places-preserved g c =
    let l = c.places in
    let one = c.args.one.now in
    let other = c.args.other.now in
    let p = c.index.result.now in
    let low : l.place < length l.pairs.found.items = omega (arith, c.places-test.true, c.len.ensures, l.pairs.found.ok.0) in
    let all =
    round_more one other l.place (pairs_in l.pairs) p c.deref.result.now low c.index.ensures l.invariant.found
    (λ next beside. subst (λ items. Contains items (next, beside) ↔ IsPairStep one other p.0 p.1 next beside) (sym c.deref.ensures.value) (c.in_ok-nexts.ensures next beside))
    (pairs_in c.add_all.new.self) l.invariant.start l.invariant.followed c.in_ok-add_all.ensures.added in
    record { found = all.0; start = all.1; followed = all.2 }

pub places-smaller : goal.places-smaller
places-smaller g c =
    let l = c.places in
    let one = c.args.one.now in
    let other = c.args.other.now in
    let p = c.index.result.now in
    let low : l.place < length l.pairs.found.items = omega (arith, c.places-test.true, c.len.ensures, l.pairs.found.ok.0) in
    let most =
    place_below one other l.place (pairs_in l.pairs) p c.deref.result.now low c.index.ensures l.invariant.found
    (λ next beside. subst (λ items. Contains items (next, beside) ↔ IsPairStep one other p.0 p.1 next beside) (sym c.deref.ensures.value) (c.in_ok-nexts.ensures next beside)) in
    omega (arith, most)

pub returns : goal.returns
returns g c =
    let l = c.places in
    all_found c.args.one.now c.args.other.now (pairs_in l.pairs) l.invariant.found l.invariant.start
    (λ k low. l.invariant.followed k (omega (arith, low, c.places-test.false, c.len.ensures, l.pairs.found.ok.0)))
