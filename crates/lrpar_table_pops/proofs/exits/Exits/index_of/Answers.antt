use Rattle.std.proofs.Common.{◌≡◌, ◌<◌, arith, ap, length, List, rules}
use Rattle.lrpar_table_pops.specs.declared.exits.Exit.{Exit}
use Rattle.lrpar_table_pops.proofs.GrowthLemmas.{other_ways_all, other_ways_more, other_ways_none, read_at}
use Rattle.lrpar_table_pops.proofs.exits.Exits.index_of.Goals as goal

pub loop-place-init : goal.loop-place-init
loop-place-init c = other_ways_none c.args.self.now c.args.way

pub loop-place-preserved : goal.loop-place-preserved
loop-place-preserved c =
    let exits = c.self.inside.exits.items in
    let long = c.self.inside.exits.ok.0 in
    let end = c.len-place-end.ensures in
    let low : c.loop-place.place < length exits = omega (arith, long, end, c.loop-place-test.true) in
    let other : ¬ (c.index.result.now.way ≡ c.args.way) = search rules in
    other_ways_more c.args.self.now c.args.way c.loop-place.place c.index.result.now (read_at exits c.args.self.now c.loop-place.place c.index.result.now c.self.view_is low c.index.ensures)
    other c.loop-place.invariant

pub returns-then-eq-clause-place : goal.returns-then-eq-clause-place
returns-then-eq-clause-place c =
    let exits = c.self.inside.exits.items in
    let long = c.self.inside.exits.ok.0 in
    let end = c.len-place-end.ensures in
    let low : c.loop-place.place < length exits = omega (arith, long, end, c.loop-place-test.true) in
    let same : c.index.result.now.way ≡ c.args.way = search rules in
    ((c.index.result.now, read_at exits c.args.self.now c.loop-place.place c.index.result.now c.self.view_is low c.index.ensures, same), c.loop-place.invariant)

pub returns-clause-none : goal.returns-clause-none
returns-clause-none c = λ _.
    let long = c.self.inside.exits.ok.0 in
    let end = c.len-place-end.ensures in
    let all : length c.self.inside.exits.items ≡ length c.args.self.now = ap (λ (l : List Exit). length l) c.self.view_is in
    other_ways_all c.args.self.now c.args.way c.loop-place.place (omega (arith, long, end, all, c.loop-place-test.false)) c.loop-place.invariant
