use Rattle.std.proofs.Common.{◌≡◌, ◌∙◌, ap, arith, length, List, rules}
use Rattle.lrpar_table_pops.specs.declared.exits.Exit.{Exit}
use Rattle.lrpar_table_pops.proofs.GrowthLemmas.{first_lookaheads, other_ways_all, other_ways_more, other_ways_none, read_at}
use Rattle.lrpar_table_pops.proofs.exits.Exits.tokens_at.Goals as goal

pub loop-exit-init : goal.loop-exit-init
loop-exit-init c = other_ways_none c.args.self.now c.args.way

pub loop-exit-preserved : goal.loop-exit-preserved
loop-exit-preserved c =
    let other : ¬ (c.exit-item.result.way ≡ c.args.way) = search rules in
    other_ways_more c.args.self.now c.args.way c.loop-exit.exit-index c.exit-item.result
    (read_at c.deref-exit-items.result.now c.args.self.now c.loop-exit.exit-index c.exit-item.result (c.deref-exit-items.ensures.value ∙ c.self.view_is) c.loop-exit-test.true
    c.exit-item.is) other c.loop-exit.invariant

pub returns-then-eq-clause-all : goal.returns-then-eq-clause-all
returns-then-eq-clause-all c =
    let same : c.exit-item.result.way ≡ c.args.way = search rules in
    first_lookaheads c.args.self.now c.args.way c.loop-exit.exit-index c.exit-item.result
    (read_at c.deref-exit-items.result.now c.args.self.now c.loop-exit.exit-index c.exit-item.result (c.deref-exit-items.ensures.value ∙ c.self.view_is) c.loop-exit-test.true
    c.exit-item.is) same c.loop-exit.invariant

pub returns-clause-none : goal.returns-clause-none
returns-clause-none c = λ _.
    let all : length c.deref-exit-items.result.now ≡ length c.args.self.now = ap (λ (l : List Exit). length l) (c.deref-exit-items.ensures.value ∙ c.self.view_is) in
    other_ways_all c.args.self.now c.args.way c.loop-exit.exit-index (omega (arith, all, c.loop-exit-test.false)) c.loop-exit.invariant
