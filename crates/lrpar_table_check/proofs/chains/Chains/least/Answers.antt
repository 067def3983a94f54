use Rattle.std.proofs.Common.{◌≡◌, arith, subst}
use Rattle.lrpar_table_check.specs.LeastCap.{IsLeastAt}
use Rattle.lrpar_table_check.proofs.LeastCapLemmas.{least_of_all, least_of_more, least_of_none, short_of_all}
use Rattle.lrpar_table_check.proofs.chains.Chains.least.Goals as goal

pub loop-s-init : goal.loop-s-init
loop-s-init g c = record {
  least = least_of_none c.args.self.now.grm.now c.args.self.now.stable.now c.args.self.now.cap;
  room = c.in_ok-counts.ensures;
}

pub loop-s-preserved : goal.loop-s-preserved
loop-s-preserved g c =
    let index = g.StorageT.StorageIndex.index in
    let d = c.args.self.now in
    let number : index c.unwrap.result ≡ c.loop-s.s = rw c.unwrap.ensures at c.from_index.ensures.back in
    let here = subst (λ s. IsLeastAt d.grm.now d.stable.now s c.loop-s.least c.in_ok-least.least) number c.in_ok-least.ensures.least in
    record {
      least = least_of_more d.grm.now d.stable.now d.cap c.loop-s.s c.loop-s.least c.in_ok-least.least
          (omega (arith, c.states_len-s-end.ensures.states, c.loop-s-test.true)) c.in_ok-least.ensures.within c.loop-s.invariant.least here;
      room = c.in_ok-least.ensures.room;
    }

pub returns-clause-least : goal.returns-clause-least
returns-clause-least g c =
    let d = c.args.self.now in
    least_of_all d.grm.now d.stable.now d.cap c.loop-s.s c.loop-s.least (omega (arith, c.states_len-s-end.ensures.states, c.loop-s-test.false))
    c.loop-s.invariant.least

pub returns-clause-short : goal.returns-clause-short
returns-clause-short g c =
    let d = c.args.self.now in
    short_of_all d.grm.now d.stable.now d.cap c.loop-s.s c.loop-s.least (omega (arith, c.states_len-s-end.ensures.states, c.loop-s-test.false))
    c.loop-s.invariant.least
