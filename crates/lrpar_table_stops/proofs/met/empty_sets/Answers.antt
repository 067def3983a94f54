use Rattle.std.proofs.Common.{◌∙◌, arith, sym}
use Rattle.std.proofs.lemmas.Bool.{false≢true}
use Rattle.lrpar_table_first.proofs.RowLemmas.{empty_added}
use Rattle.lrpar_table_stops.proofs.met.empty_sets.Goals as goal

pub loop-preserved : goal.loop-preserved
loop-preserved g c =
    let wide = c.in_ok-new.ensures.room ∙ c.tokens_len.ensures.tokens in
    empty_added c.loop.sets.items c.push.new.self.items c.in_ok-new.field-0 c.loop.counter c.args.stable.now.tokens c.in_ok-push.ensures.items c.loop.invariant.0
    c.loop.invariant.1 c.loop.invariant.2 wide c.in_ok-new.ensures.none

pub returns : goal.returns
returns g c =
    λ own. record {
      states =
          let count = c.states_len-end.ensures.states in
          let most = c.loop.auto.counter-end in
          let done = c.loop.invariant.0 in omega (arith, count, most, done, c.loop-test.false);
      tokens = c.loop.invariant.2;
      met = λ s t is. absurd (false≢true (sym (c.loop.invariant.1 s t) ∙ is));
    }
