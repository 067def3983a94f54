use Rattle.std.proofs.Common.{◌∙◌, arith}
use Rattle.lrpar_table_pops.proofs.MarkLemmas.{gotos_marked_all, gotos_marked_more}
use Rattle.lrpar_table_pops.proofs.saturate.goto_states.Goals as goal

pub loop-number-init : goal.loop-number-init
loop-number-init g c = record {
  len = let a = c.in_ok-are.ensures.len in let b = c.states_len.ensures.states in omega (arith, a, b, c.in_ok-are.are.ok.0);
  all = λ s r next low goto. absurd (omega (arith, low));
}

pub loop-number-preserved : goal.loop-number-preserved
loop-number-preserved g c =
    let index = g.StorageT.StorageIndex.index in
    let l = c.loop-number in
    let table = c.args.stable.now in
    let new = c.mark_all.new.marks.items in
    let len = c.mark_all.ensures.len ∙ l.invariant.len in
    record {
      len = len;
      all = gotos_marked_more index table (record { 0 = c.unwrap.result }) l.number c.gotos_at.result.0.now c.gotos_at.result.1.now l.are.items new (rw c.unwrap.ensures at c.from_index.ensures.back) c.gotos_at.ensures.all
          c.gotos_at.ensures.paired c.gotos_at.ensures.gotos (λ r next goto. let low = c.states_len.ensures.closed.gotos_within l.number r next goto in omega (arith, len, low))
          c.mark_all.ensures.keeps c.mark_all.ensures.all l.invariant.all;
    }

pub returns : goal.returns
returns g c = λ next goto.
    let end = c.loop-number-test.false in
    let states = c.states_len-number-end.ensures.states in
    gotos_marked_all c.args.stable.now c.loop-number.number c.loop-number.are.items (omega (arith, end, states)) c.states_len.ensures.no_goto c.loop-number.invariant.all
    next goto
