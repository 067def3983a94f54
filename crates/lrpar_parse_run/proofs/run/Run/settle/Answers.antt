use Rattle.std.proofs.Common.{◌≡◌, ap, arith}
use Rattle.lrpar_table_stacks.proofs.StackLemmas.{path_is_stack}
use Rattle.lrpar_parse_run.specs.ReducingView.{built}
use Rattle.lrpar_parse_run.proofs.ReducingLemmas.{builds_settle}
use Rattle.lrpar_parse_run.proofs.run.Run.settle.Goals as goal

pub settle_on-requires-clause-stack : goal.settle_on-requires-clause-stack
settle_on-requires-clause-stack g c =
    let d = c.args.self.now.checked.now in
    let run_stack = c.requires.ready.run_stack in
    let stack : c.new-reducing.result.stack.now ≡ c.args.stack.now = ap (λ s. s.stack) c.new-reducing.ensures in
    rw stack
    (path_is_stack d.table (rw c.stable-stable.ensures.table at c.tokens_len-lemma.ensures.end) (rw c.stable-stable.ensures.table at c.rules_len-second_lemma.ensures.end)
    run_stack.symbols c.args.stack.now.states run_stack.path)

pub returns : goal.returns
returns g c =
    let d = c.args.self.now.checked.now in
    let index = g.StorageT.StorageIndex.index in
    let t = index c.args.token.0 in
    let new = c.settle_on.new.stack in
    let settled = builds_settle (λ s. built s) g.B.Build.builds d t c.args.self.now.build.now c.args.stack.now _
    c.new-reducing.result c.in_ok-settle_on.field-0.reductions new (rw c.grm.ensures at c.new-reducing.ensures) c.in_ok-settle_on.ensures.settled c.in_ok-settle_on.ensures.suits in
    record {
      run_stack = grind (arith, settled.same, settled.run_stack);
      settles = grind (arith, settled.same, settled.settles);
      action_is = grind (arith, settled.same, c.in_ok-settle_on.ensures.action);
    }
