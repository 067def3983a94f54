use Rattle.lrpar_grammar.specs.Grammar.{Grammar}
use Rattle.lrpar_table_items.specs.Next.{kernel_rows}
use Rattle.lrpar_table_merge.specs.PassedOn.{AreBeginnings}
use Rattle.lrpar_table_merge.specs.Propagated.{AreAdded, AreNoneOrKernels, ArePassedAlong, HasGrown}
use Rattle.lrpar_table_merge.proofs.pass.pass_all.Given as goal

-- the kernels so far are passed on
abbrev pub invariant-loop-symbol : goal.invariant-loop-symbol
invariant-loop-symbol g l =
    let index = g.StorageT.StorageIndex.index in
    let first = kernel_rows index l.initial.kernels in
    let now = kernel_rows index l.kernels in
    let nexts = kernel_rows index l.nexts in record {
      added : AreAdded first l.initial.waits now l.waits;
      passed : ArePassedAlong l.row nexts l.symbol first now;
      kernels : (grm : Grammar) → AreBeginnings grm first → AreNoneOrKernels grm nexts → AreBeginnings grm now;
      grown : HasGrown first l.initial.waits now l.waits l.grown;
    }
