use Rattle.std.proofs.Common.{◌≡◌}
use Rattle.std.specs.Bool.{OnFalse}
use Rattle.lrpar_table_pops.specs.Good.{KeepsReductions}
use Rattle.lrpar_table_pops.specs.Growth.{KeepRoom}
use Rattle.lrpar_table_pops.proofs.GoodAllLemmas.{AreRulesClosedBy}
use Rattle.lrpar_table_pops.proofs.GoodLemmas.{IsAdding}
use Rattle.lrpar_table_pops.proofs.good.add_all.Given as goal

-- what was added so far is right; if nothing was, the gotos so far are closed
abbrev pub invariant-gotos : goal.invariant-gotos
invariant-gotos g l =
    let old = l.initial.reduced.items in
    let index = g.StorageT.StorageIndex.index in
    record {
      adding : IsAdding (KeepsReductions l.checked.grammar l.checked.table (index l.fn.state.0) l.good old) old l.reduced.items l.grown;
      keeps_room : KeepRoom old l.reduced.items;
      same : OnFalse l.grown (l.reduced.items ≡ old);
      all : OnFalse l.grown (AreRulesClosedBy index l.checked.grammar l.part l.pops l.good (index l.fn.state.0) old l.rules l.place);
    }
