use Rattle.std.proofs.Common.{◌≡◌}
use Rattle.std.specs.Bool.{OnFalse}
use Rattle.lrpar_table_pops.specs.Good.{AddsByGoto}
use Rattle.lrpar_table_pops.specs.Growth.{KeepRoom}
use Rattle.lrpar_table_pops.proofs.GoodAllLemmas.{AreTokensClosedBy}
use Rattle.lrpar_table_pops.proofs.GoodLemmas.{IsAdding}
use Rattle.lrpar_table_pops.proofs.good.add_by_goto.Given as goal

-- what was added so far is right; if nothing was, the tokens so far are closed
abbrev pub invariant-tokens : goal.invariant-tokens
invariant-tokens g l =
    let old = l.initial.reduced.items in
    let index = g.StorageT.StorageIndex.index in
    record {
      adding : IsAdding (AddsByGoto l.checked.grammar l.checked.table l.good l.rule (index l.next.0) old) old l.reduced.items l.grown;
      keeps_room : KeepRoom old l.reduced.items;
      same : OnFalse l.grown (l.reduced.items ≡ old);
      all : OnFalse l.grown (AreTokensClosedBy index l.checked.grammar l.part l.pops l.good l.rule (index l.next.0) old l.tokens l.place);
    }
