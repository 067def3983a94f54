use Rattle.std.proofs.Common.{refl, subst}
use Rattle.std.specs.List.Sorted.{IsStrictlyIncreasing}
use Rattle.lrpar_table_rows.proofs.EntryLemmas.{goto_within, gotos_good}
use Rattle.lrpar_table_rows.proofs.TableLemmas.{goto_read, keys_at}
use Rattle.lrpar_table_rows.proofs.table.StateTable.goto.Goals as goal

pub value_of-requires-clause-ascending : goal.value_of-requires-clause-ascending
value_of-requires-clause-ascending g c =
    let index = g.StorageT.StorageIndex.index in
    let good = gotos_good g.StorageT.StorageIndex.limit _ c.self.invariant (index c.args.s.0) in
    rw c.from.ensures (subst IsStrictlyIncreasing (keys_at (λ r. index r.0) (λ s. index s.0) c.self.inside.gotos (index c.args.s.0)) good.ascending)

pub returns-clause-goto : goal.returns-clause-goto
returns-clause-goto g c =
    let index = g.StorageT.StorageIndex.index in
    rw (← c.self.view_is)
    (goto_read index g.StorageT.StorageIndex.limit _ c.self.inside.gotos (index c.args.s.0) (index c.args.r.0) c.value_of.result c.self.invariant refl
    (rw c.from.ensures at c.value_of.ensures))

pub returns-clause-within : goal.returns-clause-within
returns-clause-within g c =
    let index = g.StorageT.StorageIndex.index in
    rw (← c.self.view_is) (goto_within g.StorageT.StorageIndex.limit _ c.self.invariant (index c.args.s.0) (index c.args.r.0))
