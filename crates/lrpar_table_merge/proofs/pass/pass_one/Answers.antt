use Rattle.std.proofs.Common.{◌<◌, ◌∙◌, sym, arith, length, map}
use Rattle.std.proofs.lemmas.Bool.{eqb-false}
use Rattle.lrpar_table_items.specs.Cores.{core_set}
use Rattle.lrpar_table_items.specs.Next.{kernel_rows}
use Rattle.lrpar_table_merge.proofs.PassLemmas.{rows_len}
use Rattle.lrpar_table_merge.proofs.PropagateLemmas.{added_if, added_itself, passed_along, some_cores}
use Rattle.lrpar_table_merge.proofs.pass.pass_one.Goals as goal

pub returns-then-is_empty-clause-added : goal.returns-then-is_empty-clause-added
returns-then-is_empty-clause-added g c = added_itself (kernel_rows g.StorageT.StorageIndex.index c.args.kernels.now) c.args.waits.now

pub mark-requires : goal.mark-requires
mark-requires g c =
    let below = c.in_ok-grown-in-Some.ensures.passed.low in
    omega (arith, below, rows_len g.StorageT.StorageIndex.index c.args.kernels.now, c.requires.waits)

pub returns-in_ok-grown-in-Some-clause-added : goal.returns-in_ok-grown-in-Some-clause-added
returns-in_ok-grown-in-Some-clause-added g c =
    let index = g.StorageT.StorageIndex.index in
    let passed = c.in_ok-grown-in-Some.ensures in
    let below = passed.passed.low in
    let low : c.in-Some.state < length c.args.waits.now = omega (arith, below, rows_len index c.args.kernels.now, c.requires.waits) in
    added_if _ _ c.in-Some.state c.args.waits.now c.mark.new.waits (map (core_set index) c.args.next.now) passed.passed low _ passed.same c.mark.ensures

pub returns-in_ok-grown-in-Some-clause-passed : goal.returns-in_ok-grown-in-Some-clause-passed
returns-in_ok-grown-in-Some-clause-passed g c =
    let index = g.StorageT.StorageIndex.index in
    passed_along (kernel_rows index c.args.kernels.now) (kernel_rows index c.pass_to.new.kernels) c.in-Some.state (map (core_set index) c.args.next.now)
    c.in_ok-grown-in-Some.ensures.passed c.args.step c.in-Some.is

pub returns-in_ok-grown-in-Some-clause-kernels : goal.returns-in_ok-grown-in-Some-clause-kernels
returns-in_ok-grown-in-Some-clause-kernels g c =
    let some = some_cores g.StorageT.StorageIndex.index c.args.next.now (eqb-false (length c.args.next.now) 0 (sym c.is_empty.ensures ∙ c.if-is_empty.false)) in
    λ grm are kernel. c.in_ok-grown-in-Some.ensures.kernels grm are (kernel some)
