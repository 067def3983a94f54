use Rattle.std.proofs.Common.{true, sym}
use Rattle.std.specs.Fn.{FnReturnsAt}
use Rattle.std.proofs.lemmas.List.{take_all}
use Rattle.lrpar_table_rows.proofs.Mapped.{all_more}
use Rattle.lrpar_table_rows.proofs.each.all_rows.Goals as goal

pub loop-row-preserved : goal.loop-row-preserved
loop-row-preserved g c =
    all_more (λ row. FnReturnsAt g.F.Fn c.args.test row.items true) c.args.rows.now c.loop-row.row-index c.row-item.result c.loop-row.invariant
    c.loop-row-test.true c.row-item.is (record { shown = c.deref.result; shows = c.deref.ensures.value; says = record { met = c.if-not-test.ensures } })

pub returns-then-not-test : goal.returns-then-not-test
returns-then-not-test g c = (
  c.loop-row.row-index,
  c.row-item.result,
  c.loop-row-test.true,
  sym c.row-item.is,
  record { shown = c.deref.result; shows = c.deref.ensures.value; says = record { met = c.if-not-test.ensures } },
)

pub returns : goal.returns
returns g c = rw (take_all c.loop-row.row-index c.args.rows.now c.loop-row-test.false) at c.loop-row.invariant
