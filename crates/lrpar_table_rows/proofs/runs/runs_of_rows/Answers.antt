use Rattle.std.proofs.Common.{◌≡◌, ◌++◌, ◌+◌, ◌∷◌, ◌∙◌, [], ap, arith, subst, sym, take}
use Rattle.std.proofs.lemmas.List.{take_all, take_more}
use Rattle.lrpar_table_rows.specs.Ascending.{HaveSame}
use Rattle.lrpar_table_rows.specs.Runs.{core_items, items_of_rows, run_items, tokens_of}
use Rattle.lrpar_table_rows.proofs.RunLemmas.{row_known, row_more, runs_made, same_more}
use Rattle.lrpar_table_rows.proofs.runs.runs_of_rows.Goals as goal

pub loop-row-init : goal.loop-row-init
loop-row-init g c =
    let paired = rw c.as_slice.ensures.all at c.in_ok-runs.ensures.paired in
    let none = rw c.as_slice.ensures.all at c.in_ok-runs.ensures.none in
    (paired, λ x. (λ h. absurd (none x h), λ h. absurd (omega (arith, h.1))))

pub put_run-requires-clause-known : goal.put_run-requires-clause-known
put_run-requires-clause-known g c = λ some.
    let row = c.row-item.result in
    row_known c.args.rows.now c.args.cores.now c.loop-row.row-index row c.requires c.loop-row-test.true c.row-item.is
    (rw c.deref.ensures.value at some)

pub loop-row-preserved : goal.loop-row-preserved
loop-row-preserved g c =
    let rows = c.args.rows.now in
    let i = c.loop-row.row-index in
    let row = c.row-item.result in
    let old = run_items c.args.cores.now (tokens_of c.loop-row.runs.items) in
    let new = run_items c.args.cores.now (tokens_of c.put_run.new.runs.items) in
    let more : take (i + 1) rows ≡ take i rows ++ row ∷ [] = rw (← c.row-item.is) at (take_more rows i row c.loop-row-test.true) in
    let tokens = row.2.items in
    let pushed : HaveSame new (old ++ core_items (row.0, row.1) tokens) = rw c.deref.ensures.value at c.in_ok-put_run.ensures.same in (
      c.in_ok-put_run.ensures.paired,
      subst (HaveSame new) (sym (ap items_of_rows more ∙ row_more (take i rows) row))
          (same_more old (items_of_rows (take i rows)) new (core_items (row.0, row.1) tokens) c.loop-row.invariant.1 pushed),
    )

pub returns : goal.returns
returns g c =
    let all = take_all c.loop-row.row-index c.args.rows.now c.loop-row-test.false in
    let made =
    runs_made c.args.cores.now c.loop-row.runs c.in_ok-made.made.items (items_of_rows c.args.rows.now) c.in_ok-made.ensures.same c.loop-row.invariant.0 (rw all at c.loop-row.invariant.1) in
    record { paired = made.0; sorted = c.in_ok-made.ensures.sorted; same = made.1 }
