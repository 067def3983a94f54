use Rattle.std.proofs.Common.{◌≡◌, ◌∙◌, ◌∷◌, ◌++◌, [], ap, length, arith}
use Rattle.std.proofs.lemmas.List.{take_all}
use Rattle.lrpar_table_rows.proofs.CutLemmas.{cut_first, cut_more}
use Rattle.lrpar_table_rows.proofs.PackedLemmas.{packed_cut}
use Rattle.lrpar_grammar_places.proofs.FaultLemmas.{no_value}
use Rattle.lrpar_table_rows.proofs.entries.Entries.from_rows.Goals as goal

pub loop-row-init : goal.loop-row-init
loop-row-init g c =
    cut_first (λ row. row.items) c.push.new.self.items c.new-keys.result.items c.new-values.result.items c.args.rows.now
    (c.in_ok-push.ensures.items ∙ ap (λ starts. starts ++ 0 ∷ []) c.in_ok-starts.ensures.items) c.new-keys.ensures.items c.new-values.ensures.items

pub loop-row-preserved : goal.loop-row-preserved
loop-row-preserved g c =
    let value = c.deref.ensures.value in
    let len = rw value at c.in_ok-push_row.ensures.len in
    let entries = rw value at c.in_ok-push_row.ensures.entries in
    let keys = c.push_row.new.keys in
    let more : c.len.result ≡ length keys.items = omega (arith, c.len.ensures, keys.ok.0) in
    rw c.in_ok-push-2.ensures.items
    (cut_more (λ row. row.items) c.loop-row.starts.items c.loop-row.keys.items keys.items c.loop-row.values.items c.push_row.new.values.items
    c.args.rows.now c.loop-row.row-index c.len.result c.row-item.result c.loop-row.invariant c.loop-row-test.true c.row-item.is
    c.in_ok-push_row.ensures.values len more entries)

pub returns-in_err-starts : goal.returns-in_err-starts
returns-in_err-starts g c = no_value c.from_residual.result _ _ c.from_residual.ensures.1

pub returns-in_err-push : goal.returns-in_err-push
returns-in_err-push g c = no_value c.from_residual-in_err-push.result _ _ c.from_residual-in_err-push.ensures.1

pub returns-in_err-push_row : goal.returns-in_err-push_row
returns-in_err-push_row g c = no_value c.from_residual-in_err-push_row.result _ _ c.from_residual-in_err-push_row.ensures.1

pub returns-in_err-packed : goal.returns-in_err-packed
returns-in_err-packed g c = no_value c.from_residual-in_err-packed.result _ _ c.from_residual-in_err-packed.ensures.1

pub returns-in_err-push-2 : goal.returns-in_err-push-2
returns-in_err-push-2 g c = no_value c.from_residual-in_err-push-2.result _ _ c.from_residual-in_err-push-2.ensures.1

pub invariant_of-result : goal.invariant_of-result
invariant_of-result g c =
    let all = rw (take_all c.loop-row.row-index c.args.rows.now c.loop-row-test.false) at c.loop-row.invariant.rows_so_far in (
      c.loop-row.invariant.parts,
      packed_cut c.args.rows.now (λ row. row.items) (λ entry. g.K.Key.number entry.0) _ c.in_ok-packed.packed.bases.items c.in_ok-packed.packed.slots.items all
          c.in_ok-packed.ensures.packed,
    )

pub returns : goal.returns
returns g c = rw (take_all c.loop-row.row-index c.args.rows.now c.loop-row-test.false) at c.loop-row.invariant.rows_so_far
