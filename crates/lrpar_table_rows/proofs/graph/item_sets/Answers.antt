use Rattle.std.proofs.Common.{◌≡◌, ◌∙◌, sym, map}
use Rattle.std.proofs.lemmas.List.{map-append, map-id}
use Rattle.std.proofs.lemmas.Iterator.Adapters.{YieldsList-from_vec}
use Rattle.std.proofs.lemmas.Iterator.Consumers.{YieldsList-end}
use Rattle.std.proofs.lemmas.Slice.Zip.{all_zipped_more}
use Rattle.lrpar_table_rows.specs.Ascending.{HaveSame}
use Rattle.lrpar_table_rows.specs.PlainItems.{row_of}
use Rattle.lrpar_grammar_places.proofs.FaultLemmas.{no_value}
use Rattle.lrpar_table_rows.proofs.graph.item_sets.Goals as goal

pub loop-row-preserved : goal.loop-row-preserved
loop-row-preserved g c =
    rw (c.in_ok-push.ensures.items, map-append)
    (all_zipped_more HaveSame c.loop-row.sets.items (map (row_of g.StorageT.StorageIndex.index) c.loop-row.yielded) c.in_ok-from_row.field-0
    (row_of g.StorageT.StorageIndex.index c.in-Some.row) c.loop-row.invariant c.in_ok-from_row.ensures.same)

pub returns : goal.returns
returns g c =
    let made = c.into_iter-row-iterator.ensures.into_iter_gives in
    let end =
    YieldsList-end (YieldsList-from_vec {s = c.into_iter-row-iterator.result} c.args.rows.items made.0 (made.1 ∙ c.args.rows.ok.0))
    c.loop-row.yielded c.loop-row.row-iterator c.loop-row.yielded_by c.next.result c.next.new.self c.in-None.is c.next.ensures.steps in
    let all : c.loop-row.yielded ≡ c.args.rows.items = sym (map-id c.loop-row.yielded) ∙ end.0 in
    rw all at c.loop-row.invariant

pub returns-in_err-sets : goal.returns-in_err-sets
returns-in_err-sets g c = no_value c.from_residual.result _ _ c.from_residual.ensures.1

pub returns-in_err-from_row : goal.returns-in_err-from_row
returns-in_err-from_row g c = no_value c.from_residual-in_err-from_row.result _ _ c.from_residual-in_err-from_row.ensures.1

pub returns-in_err-push : goal.returns-in_err-push
returns-in_err-push g c = no_value c.from_residual-in_err-push.result _ _ c.from_residual-in_err-push.ensures.1
