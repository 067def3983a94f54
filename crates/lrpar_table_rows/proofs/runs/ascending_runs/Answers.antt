use Rattle.std.proofs.Common.{List, map}
use Rattle.std.proofs.lemmas.List.{map-append}
use Rattle.std.proofs.lemmas.List.Elements.{All-push}
use Rattle.std.proofs.lemmas.Slice.Zip.{all_zipped_more}
use Rattle.std.specs.List.Sorted.{IsStrictlySortedBy}
use Rattle.std.specs.Ordering.{nat_cmp}
use Rattle.lrpar_grammar_places.specs.declared.span.TIdx.{TIdx}
use Rattle.lrpar_table_rows.specs.Ascending.{HaveSame}
use Rattle.lrpar_table_rows.specs.Runs.{tokens_of}
use Rattle.lrpar_table_rows.proofs.ItemLemmas.{sorted_image}
use Rattle.lrpar_table_rows.proofs.runs.ascending_runs.Goals as goal

pub loop-run-preserved : goal.loop-run-preserved
loop-run-preserved g c =
    let index = g.StorageT.StorageIndex.index in
    let token_index = λ (token : TIdx g.row.StorageT.Denot). index token.0 in
    let sorted =
    sorted_image _ nat_cmp token_index (λ x y. g.met.StorageT.StorageIndex.cmp_law x.0 y.0) c.from_vec.result c.from_vec.ensures.sorted in (
      rw (c.in_ok-push.ensures.items, map-append)
          (all_zipped_more HaveSame c.loop-run.made.items (tokens_of c.loop-run.yielded) c.from_vec.result c.in-Some.run'.items c.loop-run.invariant.0
          c.from_vec.ensures.same),
      rw c.in_ok-push.ensures.items
          (All-push (λ (run : List (TIdx g.row.StorageT.Denot)). IsStrictlySortedBy nat_cmp (map token_index run)) c.loop-run.made.items c.from_vec.result
          c.loop-run.invariant.1 sorted),
    )
