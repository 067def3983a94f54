use Rattle.std.proofs.Common.{◌≡◌, ◌≤◌, ◌<◌, ◌∙◌, [], length, slice_index_or, subst, sym}
use Rattle.std.proofs.lemmas.List.{get_or_default}
use Rattle.lrpar_table_rows.proofs.RunLemmas.{left_next, left_none}
use Rattle.lrpar_table_rows.proofs.item_iter.next_position.Goals as goal

pub runs-preserved : goal.runs-preserved
runs-preserved g c =
    let runs = c.args.runs.now in
    let read : c.as_slice-run.result.now ≡ slice_index_or runs c.runs.place [] =
    c.as_slice-run.ensures.all ∙ c.index-runs-place.is ∙ get_or_default runs c.runs.place c.index-runs-place.result [] c.runs-test.true in
    let past : length (slice_index_or runs c.runs.place []) ≤ c.runs.token = subst (λ run. length run ≤ c.runs.token) read c.if-token-count.false in
    sym (left_next c.args.cores.now runs c.runs.place c.runs.token past) ∙ c.runs.invariant

pub returns-then-token-count : goal.returns-then-token-count
returns-then-token-count g c =
    let runs = c.args.runs.now in
    let read : c.as_slice-run.result.now ≡ slice_index_or runs c.runs.place [] =
    c.as_slice-run.ensures.all ∙ c.index-runs-place.is ∙ get_or_default runs c.runs.place c.index-runs-place.result [] c.runs-test.true in
    record { same = c.runs.invariant; within = c.runs-test.true; below = subst (λ run. c.runs.token < length run) read c.if-token-count.true }

pub returns : goal.returns
returns g c = sym c.runs.invariant ∙ left_none c.args.cores.now c.args.runs.now c.runs.place c.runs.token c.runs-test.false
