use Rattle.std.proofs.Common.{◌≡◌, ◌<◌, ◌∙◌, sym, ap, subst, inl, inr, arith, length}
use Rattle.std.proofs.lemmas.Bool.{cases_eq}
use Rattle.std.proofs.lemmas.List.{length-map}
use Rattle.lrpar_table_first.specs.FirstRows.{row_at, rows_of}
use Rattle.lrpar_table_first.proofs.RowLemmas.{row_is}
use Rattle.lrpar_table_rows.specs.Table.{states_len}
use Rattle.lrpar_table_sentences.specs.AccessLens.{IsStoredAt}
use Rattle.lrpar_table_sentences.proofs.FixLemmas.{index_back}
use Rattle.lrpar_conflict_examples.specs.Met.{AreSteps, steps_below}
use Rattle.lrpar_conflict_examples.proofs.MetLemmas.{are_steps, steps_more}
use Rattle.lrpar_conflict_examples.proofs.met.steps.Goals as goal

pub loop-state-preserved : goal.loop-state-preserved
loop-state-preserved g c =
    let index = g.StorageT.StorageIndex.index in
    let table = c.args.stable.now in
    let rows = rows_of c.in_ok-taken.taken.items in
    let n = c.loop-state.state in
    let at = index_back index c.from_index.result c.unwrap.result n c.from_index.ensures.back c.unwrap.ensures in
    let count = c.in_ok-taken.ensures.states in
    let len = length-map c.in_ok-taken.taken.items (λ set. set) in
    let within : n < length c.in_ok-taken.taken.items = omega (arith, count, len, c.loop-state-test.true, c.states_len-state-end.ensures.states, c.loop-state.auto.state-end) in
    let row : row_at rows n ≡ c.index.result.now = row_is c.in_ok-taken.taken.items n c.index.result.now within c.index.ensures in (
      steps_more table rows n (index c.unwrap.result) c.index.result.now c.loop-state.edges.items c.push_steps.new.edges.items at row
          c.loop-state.invariant.0 c.in_ok-push_steps.ensures.edges,
      λ s low. elim (cases_eq s n) as (λ _. IsStoredAt table s) [
        | inl same ↦ subst (IsStoredAt table) (at ∙ sym same) c.in_ok-push_steps.ensures.stored
        | inr other ↦ c.loop-state.invariant.1 s (omega (arith, low, other))
      ],
    )

pub returns : goal.returns
returns g c =
    let table = c.args.stable.now in
    let p = c.args.precedences.now in
    let rows = rows_of c.in_ok-taken.taken.items in
    let n = c.loop-state.state in
    let all : n ≡ states_len table = omega (arith, c.loop-state-test.false, c.loop-state.auto.state-end, c.states_len-state-end.ensures.states) in
    subst (AreSteps p table) (ap (steps_below table rows) (sym all) ∙ sym c.loop-state.invariant.0)
    (are_steps p table rows c.in_ok-taken.ensures c.states_len-state-end.ensures.closed c.tokens_len-lemma.ensures.end
    (λ s low. c.loop-state.invariant.1 s (omega (arith, all, low))))
