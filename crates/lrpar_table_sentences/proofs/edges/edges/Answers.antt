use Rattle.std.proofs.Common.{◌≡◌, ◌++◌, ◌∙◌, sym, ap, subst, inl, inr, arith}
use Rattle.std.proofs.lemmas.Bool.{cases_eq}
use Rattle.lrpar_table_rows.specs.Table.{states_len}
use Rattle.lrpar_table_sentences.specs.AccessLens.{AreEdges, IsStoredAt, edges_at, edges_below, edges_of}
use Rattle.lrpar_table_sentences.proofs.EdgeLemmas.{are_edges, below_more}
use Rattle.lrpar_table_sentences.proofs.FixLemmas.{index_back}
use Rattle.lrpar_table_sentences.proofs.edges.edges.Goals as goal

pub loop-state-preserved : goal.loop-state-preserved
loop-state-preserved g c =
    let index = g.StorageT.StorageIndex.index in
    let table = c.args.stable.now in
    let choices = c.args.shortest.now in
    let n = c.loop-state.state in
    let at = index_back index c.from_index.result c.unwrap.result n c.from_index.ensures.back c.unwrap.ensures in (
      c.in_ok-push_edges.ensures.edges ∙ ap (λ k. edges_of index c.loop-state.edges.items ++ edges_at table choices k) at
          ∙ ap (λ es. es ++ edges_at table choices n) c.loop-state.invariant.0 ∙ sym (below_more table choices n),
      λ s low. elim (cases_eq s n) as (λ _. IsStoredAt table s) [
        | inl same ↦ subst (IsStoredAt table) (at ∙ sym same) c.in_ok-push_edges.ensures.stored
        | inr other ↦ c.loop-state.invariant.1 s (omega (arith, low, other))
      ],
    )

pub returns : goal.returns
returns g c =
    let index = g.StorageT.StorageIndex.index in
    let table = c.args.stable.now in
    let choices = c.args.shortest.now in
    let n = c.loop-state.state in
    let all : n ≡ states_len table = omega (arith, c.loop-state-test.false, c.loop-state.auto.state-end, c.states_len-state-end.ensures.states) in
    subst (AreEdges table choices) (ap (edges_below table choices) (sym all) ∙ sym c.loop-state.invariant.0)
    (are_edges table choices (λ s low. c.loop-state.invariant.1 s (omega (arith, all, low))))
