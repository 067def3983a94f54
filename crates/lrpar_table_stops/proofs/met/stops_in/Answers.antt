use Rattle.std.proofs.Common.{◌∙◌, arith, inl, inr, subst, sym}
use Rattle.std.proofs.lemmas.Bool.{cases_eq, false≢true}
use Rattle.lrpar_table_sentences.proofs.FixLemmas.{index_back}
use Rattle.lrpar_table_stops.specs.Met.{StopsAt}
use Rattle.lrpar_table_stops.proofs.met.stops_in.Goals as goal

pub loop-number-preserved : goal.loop-number-preserved
loop-number-preserved g c =
    let index = g.StorageT.StorageIndex.index in
    let n = c.loop-number.number in
    let at = index_back index c.from_index.result c.unwrap.result n c.from_index.ensures.back c.unwrap.ensures in
    λ t low stops.
    elim (cases_eq t n) as (λ _. ⊥) [
      | inl same ↦
          let here = subst (λ m. StopsAt c.args.stable.now c.args.sets.now (index c.args.state.0) m) (same ∙ sym at) stops in
          false≢true (sym c.if-stops_at.false ∙ c.stops_at.ensures.1 here)
      | inr other ↦ c.loop-number.invariant t (omega (arith, low, other)) stops
    ]

pub returns : goal.returns
returns g c = (
  λ no. absurd (false≢true no),
  λ stops. absurd (c.loop-number.invariant stops.0 (let count = c.tokens_len-number-end.ensures.tokens in let low = stops.1 in omega (arith, count, low, c.loop-number-test.false)) stops.2),
)
