-- The steps that are tried in a round: each step but a Shift that can be taken is tried, and all that make the round's cost are listed.
use Rattle.std.proofs.Common.{◌≡◌, ◌≢◌, ◌∙◌, ℕ, List, [], refl, sym, subst, ap, arith}
use Rattle.std.specs.List.{Contains}
use Rattle.lrpar_table_stacks.specs.Run.{token_at}
use Rattle.lrpar_parse_repair.specs.Asked.{Asked}
use Rattle.lrpar_parse_repair.specs.Sequences.{PlainStep, PlainInsert, PlainDelete, PlainShift}
use Rattle.lrpar_parse_cpctplus.specs.Configurations.{Configured, IsEdge, edge_cost}
use Rattle.lrpar_parse_cpctplus.specs.Costs.{token_cost}
use Rattle.lrpar_parse_cpctplus.specs.SearchRound.{PlainAttempt, Adds, AreAttempts, AreWeights, IsAttemptBy, IsTried}
use Rattle.lrpar_parse_cpctplus.proofs.GrowLemmas.{one_at}
use Rattle.lrpar_parse_cpctplus.proofs.NumberLemmas.{adds_all}
use Rattle.lrpar_parse_cpctplus.proofs.PruneLemmas.{nothing_fed}

module _ {X : Type 0} (token : X → ℕ) (at : Asked X) where
  -- what is tried is no Shift
  pub tried_moves : (u : Configured) (step : PlainStep) → IsTried token at u step → step ≢ PlainShift
  tried_moves u (PlainInsert t) tried = λ e. cc
  tried_moves u PlainDelete tried = λ e. cc
  tried_moves u PlainShift tried = λ e. tried

  -- and each other step that can be taken is tried
  pub edge_tried : (u v : Configured) (step : PlainStep) → IsEdge token at u step v → step ≢ PlainShift → IsTried token at u step
  edge_tried u v (PlainInsert t) edge moves =
      (edge.1.0, λ fails. nothing_fed at.checked.grammar at.checked.table t u.stack edge.0 v.stack fails edge.1.1)
  edge_tried u v PlainDelete edge moves = edge.1.0
  edge_tried u v PlainShift edge moves = absurd (moves refl)

module _ {X : Type 0} (token : X → ℕ) (costs : List ℕ) (at : Asked X) where
  -- it costs what a token does
  pub tried_cost : (u : Configured) (step : PlainStep) → IsTried token at u step → (t : ℕ) × (edge_cost token costs at u step ≡ token_cost costs t)
  tried_cost u (PlainInsert t) tried = (t, refl)
  tried_cost u PlainDelete tried = (token_at token at.checked.grammar at.lexemes u.place, refl)
  tried_cost u PlainShift tried = absurd tried

  -- a step has one cost
  pub attempt_weight : (nodes : List Configured) (firsts : List ℕ) (c one other : ℕ) (x : PlainAttempt)
      → IsAttemptBy token costs at nodes firsts c one x → IsAttemptBy token costs at nodes firsts c other x → one ≡ other
  attempt_weight nodes firsts c one other x a b =
      let first = a.2.2 in
      let second = b.2.2 in
      let same = one_at nodes x.from first.0 second.0 first.1 second.1 in
      sym first.3 ∙ ap (λ (w : Configured). edge_cost token costs at w x.step) same ∙ second.3

  -- all of them, by their costs
  pub attempts_are : (nodes : List Configured) (firsts : List ℕ) (c : ℕ) (weights : List ℕ) (attempts : List PlainAttempt) → AreWeights costs weights
      → Adds (λ x. (weight : ℕ) × Contains weights weight × IsAttemptBy token costs at nodes firsts c weight x) [] attempts
      → AreAttempts token costs at nodes firsts c attempts
  attempts_are nodes firsts c weights attempts priced adds =
      let all = adds_all (λ (x : PlainAttempt). (weight : ℕ) × Contains weights weight × IsAttemptBy token costs at nodes firsts c weight x) attempts adds in
      record {
        exact = λ x. (
          (λ h.
              let by = (all.0 x h).2 in
              let from = by.2 in
              let node = from.2 in (
                node.0,
                node.1,
                node.2,
                (by.0, record { low = from.0; high = from.1 }, omega (arith, by.1, node.3)),
              )),
          (λ h.
              let priced_by = tried_cost h.0 x.step h.2 in
              let weight = edge_cost token costs at h.0 x.step in
              let some = subst (Contains weights) (sym priced_by.1) (priced.some priced_by.0) in
              all.1 x (weight, some, (h.3.0, h.3.2, (h.3.1.low, h.3.1.high, (h.0, h.1, h.2, refl))))),
        );
        once = all.2;
      }
