-- The last steps that a round finds: those of the steps that are tried after which a parse can go on. If there is none, no sequence that
-- works costs as much as the round.
use Rattle.std.proofs.Common.{◌≡◌, ◌<◌, ◌≤◌, ◌+◌, ◌∙◌, inl, inr, ℕ, List, [], ◌∷◌, ◌++◌, Some, None, length, get_or, slice_get, take, refl, sym, subst, ap}
use Rattle.std.specs.List.{Contains}
use Rattle.std.proofs.lemmas.List.{take_all}
use Rattle.std.proofs.lemmas.List.Elements.{Contains-append_left, Contains-push, Contains-push_cases}
use Rattle.lrpar_parse_repair.specs.Asked.{Asked, IsStop}
use Rattle.lrpar_parse_repair.specs.Sequences.{PlainStep}
use Rattle.lrpar_parse_cpctplus.specs.LinkPaths.{IsLastStep}
use Rattle.lrpar_parse_cpctplus.specs.Configurations.{Configured, IsEdge, edge_cost}
use Rattle.lrpar_parse_cpctplus.specs.Costs.{AreCosts}
use Rattle.lrpar_parse_cpctplus.specs.Graph.{PlainEnding, PlainLink, AreEndings, HaveEndings, IsEndingAmong}
use Rattle.lrpar_parse_cpctplus.specs.Levels.{IsAt}
use Rattle.lrpar_parse_cpctplus.specs.SearchRound.{PlainAttempt, AreAttempts, AreEndingsOf, AreOnce, CostsAtLeast, EndsAt, IsEndingOf, IsReach, IsRound, ReachesFrom}
use Rattle.lrpar_parse_cpctplus.proofs.AttemptLemmas.{edge_tried, tried_moves}
use Rattle.lrpar_parse_cpctplus.proofs.GrowLemmas.{edge_one, one_at}
use Rattle.lrpar_parse_cpctplus.proofs.KnownLemmas.{IsKnownAt, round_knows}
use Rattle.lrpar_parse_cpctplus.proofs.LastStepLemmas.{none_at}
use Rattle.lrpar_parse_cpctplus.proofs.NumberLemmas.{contains_none, contains_at, once_none, once_pairs, once_push, take_before, take_cases, take_once, take_this}
use Rattle.lrpar_parse_cpctplus.proofs.ReachLemmas.{reaches_one_way}
use Rattle.lrpar_parse_cpctplus.proofs.RoundLemmas.{lasts_known}

abbrev pub ending_with : ℕ → ℕ → PlainStep → PlainEnding
ending_with far from step = record { reach = far; from = from; step = step }

same_ending : (e : PlainEnding) (far from : ℕ) (step : PlainStep) → far ≡ e.reach → from ≡ e.from → step ≡ e.step → ending_with far from step ≡ e
same_ending e far from step p q r =
    ap (λ (n : ℕ). ending_with n from step) p ∙ ap (λ (n : ℕ). ending_with e.reach n step) q ∙ ap (λ (x : PlainStep). ending_with e.reach e.from x) r

module _ {X : Type 0} (token : X → ℕ) (at : Asked X) where
  -- a parse goes on equally far after a step
  pub ends_one_far : (u : Configured) (step : PlainStep) (m n : ℕ) → EndsAt token at u step m → EndsAt token at u step n → m ≡ n
  ends_one_far u step m n a b =
      let same = edge_one token at u a.head b.head step a.edge b.edge in
      let there = subst (λ (v : Configured). ReachesFrom token at v m) same a.reach in
      reaches_one_way token at.checked.grammar at.checked.table at.lexemes (at.place + 250) b.head.stack b.head.place m n there b.reach

  -- from here on with the configurations, and the steps that are tried
  module _ (nodes : List Configured) (attempts : List PlainAttempt) where
    pub endings_none : AreEndingsOf token at nodes (take 0 attempts) []
    endings_none = record {
      each = λ ending h. absurd (contains_none ending h);
      all = λ x u v h is edge on. absurd (contains_none x h);
      once = once_none;
    }

    module _ (k : ℕ) (x : PlainAttempt) (u : Configured) (below : k < length attempts) (is : x ≡ get_or attempts k x) (at_x : slice_get nodes x.from ≡ Some u)
        (endings : List PlainEnding) (so_far : AreEndingsOf token at nodes (take k attempts) endings) where
      before : (ending : PlainEnding) → IsEndingOf token at nodes (take k attempts) ending → IsEndingOf token at nodes (take (k + 1) attempts) ending
      before ending h = (take_before attempts k x (record { from = ending.from; step = ending.step }) below h.0, h.1)

      -- a parse can't go on after the step, or it can't be taken
      pub endings_skip : IsReach token at u x.step None → AreEndingsOf token at nodes (take (k + 1) attempts) endings
      endings_skip none = record {
        each = λ ending h. before ending (so_far.each ending h);
        all = λ y w v h there edge on.
            elim (take_cases attempts k x y below is h) as (λ _. (far : ℕ) × Contains endings (ending_with far y.from y.step)) [
              | inl old ↦ so_far.all y w v old there edge on
              | inr same ↦
                  let here = subst (λ (z : PlainAttempt). slice_get nodes z.from ≡ Some u) same at_x in
                  let tail = one_at nodes y.from w u there here in
                  let by = subst (λ (z : Configured). IsEdge token at z y.step v) tail edge in
                  absurd (none v (subst (λ (z : PlainAttempt). IsEdge token at u z.step v) (sym same) by) on)
            ];
        once = so_far.once;
      }

      -- it can
      pub endings_more : AreOnce attempts → (far : ℕ) → IsReach token at u x.step (Some far)
          → AreEndingsOf token at nodes (take (k + 1) attempts) (endings ++ ending_with far x.from x.step ∷ [])
      endings_more once far ends =
          let new = ending_with far x.from x.step in
          record {
            each = λ ending h.
                elim (Contains-push_cases endings new ending h) as (λ _. IsEndingOf token at nodes (take (k + 1) attempts) ending) [
                  | inl old ↦ before ending (so_far.each ending old)
                  | inr same ↦ subst (IsEndingOf token at nodes (take (k + 1) attempts)) same (take_this attempts k x below is, (u, at_x, ends))
                ];
            all = λ y w v h there edge on.
                elim (take_cases attempts k x y below is h) as (λ _. (m : ℕ) × Contains (endings ++ new ∷ []) (ending_with m y.from y.step)) [
                  | inl old ↦
                      let found = so_far.all y w v old there edge on in
                      (found.0, Contains-append_left endings (new ∷ []) (ending_with found.0 y.from y.step) found.1)
                  | inr same ↦
                      (far, subst (λ (z : PlainAttempt). Contains (endings ++ new ∷ []) (ending_with far z.from z.step)) same (Contains-push endings new))
                ];
            once = once_push endings new so_far.once (λ i there.
                take_once attempts k x once below is (so_far.each new (contains_at endings i new there)).0);
          }

    pub endings_all : (n : ℕ) (endings : List PlainEnding) → length attempts ≤ n → AreEndingsOf token at nodes (take n attempts) endings
        → AreEndingsOf token at nodes attempts endings
    endings_all n endings past h = subst (λ (l : List PlainAttempt). AreEndingsOf token at nodes l endings) (take_all n attempts past) h

module _ {X : Type 0} (token : X → ℕ) (costs : List ℕ) (at : Asked X) (each : AreCosts costs) (nodes : List Configured) (firsts : List ℕ)
    (links : List PlainLink) (round : IsRound token costs at nodes firsts links) (attempts : List PlainAttempt)
    (tried : AreAttempts token costs at nodes firsts (length firsts) attempts) (endings : List PlainEnding)
    (found : AreEndingsOf token at nodes attempts endings) where
  -- a last step of the round is one of those that are tried
  last_tried : (u : Configured) (step : PlainStep) (v : Configured) (from : ℕ) → slice_get nodes from ≡ Some u
      → IsLastStep token costs at (length firsts) u step v → Contains attempts (record { from = from; step = step })
  last_tried u step v from is last =
      let known = lasts_known token costs at (IsKnownAt nodes firsts) (length firsts) each (round_knows token costs at nodes firsts links round) u step v last in
      let number = round.once known.1.0 from u known.1.1 is in
      let level = subst (λ (n : ℕ). IsAt firsts (length nodes) known.0 n) number known.1.2 in
      (tried.exact (record { from = from; step = step })).1 (u, is, edge_tried token at u v step last.edge last.other, (known.0, level, known.2))

  -- and what is found are last steps
  pub last_of : (ending : PlainEnding) → Contains endings ending → IsEndingAmong token costs at (length firsts) nodes ending
  last_of ending h =
      let ends = found.each ending h in
      let by = (tried.exact (record { from = ending.from; step = ending.step })).0 ends.0 in
      let u = ends.1.0 in
      let same = one_at nodes ending.from by.0 u by.1 ends.1.1 in
      let far = round.each by.3.0 ending.from u by.3.1 ends.1.1 in
      let sum = subst (λ (w : Configured). by.3.0 + edge_cost token costs at w ending.step ≡ length firsts) same by.3.2 in (
        u,
        ends.1.2.head,
        ends.1.1,
        record {
          edge = ends.1.2.edge;
          other = tried_moves token at by.0 ending.step by.2;
          distance = by.3.0;
          tail = far;
          sum = sum;
          goes_on = ends.1.2.goes_on;
        },
        ends.1.2.reach,
      )

  pub endings_are : AreEndings token costs at (length firsts) nodes endings
  endings_are = record {
    exact = λ ending. (
      last_of ending,
      (λ h.
          let last = h.3 in
          let there = last_tried h.0 ending.step h.1 ending.from h.2 last in
          let some = found.all (record { from = ending.from; step = ending.step }) h.0 h.1 there h.2 last.edge last.goes_on in
          let by = found.each (ending_with some.0 ending.from ending.step) some.1 in
          let same = one_at nodes ending.from by.1.0 h.0 by.1.1 h.2 in
          let one = subst (λ (w : Configured). EndsAt token at w ending.step some.0) same by.1.2 in
          let far = ends_one_far token at h.0 ending.step some.0 ending.reach one
          (record { head = h.1; edge = last.edge; goes_on = last.goes_on; reach = h.4 }) in
          subst (Contains endings) (same_ending ending some.0 ending.from ending.step far refl refl) some.1),
    );
    once = once_pairs endings found.once;
  }

  pub endings_had : HaveEndings token costs at (length firsts) nodes endings
  endings_had k u step v is last =
      let there = last_tried u step v k is last in
      let some = found.all (record { from = k; step = step }) u v there is last.edge last.goes_on in
      (ending_with some.0 k step, some.1, refl, refl)

  -- if none is found, no sequence that works costs as much
  pub next_least : IsStop token at → endings ≡ [] → CostsAtLeast token costs at (length firsts + 1)
  next_least stop none =
      none_at token costs at (length firsts) stop round.least (λ u step v last.
      let known = lasts_known token costs at (IsKnownAt nodes firsts) (length firsts) each (round_knows token costs at nodes firsts links round) u step v last in
      let there = last_tried u step v known.1.0 known.1.1 last in
      let some = found.all (record { from = known.1.0; step = step }) u v there known.1.1 last.edge last.goes_on in
      contains_none (ending_with some.0 known.1.0 step) (subst (λ (l : List PlainEnding). Contains l (ending_with some.0 known.1.0 step)) none some.1))
