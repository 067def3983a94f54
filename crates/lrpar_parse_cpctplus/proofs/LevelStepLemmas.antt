-- From one round to the next: the steps that are tried and then the Shifts add all that is at the round's cost, with its links.
use Rattle.std.proofs.Common.{◌≡◌, ◌≢◌, ◌<◌, ◌≤◌, ◌+◌, ◌∙◌, ◌⊎◌, inl, inr, ℕ, List, [], ◌∷◌, ◌++◌, Some, length, slice_get, refl, sym, subst, ap, arith, length-append}
use Rattle.std.specs.List.{Contains}
use Rattle.std.proofs.lemmas.List.{length_push}
use Rattle.std.proofs.lemmas.Option.{slice_get_within}
use Rattle.lrpar_parse_repair.specs.Asked.{Asked}
use Rattle.lrpar_parse_repair.specs.Sequences.{PlainStep, PlainShift}
use Rattle.lrpar_parse_cpctplus.specs.Configurations.{Configured, IsDistance, IsEdge, IsNearer, edge_cost}
use Rattle.lrpar_parse_cpctplus.specs.Costs.{AreCosts}
use Rattle.lrpar_parse_cpctplus.specs.Graph.{PlainLink, IsLinkAmong}
use Rattle.lrpar_parse_cpctplus.specs.Levels.{AreLevels, IsAt}
use Rattle.lrpar_parse_cpctplus.specs.SearchRound.{PlainAttempt, AreAttempts, CostsAtLeast, Grows, IsAmong, IsDue, IsGrowing, IsRound, IsShiftWithin, IsStepAmong}
use Rattle.lrpar_parse_cpctplus.proofs.AttemptLemmas.{edge_tried, tried_moves}
use Rattle.lrpar_parse_cpctplus.proofs.ChainLemmas.{moves_cost}
use Rattle.lrpar_parse_cpctplus.proofs.DistanceLemmas.{link_of}
use Rattle.lrpar_parse_cpctplus.proofs.GrowLemmas.{grows_both, one_at}
use Rattle.lrpar_parse_cpctplus.proofs.KnownLemmas.{IsKnownAt, node_far, node_nearer, round_knows}
use Rattle.lrpar_parse_cpctplus.proofs.LevelLemmas.{at_before, at_pushed, first_most, has_level, level_below, levels_pushed}
use Rattle.lrpar_parse_cpctplus.proofs.NumberLemmas.{at_left, at_within}
use Rattle.lrpar_parse_cpctplus.proofs.RoundLemmas.{KnowsNearer, knows_more, links_known, shift_or_not}

module _ {X : Type 0} (token : X → ℕ) (costs : List ℕ) (at : Asked X) (nodes : List Configured) (firsts : List ℕ) (links : List PlainLink)
    (round : IsRound token costs at nodes firsts links) where
  -- A level begins: nothing is at its distance yet.
  pub growing_begins : IsGrowing token costs at (length nodes) (length firsts) nodes links
  growing_begins = record {
    once = round.once;
    links_once = round.links_once;
    start = omega arith;
    nearer = round.all;
    lower = λ n v is. node_nearer token costs at nodes firsts links round (length firsts + 1) n v (omega arith) is;
    level = λ n v above is. absurd (omega (arith, above, slice_get_within nodes n v is));
  }

  -- links lead to what is there
  pub link_within : (link : PlainLink) → Contains links link → link.to < length nodes
  link_within link h = let among = (round.linked link).0 h in slice_get_within nodes link.to among.1 among.3

  module _ (attempts : List PlainAttempt) (tried : AreAttempts token costs at nodes firsts (length firsts) attempts) where
    -- the steps that are tried are due
    pub due_begins : (x : PlainAttempt) → Contains attempts x → IsDue token costs at (length nodes) (length firsts) nodes links x.from x.step
    due_begins x h =
        let by = (tried.exact x).0 h in
        record {
          tail = by.0;
          at_from = by.1;
          distance = by.3.0;
          far = round.each by.3.0 x.from by.0 by.3.1 by.1;
          sum = by.3.2;
          fresh = λ link there from step. link_within link there;
        }

    module _ (mid : List Configured) (mid_links : List PlainLink)
        (moved : Grows token costs at (length nodes) (length firsts) (IsAmong attempts) nodes links mid mid_links) where
      -- no Shift leads to what they add
      pub no_shifts_yet : (link : PlainLink) → Contains mid_links link → link.step ≡ PlainShift → link.to < length nodes
      no_shifts_yet link h shift =
          elim (moved.links_from link h) as (λ _. link.to < length nodes) [
            | inl old ↦ link_within link old
            | inr new ↦
                let by = (tried.exact (record { from = link.from; step = link.step })).0 new.1 in
                absurd (tried_moves token at by.0 link.step by.2 shift)
          ]

      module _ (each : AreCosts costs) (least : CostsAtLeast token costs at (length firsts + 1)) (end : List Configured) (end_links : List PlainLink)
          (shifted : Grows token costs at (length nodes) (length firsts) (IsShiftWithin (length nodes) (length end)) mid mid_links end end_links) where
        grown : Grows token costs at (length nodes) (length firsts)
            (λ from step. IsAmong attempts from step ⊎ IsShiftWithin (length nodes) (length end) from step) nodes links end end_links
        grown =
            grows_both token costs at (length nodes) (length firsts) (IsAmong attempts) (IsShiftWithin (length nodes) (length end))
            nodes mid end links mid_links end_links moved shifted

        -- the numbers from before, and the new ones
        stays : (n : ℕ) (v : Configured) → slice_get nodes n ≡ Some v → slice_get end n ≡ Some v
        stays n v is = subst (λ (l : List Configured). slice_get l n ≡ Some v) (sym grown.nodes_stay.1) (at_left nodes grown.nodes_stay.0 n v is)

        was : (n : ℕ) (v : Configured) → n < length nodes → slice_get end n ≡ Some v → slice_get nodes n ≡ Some v
        was n v below is = at_within nodes grown.nodes_stay.0 n v below (subst (λ (l : List Configured). slice_get l n ≡ Some v) grown.nodes_stay.1 is)

        longer : length nodes ≤ length end
        longer =
            let sum : length end ≡ length nodes + length grown.nodes_stay.0 =
            ap (λ (l : List Configured). length l) grown.nodes_stay.1 ∙ length-append nodes grown.nodes_stay.0 in
            omega (arith, sum)

        abbrev new_firsts : List ℕ
        new_firsts = firsts ++ length nodes ∷ []

        levels : AreLevels new_firsts (length end)
        levels = levels_pushed firsts (length nodes) round.levels (length end) longer

        old_within : (d n : ℕ) → IsAt firsts (length nodes) d n → n < length nodes
        old_within d n level = omega (arith, level.high, first_most firsts (length nodes) round.levels (d + 1))

        -- a number is from before, at a lesser distance, or a new one
        level_cases : (d n : ℕ) → n < length end → IsAt new_firsts (length end) d n
            → (IsAt firsts (length nodes) d n × (n < length nodes) × (d < length firsts)) ⊎ ((d ≡ length firsts) × (length nodes ≤ n))
        level_cases d n below level =
            elim (at_pushed firsts (length nodes) round.levels (length end) d n below level)
            as (λ _. (IsAt firsts (length nodes) d n × (n < length nodes) × (d < length firsts)) ⊎ ((d ≡ length firsts) × (length nodes ≤ n))) [
              | inl old ↦
                  let within = old_within d n old in
                  inl (old, within, level_below firsts (length nodes) round.levels d n within old)
              | inr new ↦ inr new
            ]

        far_at : (d n : ℕ) (v : Configured) → IsAt new_firsts (length end) d n → slice_get end n ≡ Some v → IsDistance token costs at v d × (d < length firsts + 1)
        far_at d n v level is =
            elim (level_cases d n (slice_get_within end n v is) level) as (λ _. IsDistance token costs at v d × (d < length firsts + 1)) [
              | inl old ↦ (round.each d n v old.0 (was n v old.1 is), omega (arith, old.2))
              | inr new ↦ (
                subst (λ (m : ℕ). IsDistance token costs at v m) (sym new.0) (grown.growing.level n v new.1 is),
                omega (arith, new.0),
              )
            ]

        -- what is nearer than the next cost is there
        known_at : (n : ℕ) (v : Configured) → slice_get end n ≡ Some v → (d : ℕ) × IsKnownAt end new_firsts v d
        known_at n v is =
            let level = has_level new_firsts (length end) levels n (slice_get_within end n v is) in
            (level.0, (n, is, level.1))

        moves_there : (u : Configured) (d : ℕ) (step : PlainStep) (v : Configured) → IsKnownAt nodes firsts u d → step ≢ PlainShift → IsEdge token at u step v
            → d + edge_cost token costs at u step ≡ length firsts → (e : ℕ) × IsKnownAt end new_firsts v e
        moves_there u d step v known move edge sum =
            let listed = (tried.exact (record { from = known.0; step = step })).1 (u, known.1, edge_tried token at u v step edge move, (d, known.2, sum)) in
            let head = grown.reached known.0 step u v (inl listed) (stays known.0 u known.1) edge in
            known_at head.0 v head.1

        shifts_there : (u v : Configured) → IsKnownAt end new_firsts u (length firsts) → IsEdge token at u PlainShift v → (e : ℕ) × IsKnownAt end new_firsts v e
        shifts_there u v known edge =
            let below = slice_get_within end known.0 u known.1 in
            elim (level_cases (length firsts) known.0 below known.2) as (λ _. (e : ℕ) × IsKnownAt end new_firsts v e) [
              | inl old ↦ absurd (omega (arith, old.2))
              | inr new ↦
                  let head = grown.reached known.0 PlainShift u v (inr (new.1, below, refl)) known.1 edge in
                  known_at head.0 v head.1
            ]

        knows : KnowsNearer token costs at (IsKnownAt end new_firsts) (length firsts + 1)
        knows =
            let some : 0 < length firsts = omega (arith, (node_far token costs at nodes firsts links round 0 _ round.root).3) in
            knows_more token costs at (IsKnownAt nodes firsts) (IsKnownAt end new_firsts) (length firsts) each some (round_knows token costs at nodes firsts links round)
            (λ v d known.
            let below = slice_get_within nodes known.0 v known.1 in
            (known.0, stays known.0 v known.1, at_before firsts (length nodes) round.levels (length end) d known.0 below known.2))
            (λ v d known. far_at d known.0 v known.2 known.1)
            moves_there shifts_there

        -- the links are those of what is there
        old_link : (link : PlainLink) → IsLinkAmong token costs at (length firsts) nodes link → IsLinkAmong token costs at (length firsts) end link
        old_link link h = (h.0, h.1, stays link.from h.0 h.2, stays link.to h.1 h.3, h.4)

        new_link : (link : PlainLink) → length nodes ≤ link.to → IsAmong attempts link.from link.step ⊎ IsShiftWithin (length nodes) (length end) link.from link.step
            → IsStepAmong token at end link → IsLinkAmong token costs at (length firsts) end link
        new_link link above done among =
            let u = among.0 in
            let v = among.1 in
            let head = grown.growing.level link.to v above among.3 in
            elim done as (λ _. IsLinkAmong token costs at (length firsts) end link) [
              | inl listed ↦
                  let by = (tried.exact (record { from = link.from; step = link.step })).0 listed in
                  let same = one_at end link.from by.0 u (stays link.from by.0 by.1) among.2 in
                  let tail = subst (λ (w : Configured). IsDistance token costs at w by.3.0) same (round.each by.3.0 link.from by.0 by.3.1 by.1) in
                  let sum = subst (λ (w : Configured). by.3.0 + edge_cost token costs at w link.step ≡ length firsts) same by.3.2 in
                  (u, v, among.2, among.3, link_of token costs at u v link.step by.3.0 (length firsts) among.4 tail head (sym sum))
              | inr shift ↦
                  let tail = grown.growing.level link.from u shift.0 among.2 in
                  let none : length firsts ≡ length firsts + edge_cost token costs at u PlainShift = omega arith in
                  let sum = subst (λ (x : PlainStep). length firsts ≡ length firsts + edge_cost token costs at u x) (sym shift.2) none in
                  (u, v, among.2, among.3, link_of token costs at u v link.step (length firsts) (length firsts) among.4 tail head sum)
            ]

        -- which steps were taken that are links to the new ones
        link_done : (link : PlainLink) (u : Configured) (v : Configured) (d : ℕ) → slice_get end link.from ≡ Some u → IsAt new_firsts (length end) d link.from
            → IsEdge token at u link.step v → length firsts ≡ d + edge_cost token costs at u link.step
            → IsAmong attempts link.from link.step ⊎ IsShiftWithin (length nodes) (length end) link.from link.step
        link_done link u v d is level edge sum =
            let below = slice_get_within end link.from u is in
            elim (shift_or_not link.step) as (λ _. IsAmong attempts link.from link.step ⊎ IsShiftWithin (length nodes) (length end) link.from link.step) [
              | inl shift ↦
                  let same = subst (λ (x : PlainStep). length firsts ≡ d + edge_cost token costs at u x) shift sum in
                  elim (level_cases d link.from below level) as (λ _. IsAmong attempts link.from link.step ⊎ IsShiftWithin (length nodes) (length end) link.from link.step) [
                    | inl old ↦ absurd (omega (arith, same, old.2))
                    | inr new ↦ inr (new.1, below, shift)
                  ]
              | inr move ↦
                  let some = moves_cost token costs at each u link.step move in
                  elim (level_cases d link.from below level) as (λ _. IsAmong attempts link.from link.step ⊎ IsShiftWithin (length nodes) (length end) link.from link.step) [
                    | inl old ↦
                        inl ((tried.exact (record { from = link.from; step = link.step })).1
                        (u, was link.from u old.1 is, edge_tried token at u v link.step edge move, (d, old.0, sym sum)))
                    | inr new ↦ absurd (omega (arith, sum, some, new.0))
                  ]
            ]

        has_link : (link : PlainLink) → IsLinkAmong token costs at (length firsts) end link → Contains end_links link
        has_link link h =
            let u = h.0 in
            let v = h.1 in
            let level_to = has_level new_firsts (length end) levels link.to (slice_get_within end link.to v h.3) in
            let e = level_to.0 in
            let from = links_known token costs at (IsKnownAt end new_firsts) (length firsts + 1) knows u v link.step e (link.to, h.3, level_to.1) h.4 in
            let d = from.0 in
            let number = grown.growing.once from.1.0 link.from u from.1.1 h.2 in
            let level = subst (λ (n : ℕ). IsAt new_firsts (length end) d n) number from.1.2 in
            let below = slice_get_within end link.from u h.2 in
            elim (level_cases e link.to (slice_get_within end link.to v h.3) level_to.1) as (λ _. Contains end_links link) [
              | inl old ↦
                  elim (level_cases d link.from below level) as (λ _. Contains end_links link) [
                    | inl tail ↦
                        grown.links_stay link ((round.linked link).1 (u, v, was link.from u tail.1 h.2, was link.to v old.1 h.3, h.4))
                    | inr new ↦ absurd (omega (arith, from.2, new.0, old.2))
                  ]
              | inr new ↦
                  let sum : length firsts ≡ d + edge_cost token costs at u link.step = sym new.0 ∙ from.2 in
                  grown.links_done link new.1 (link_done link u v d h.2 level h.4.edge sum) (u, v, h.2, h.3, h.4.edge)
            ]

        pub next_round : IsRound token costs at end new_firsts end_links
        next_round =
            let long : length new_firsts ≡ length firsts + 1 = length_push firsts (length nodes) in
            record {
              levels = levels;
              root = stays 0 _ round.root;
              once = grown.growing.once;
              each = λ d n v level is. (far_at d n v level is).0;
              all = λ v near.
                  let known = knows.all v (subst (λ (m : ℕ). IsNearer token costs at m v) long near) in
                  (known.1.0, known.1.1);
              least = subst (λ (m : ℕ). CostsAtLeast token costs at m) (sym long) least;
              linked = λ link. (
                (λ h.
                    elim (grown.links_from link h) as (λ _. IsLinkAmong token costs at (length firsts) end link) [
                      | inl old ↦ old_link link ((round.linked link).0 old)
                      | inr new ↦ new_link link new.0 new.1 new.2
                    ]),
                has_link link,
              );
              links_once = grown.growing.links_once;
            }

        pub next_stays : (more : List Configured) × (end ≡ nodes ++ more)
        next_stays = grown.nodes_stay
