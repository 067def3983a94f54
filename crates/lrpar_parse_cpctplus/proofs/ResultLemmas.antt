-- What a search returns: the graph with the last steps at the least cost of a repair; or nothing, if the limit is exceeded, or if nothing
-- is left to be added.
use Rattle.std.proofs.Common.{◌≡◌, ◌<◌, ◌≤◌, ◌+◌, ◌-◌, ◌*◌, ◌⊎◌, inl, inr, ℕ, suc, List, [], ◌∷◌, ◌++◌, Some, length, slice_get, refl, sym, subst, arith}
use Rattle.std.specs.List.{Contains}
use Rattle.std.proofs.lemmas.Option.{slice_get_within}
use Rattle.lrpar_parse_repair.specs.Asked.{Asked}
use Rattle.lrpar_parse_cpctplus.specs.Configurations.{Configured, IsDistance, IsNearer}
use Rattle.lrpar_parse_cpctplus.specs.Costs.{AreCosts}
use Rattle.lrpar_parse_cpctplus.specs.Graph.{PlainEnding, PlainLink, IsGraph}
use Rattle.lrpar_parse_cpctplus.specs.SearchRound.{PlainAttempt, AreAttempts, AreEndingsOf, AreOnce, CostsAtLeast, IsFoundBy, IsNothingFound, IsPastLimit, IsRound}
use Rattle.lrpar_parse_cpctplus.proofs.EndingLemmas.{endings_are, endings_had, last_of}
use Rattle.lrpar_parse_cpctplus.proofs.KnownLemmas.{node_far, node_nearer}
use Rattle.lrpar_parse_cpctplus.proofs.LastStepLemmas.{last_is_least}
use Rattle.lrpar_parse_cpctplus.proofs.MemberLemmas.{AreApart, apart_few, contained, is_in}
use Rattle.lrpar_parse_cpctplus.proofs.NumberLemmas.{at_contained, at_within, contains_at, once_pairs}
use Rattle.lrpar_parse_cpctplus.proofs.RoundLemmas.{nothing_works}

-- no two numbers have the same: no two are the same
once_apart : {A : Type 0} (xs : List A) → AreOnce xs → AreApart xs
once_apart [] once = tt
once_apart (x ∷ xs) once = (
  (λ m.
      let there = at_contained xs x (contained x xs m) in
      omega (arith, once 0 (suc there.0) x refl there.1)),
  once_apart xs (λ i j y a b. omega (arith, once (suc i) (suc j) y a b)),
)

module _ {X : Type 0} (token : X → ℕ) (costs : List ℕ) (at : Asked X) where
  -- the limit is exceeded
  pub nothing_past_limit : (limit : ℕ) (nodes : List Configured) → IsPastLimit token costs at limit nodes → IsNothingFound token costs at limit
  nothing_past_limit limit nodes past c least few =
      let repair = least.some in
      let above = past.least repair.0 repair.1.0.works in
      let fewer = apart_few nodes few.0 (once_apart nodes past.once) (λ v m.
      let number = at_contained nodes v (contained v nodes m) in
      let near = past.nearer number.0 v number.1 in
      is_in v few.0 (few.1 v (near.0, near.1, omega (arith, near.2, above, repair.1.1)))) in
      omega (arith, fewer, past.more, few.2)

  module _ (nodes : List Configured) (firsts : List ℕ) (links : List PlainLink) (round : IsRound token costs at nodes firsts links) where
    -- there are more configurations than the limit allows before anything is added
    pub round_past_limit : (limit : ℕ) → limit < length nodes → IsPastLimit token costs at limit nodes
    round_past_limit limit more = record {
      bound = length firsts;
      least = round.least;
      once = round.once;
      nearer = λ n v is. node_nearer token costs at nodes firsts links round (length firsts) n v (omega arith) is;
      more = more;
    }

    round_graph : IsGraph token costs at (length firsts) nodes links
    round_graph = record {
      nearer = record {
        first = round.root;
        exact = λ v. (
          (λ h.
              let number = at_contained nodes v h in
              node_nearer token costs at nodes firsts links round (length firsts) number.0 v (omega arith) number.1),
          (λ near. let number = round.all v near in contains_at nodes number.0 v number.1),
        );
        once = once_pairs nodes round.once;
      };
      exact = round.linked;
      once = once_pairs links round.links_once;
    }

    -- a last step is found
    pub found_by : (limit : ℕ) → AreCosts costs → (attempts : List PlainAttempt) → AreAttempts token costs at nodes firsts (length firsts) attempts
        → (endings : List PlainEnding) → AreEndingsOf token at nodes attempts endings → (ending : PlainEnding) → Contains endings ending
        → length nodes ≤ limit → IsFoundBy token costs at limit nodes links endings
    found_by limit each attempts tried endings found ending there within =
        let last = last_of token costs at each nodes firsts links round attempts tried endings found ending there in
        record {
          cost = length firsts;
          least = last_is_least token costs at (length firsts) round.least last.0 ending.step last.1 last.3;
          graph = round_graph;
          lasts = endings_are token costs at each nodes firsts links round attempts tried endings found;
          measured = endings_had token costs at each nodes firsts links round attempts tried endings found;
          within = within;
        }

  -- the configurations are nearer than a number by more than `empty`
  abbrev pub AreBehind : List Configured → ℕ → ℕ → Type 0
  AreBehind nodes levels empty = (n : ℕ) (v : Configured) → slice_get nodes n ≡ Some v → (d : ℕ) × IsDistance token costs at v d × (d + empty < levels)

  pub behind_now : (nodes : List Configured) (firsts : List ℕ) (links : List PlainLink) → IsRound token costs at nodes firsts links
      → AreBehind nodes (length firsts) 0
  behind_now nodes firsts links round n v is =
      let far = node_far token costs at nodes firsts links round n v is in
      (far.0, far.2, omega (arith, far.3))

  -- nothing is added in a round
  pub behind_more : (nodes new : List Configured) (levels empty : ℕ) → (more : List Configured) × (new ≡ nodes ++ more) → length new ≤ length nodes
      → AreBehind nodes levels empty → AreBehind new (levels + 1) (empty + 1)
  behind_more nodes new levels empty more few behind n v is =
      let below = slice_get_within new n v is in
      let old = at_within nodes more.0 n v (omega (arith, below, few)) (subst (λ (l : List Configured). slice_get l n ≡ Some v) more.1 is) in
      let far = behind n v old in
      (far.0, far.1, omega (arith, far.2))

  -- so often that nothing is left to be added
  pub nothing_behind : (limit : ℕ) (nodes : List Configured) (firsts : List ℕ) (links : List PlainLink) (empty : ℕ)
      → IsRound token costs at nodes firsts links → AreCosts costs → AreBehind nodes (length firsts) empty → 255 ≤ empty → IsNothingFound token costs at limit
  nothing_behind limit nodes firsts links empty round each behind enough b least few =
      let c = length firsts - 1 in
      let same : length firsts ≡ c + 1 = omega (arith, (node_far token costs at nodes firsts links round 0 _ round.root).3) in
      nothing_works token costs at c 255 (λ t. (each t).1)
      (λ v near.
      let number = round.all v (subst (λ (m : ℕ). IsNearer token costs at m v) (sym same) near) in
      let far = behind number.0 v number.1 in
      (far.0, far.1, omega (arith, far.2, enough, same)))
      (subst (λ (m : ℕ). CostsAtLeast token costs at m) same round.least)
      least.some.0 least.some.1.0.works

-- what may still be added, and then the rounds that may add nothing, get less
pub less_left : (limit old new empty next : ℕ) → old ≤ new → new ≤ limit → empty < 255 → ((old < new) × (next ≡ 0)) ⊎ ((new ≤ old) × (next ≡ empty + 1))
    → 256 * (limit - new) + (255 - next) < 256 * (limit - old) + (255 - empty)
less_left limit old new empty next grown within few how =
    elim how as (λ _. 256 * (limit - new) + (255 - next) < 256 * (limit - old) + (255 - empty)) [
      | inl more ↦ omega (arith, more.0, more.1, within, few)
      | inr same ↦ omega (arith, same.0, same.1, grown, within, few)
    ]
