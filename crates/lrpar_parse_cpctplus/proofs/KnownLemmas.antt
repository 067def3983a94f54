-- What a graph knows at the head of a round, as the theory of rounds has it: its configurations, at the distances of their numbers.
use Rattle.std.proofs.Common.{◌≡◌, ◌<◌, ◌≤◌, ◌+◌, inl, inr, ℕ, zero, suc, List, [], ◌∷◌, Some, length, slice_get, refl, sym, subst, ap, arith}
use Rattle.std.proofs.lemmas.Option.{none-some, same_Some, slice_get_within}
use Rattle.lrpar_parse_repair.specs.Asked.{Asked, IsStop}
use Rattle.lrpar_parse_repair.specs.Sequences.{PlainStep}
use Rattle.lrpar_table_stacks.specs.Run.{token_at}
use Rattle.lrpar_parse_cpctplus.specs.LinkPaths.{IsLink}
use Rattle.lrpar_parse_cpctplus.specs.Configurations.{Configured, IsDistance, IsEdge, IsNearer, edge_cost, root_of}
use Rattle.lrpar_parse_cpctplus.specs.Costs.{AreCosts}
use Rattle.lrpar_parse_cpctplus.specs.Graph.{PlainLink, IsLinkAmong}
use Rattle.lrpar_parse_cpctplus.specs.Levels.{IsAt, first_of}
use Rattle.lrpar_parse_cpctplus.specs.SearchRound.{IsRound}
use Rattle.lrpar_parse_cpctplus.proofs.ChainLemmas.{moves_cost}
use Rattle.lrpar_parse_cpctplus.proofs.DistanceLemmas.{distance_nearer, one_distance, root_distance}
use Rattle.lrpar_parse_cpctplus.proofs.LevelLemmas.{has_level, level_below}
use Rattle.lrpar_parse_cpctplus.proofs.NumberLemmas.{contains_none, once_none, once_single}
use Rattle.lrpar_parse_cpctplus.proofs.PruneLemmas.{nothing_fed}
use Rattle.lrpar_parse_cpctplus.proofs.RoundLemmas.{KnowsNearer, knows_root, one_at_least, shift_or_not}

-- v has a number, which is at distance d
abbrev pub IsKnownAt : List Configured → List ℕ → Configured → ℕ → Type 0
IsKnownAt nodes firsts v d = (n : ℕ) × (slice_get nodes n ≡ Some v) × IsAt firsts (length nodes) d n

module _ {X : Type 0} (token : X → ℕ) (costs : List ℕ) (at : Asked X) where
  module _ (nodes : List Configured) (firsts : List ℕ) (links : List PlainLink) (round : IsRound token costs at nodes firsts links) where
    -- each number is at a distance, which is that of its configuration
    pub node_far : (n : ℕ) (v : Configured) → slice_get nodes n ≡ Some v → (d : ℕ) × IsAt firsts (length nodes) d n × IsDistance token costs at v d × (d < length firsts)
    node_far n v is =
        let within = slice_get_within nodes n v is in
        let level = has_level firsts (length nodes) round.levels n within in
        (level.0, level.1, round.each level.0 n v level.1 is, level_below firsts (length nodes) round.levels level.0 n within level.1)

    pub node_nearer : (c n : ℕ) (v : Configured) → length firsts ≤ c → slice_get nodes n ≡ Some v → IsNearer token costs at c v
    node_nearer c n v within is =
        let far = node_far n v is in distance_nearer token costs at c far.0 v far.2 (omega (arith, far.3, within))

    pub round_knows : KnowsNearer token costs at (IsKnownAt nodes firsts) (length firsts)
    round_knows = record {
      each = λ v d known. (
        round.each d known.0 v known.2 known.1,
        level_below firsts (length nodes) round.levels d known.0 (slice_get_within nodes known.0 v known.1) known.2,
      );
      all = λ v near.
          let number = round.all v near in
          let far = node_far number.0 v number.1 in
          (far.0, (number.0, number.1, far.1));
    }

  -- Before the first round there is the error point alone.
  root_only : (n : ℕ) (v : Configured) → slice_get (root_of at ∷ []) n ≡ Some v → (n ≡ 0) × (root_of at ≡ v)
  root_only zero v is = (refl, same_Some (root_of at) v is)
  root_only (suc n) v is = absurd (none-some v is)

  first_one : (d : ℕ) → 0 < d → first_of (0 ∷ []) 1 d ≡ 1
  first_one zero some = absurd (omega (arith, some))
  first_one (suc d) some = refl

  first_rises : (d : ℕ) → first_of (0 ∷ []) 1 d ≤ first_of (0 ∷ []) 1 (d + 1)
  first_rises zero = omega arith
  first_rises (suc d) = omega (arith, first_one (suc d) (omega arith), first_one (suc d + 1) (omega arith))

  at_first : (d : ℕ) → IsAt (0 ∷ []) 1 d 0 → d ≡ 0
  at_first zero level = refl
  at_first (suc d) level = absurd (omega (arith, level.low))

  -- no link leads from it to itself
  no_link : IsStop token at → AreCosts costs → (link : PlainLink) → ¬ (IsLinkAmong token costs at 1 (root_of at ∷ []) link)
  no_link stop each link h =
      let root = root_of at in
      let tail = (root_only link.from h.0 h.2).1 in
      let head = (root_only link.to h.1 h.3).1 in
      let one = subst (λ (u : Configured). IsLink token costs at u link.step h.1) (sym tail) h.4 in
      let loop = subst (λ (v : Configured). IsLink token costs at root link.step v) (sym head) one in
      let free = one_distance token costs at root (loop.distance + edge_cost token costs at root link.step) loop.distance loop.head loop.tail in
      elim (shift_or_not link.step) as (λ _. ⊥) [
        | inl shift ↦
            let edge = subst (λ (x : PlainStep). IsEdge token at root x root) shift loop.edge in
            nothing_fed at.checked.grammar at.checked.table (token_at token at.checked.grammar at.lexemes at.place) at.stack edge.0 at.stack stop.fails edge.1.1
        | inr move ↦ omega (arith, free, moves_cost token costs at each root link.step move)
      ]

  pub round_begins : IsStop token at → AreCosts costs → IsRound token costs at (root_of at ∷ []) (0 ∷ []) []
  round_begins stop each = record {
    levels = record { zero = refl; rising = first_rises };
    root = refl;
    once = once_single (root_of at);
    each = λ d n v level is.
        let root = root_only n v is in
        let none = at_first d (subst (λ (m : ℕ). IsAt (0 ∷ []) 1 d m) root.0 level) in
        subst (λ (w : Configured). IsDistance token costs at w d) root.1 (subst (λ (m : ℕ). IsDistance token costs at (root_of at) m) (sym none) (root_distance token costs at));
    all = λ v near.
        let known = (knows_root token costs at stop each).all v near in
        (0, ap (λ (w : Configured). Some w) known.1.0);
    least = one_at_least token costs at stop each;
    linked = λ link. ((λ h. absurd (contains_none link h)), (λ h. absurd (no_link stop each link h)));
    links_once = once_none;
  }
