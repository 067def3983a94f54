-- A repair of least cost has no more steps than there are configurations that are nearer: its steps lead to a farther configuration, or to
-- one that is as far and whose place is greater, so it comes to none twice.
use Rattle.std.proofs.Common.{◌≡◌, ◌≢◌, ◌<◌, ◌≤◌, ◌+◌, ◌⊎◌, inl, inr, ℕ, List, [], ◌∷◌, length, refl, sym, subst, ap, arith}
use Rattle.lrpar_parse_repair.specs.Asked.{Asked, IsStop}
use Rattle.lrpar_parse_repair.specs.Sequences.{PlainStep, PlainInsert, PlainDelete, PlainShift}
use Rattle.lrpar_parse_cpctplus.specs.LinkPaths.{IsLinkPath, IsLink}
use Rattle.lrpar_parse_cpctplus.specs.Cheapest.{IsLeastCost, RepairsAt}
use Rattle.lrpar_parse_cpctplus.specs.Configurations.{Configured, IsDistance, IsNearer, edge_cost, root_of}
use Rattle.lrpar_parse_cpctplus.specs.Costs.{AreCosts}
use Rattle.lrpar_parse_cpctplus.specs.Graph.{AreNearer}
use Rattle.lrpar_parse_cpctplus.proofs.ChainLemmas.{moves_cost, repairs_are_chains}
use Rattle.lrpar_parse_cpctplus.proofs.DistanceLemmas.{one_distance}
use Rattle.lrpar_parse_cpctplus.proofs.MemberLemmas.{AreApart, IsIn, apart_few, is_in}

insert_no_shift : (t : ℕ) → PlainInsert t ≢ PlainShift
insert_no_shift t e = cc

delete_no_shift : PlainDelete ≢ PlainShift
delete_no_shift e = cc

module _ {X : Type 0} (token : X → ℕ) (costs : List ℕ) (at : Asked X) (each : AreCosts costs) where
  -- v is farther than u, or as far and at a greater place
  record IsAfter (u v : Configured) : Type 0 where
    from : ℕ
    to : ℕ
    tail : IsDistance token costs at u from
    head : IsDistance token costs at v to
    after : (from < to) ⊎ ((from ≡ to) × (u.place < v.place))

  after_apart : (u v : Configured) → IsAfter u v → u ≢ v
  after_apart u v h same =
      let far = one_distance token costs at v h.from h.to (subst (λ (w : Configured). IsDistance token costs at w h.from) same h.tail) h.head in
      let place : u.place ≡ v.place = ap (λ (w : Configured). w.place) same in
      elim h.after as (λ _. ⊥) [ inl less ↦ omega (arith, far, less) | inr both ↦ omega (arith, place, both.1) ]

  after_after : (u v w : Configured) → IsAfter u v → IsAfter v w → IsAfter u w
  after_after u v w one other =
      let same = one_distance token costs at v one.to other.from one.head other.tail in
      let Later : Type 0 = (one.from < other.to) ⊎ ((one.from ≡ other.to) × (u.place < w.place)) in
      record {
        from = one.from;
        to = other.to;
        tail = one.tail;
        head = other.head;
        after = elim one.after as (λ _. Later) [
          | inl less ↦ elim other.after as (λ _. Later) [ inl more ↦ inl (omega (arith, less, same, more)) | inr both ↦ inl (omega (arith, less, same, both.0)) ]
          | inr both ↦ elim other.after as (λ _. Later) [
            | inl more ↦ inl (omega (arith, both.0, same, more))
            | inr too ↦ inr (omega (arith, both.0, same, too.0), omega (arith, both.1, too.1))
          ]
        ];
      }

  by_cost : (u v : Configured) (x : PlainStep) → x ≢ PlainShift → IsLink token costs at u x v → IsAfter u v
  by_cost u v x other link =
      let some = moves_cost token costs at each u x other in
      record {
        from = link.distance;
        to = link.distance + edge_cost token costs at u x;
        tail = link.tail;
        head = link.head;
        after = inl (omega (arith, some));
      }

  by_link : (u v : Configured) (x : PlainStep) → IsLink token costs at u x v → IsAfter u v
  by_link u v (PlainInsert t) link = by_cost u v (PlainInsert t) (insert_no_shift t) link
  by_link u v PlainDelete link = by_cost u v PlainDelete delete_no_shift link
  by_link u v PlainShift link = record {
    from = link.distance;
    to = link.distance + 0;
    tail = link.tail;
    head = link.head;
    after = inr (omega arith, let next = link.edge.1.2 in omega (arith, next));
  }

  -- the configurations from which the steps of a chain lead
  record Passes (c : ℕ) (u : Configured) (steps : List PlainStep) : Type 0 where
    passed : List Configured
    long : length passed ≡ length steps
    near : (v : Configured) → IsIn v passed → IsNearer token costs at c v
    apart : AreApart passed
    later : (v : Configured) → IsIn v passed → (u ≡ v) ⊎ IsAfter u v

  passes : (c : ℕ) (u end : Configured) (steps : List PlainStep) → IsLinkPath token costs at c u steps end → Passes c u steps
  passes c u end [] h = record { passed = []; long = refl; near = λ v m. absurd m; apart = tt; later = λ v m. absurd m }
  passes c u end (x ∷ steps) h =
      let next = h.0 in
      let rest = passes c next end steps h.3 in
      let first = by_link u next x h.1 in
      let behind : (v : Configured) → IsIn v rest.passed → IsAfter u v = λ v m.
      elim (rest.later v m) as (λ _. IsAfter u v) [
        | inl same ↦ subst (λ (w : Configured). IsAfter u w) same first
        | inr after ↦ after_after u next v first after
      ] in
      record {
        passed = u ∷ rest.passed;
        long = omega (arith, rest.long);
        near = λ v m. elim m as (λ _. IsNearer token costs at c v) [
          | inl same ↦ subst (λ (w : Configured). IsNearer token costs at c w) (sym same) h.2
          | inr later ↦ rest.near v later
        ];
        apart = ((λ m. after_apart u u (behind u m) refl), rest.apart);
        later = λ v m. elim m as (λ _. (u ≡ v) ⊎ IsAfter u v) [ inl same ↦ inl (sym same) | inr later ↦ inr (behind v later) ];
      }

  pub repairs_are_short : (c : ℕ) (nodes : List Configured) → IsStop token at → IsLeastCost token costs at c → AreNearer token costs at c nodes
      → (steps : List PlainStep) → RepairsAt token costs at c steps → length steps ≤ length nodes
  repairs_are_short c nodes stop least nearer steps repair =
      let chain = (repairs_are_chains token costs at c stop each least steps).0 repair in
      let h = passes c (root_of at) chain.end steps chain.chain in
      let few = apart_few h.passed nodes h.apart (λ v m. is_in v nodes ((nearer.exact v).1 (h.near v m))) in
      omega (arith, h.long, few)
