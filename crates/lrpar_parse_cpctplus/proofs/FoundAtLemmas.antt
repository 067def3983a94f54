-- What a search says of its answer: the first repairs of its graph are those that are listed, and none is if no cost is found.
use Rattle.std.proofs.Common.{◌≡◌, ◌≤◌, inr, inl, ℕ, List, [], refl, subst, arith}
use Rattle.lrpar_parse_repair.specs.Asked.{Asked}
use Rattle.lrpar_parse_repair.specs.Sequences.{PlainStep}
use Rattle.lrpar_parse_cpctplus.specs.Cheapest.{IsLeastCost}
use Rattle.lrpar_parse_cpctplus.specs.Configurations.{Configured}
use Rattle.lrpar_parse_cpctplus.specs.Listing.{AreFirst, AreListed, IsFoundAt, IsListedBefore, MayBeListed, Settings}
use Rattle.lrpar_parse_cpctplus.proofs.GroupLemmas.{AreRankedIn, IsGraphAt, PlainGraph, are_first}

-- there is one least cost
pub one_least_cost : {X : Type 0} (token : X → ℕ) (costs : List ℕ) (at : Asked X) (c d : ℕ) → IsLeastCost token costs at c → IsLeastCost token costs at d → c ≡ d
one_least_cost token costs at c d one other =
    omega (arith, one.none other.some.0 other.some.1.0, other.none one.some.0 one.some.1.0, one.some.1.1, other.some.1.1)

module _ {X : Type 0} (token : X → ℕ) (settings : Settings) (at : Asked X) where
  -- the graph of a search has no more configurations than may be kept
  pub graph_listed : (c : ℕ) (nodes : List Configured) (graph : PlainGraph) (repairs : List (List PlainStep))
      → IsGraphAt token settings.costs at c nodes graph → graph.len ≤ settings.limit
      → AreRankedIn settings graph repairs → AreListed token settings at repairs
  graph_listed c nodes graph repairs is few ranked =
      let first = are_first token settings at c nodes graph is repairs ranked in
      record {
        first = λ d found.
            subst (λ (n : ℕ). AreFirst settings.most (MayBeListed token settings at n) (IsListedBefore token at settings.avoided) repairs)
            (one_least_cost token settings.costs at c d is.least found.least) first;
        else = inr (c, record { least = is.least; within = (nodes, λ v near. (is.links.nearer.exact v).1 near, omega (arith, is.len, few)) });
      }

  -- no cost is found within the limit
  pub none_found_listed : ((c : ℕ) → ¬ (IsFoundAt token settings at c)) → AreListed token settings at []
  none_found_listed none = record { first = λ c found. absurd (none c found); else = inl refl }
