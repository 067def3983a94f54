-- The repairs of a graph by groups, those first after which a parse goes on further: the first ones of all groups, or of the first group
-- alone, are those that may be listed.
use Rattle.std.proofs.Common.{◌≡◌, ◌<◌, ◌≤◌, ◌+◌, ◌-◌, ◌∙◌, ◌⊎◌, inl, inr, ℕ, zero, suc, List, [], ◌++◌, Bool, true, false, IsTrue, Vec, length, take, refl, sym, subst, ap, arith, AllPairs, Contains}
use Rattle.std.proofs.lemmas.List.{length-take}
use Rattle.lrpar_parse_repair.specs.Asked.{Asked, IsStop}
use Rattle.lrpar_parse_repair.specs.Sequences.{PlainStep}
use Rattle.lrpar_parse_repair.specs.declared.repair_step.RepairStep.{RepairStep}
use Rattle.lrpar_parse_cpctplus.specs.Cheapest.{IsLeastCost, RepairsAt}
use Rattle.lrpar_parse_cpctplus.specs.Configurations.{Configured, root_of}
use Rattle.lrpar_parse_cpctplus.specs.Costs.{AreCosts}
use Rattle.lrpar_parse_cpctplus.specs.Graph.{AreEndings, HaveEndings, IsGraph, PlainEnding, PlainLink}
use Rattle.lrpar_parse_cpctplus.specs.Listing.{AreFirst, IsListedBefore, IsPreferred, MayBeListed, Settings}
use Rattle.lrpar_parse_cpctplus.specs.NodesView.{AddsRepairs, AreNodesOf, links_of}
use Rattle.lrpar_parse_cpctplus.specs.Reaching.{GoesAsFar}
use Rattle.lrpar_parse_cpctplus.specs.Rests.{AreByNodes, AreGroups, AreRanked, IsFurthest, IsGroup, added_first, in_order, no_ending, no_place, of_furthest, of_none, of_places, one_group, with_endings}
use Rattle.lrpar_parse_cpctplus.specs.WantedView.{AddsGroup, AreLinksToEnd}
use Rattle.lrpar_parse_cpctplus.specs.declared.link.Link.{Link}
use Rattle.lrpar_parse_cpctplus.specs.declared.link.Linked.{Linked}
use Rattle.lrpar_parse_cpctplus.specs.declared.listing.Wanted.{Wanted}
use Rattle.lrpar_parse_cpctplus.specs.declared.nodes.Nodes.{Nodes}
use Rattle.lrpar_parse_cpctplus.proofs.ChainLemmas.{CostAtLeast, least_cost}
use Rattle.lrpar_parse_cpctplus.proofs.DistanceLemmas.{compare}
use Rattle.lrpar_parse_cpctplus.proofs.FirstLemmas.{first_none, in_either, in_left, in_right, pairs_between, pairs_joined}
use Rattle.lrpar_parse_cpctplus.proofs.GraphLemmas.{GoesTo, chain_is_path, differ_in_steps, ending_has_repair, far_chain_goes, goes_far_chain, path_is_chain, repair_has_ending}
use Rattle.lrpar_parse_cpctplus.proofs.LengthLemmas.{repairs_are_short}
use Rattle.lrpar_parse_cpctplus.proofs.MemberLemmas.{IsIn}
use Rattle.lrpar_parse_cpctplus.proofs.OrderLemmas.{pairs_none}
use Rattle.lrpar_parse_cpctplus.proofs.ReachLemmas.{goes_one_far}
use Rattle.lrpar_parse_cpctplus.proofs.RestLemmas.{all_in, all_rise, in_all}
use Rattle.lrpar_parse_cpctplus.proofs.TakenLemmas.{added_from_none, added_joined, added_none, first_taken}

-- a graph of a search by numbers: the number of its configurations, the links between them, and the last steps
pub record PlainGraph : Type 0 where
  pub len : ℕ
  pub links : List PlainLink
  pub endings : List PlainEnding

-- the graph is that of the configurations that are nearer than c, the least cost of a repair
pub record IsGraphAt {X : Type 0} (token : X → ℕ) (costs : List ℕ) (at : Asked X) (c : ℕ) (nodes : List Configured) (graph : PlainGraph) : Type 0 where
  pub stop : IsStop token at
  pub costs_of_tokens : AreCosts costs
  pub least : IsLeastCost token costs at c
  pub len : length nodes ≡ graph.len
  pub links : IsGraph token costs at c nodes graph.links
  pub endings : AreEndings token costs at c nodes graph.endings
  pub measured : HaveEndings token costs at c nodes graph.endings

-- the first ones of all groups are listed, or those of the group of the furthest place alone
abbrev pub AreRankedIn : Settings → PlainGraph → List (List PlainStep) → Type 0
AreRankedIn settings graph repairs =
    AreRanked settings.avoided graph.len (graph.len + 1) graph.links graph.endings settings.most settings.lists_all repairs

module _ {X : Type 0} (token : X → ℕ) (settings : Settings) (at : Asked X) (c : ℕ) (nodes : List Configured) (graph : PlainGraph) (is : IsGraphAt token settings.costs at c nodes graph) where
  least : CostAtLeast token settings.costs at c
  least = least_cost token settings.costs at c is.least

  -- a repair after which a parse goes on to this place
  abbrev Goes : ℕ → List PlainStep → Type 0
  Goes far steps = GoesTo token settings.costs at c far steps

  module _ (far : ℕ) (next : ℕ → List PlainLink) (by_nodes : AreByNodes (with_endings (length nodes) far graph.links graph.endings) next) where
    group_goes : (steps : List PlainStep) → IsIn steps (in_order settings.avoided (length nodes) next (length nodes + 1)) → Goes far steps
    group_goes steps m =
        let h = in_all settings.avoided (length nodes) next (length nodes + 1) steps m in
        far_chain_goes token settings.costs at c is.stop is.costs_of_tokens is.least far steps h.2
        (path_is_chain token settings.costs at c nodes graph.links graph.endings is.costs_of_tokens least is.links is.endings far next by_nodes steps 0 (root_of at)
        is.links.nearer.first h.1)

    goes_group : (steps : List PlainStep) → Goes far steps → IsIn steps (in_order settings.avoided (length nodes) next (length nodes + 1))
    goes_group steps h =
        let chain = goes_far_chain token settings.costs at c is.stop is.costs_of_tokens is.least far steps h in
        all_in settings.avoided (length nodes) next (length nodes + 1) steps (let long = repairs_are_short token settings.costs at is.costs_of_tokens c nodes is.stop is.least is.links.nearer steps h.0 in omega (arith, long))
        (chain_is_path token settings.costs at c nodes graph.links graph.endings is.costs_of_tokens least is.links is.endings far next by_nodes is.measured steps 0
        (root_of at) is.links.nearer.first chain.1)
        chain.0

    group_rises : AllPairs (IsListedBefore token at settings.avoided) (in_order settings.avoided (length nodes) next (length nodes + 1))
    group_rises =
        let group = in_order settings.avoided (length nodes) next (length nodes + 1) in
        pairs_between (IsPreferred settings.avoided) (IsListedBefore token at settings.avoided) group
        (all_rise settings.avoided (length nodes) next
        (by_nodes.rising (differ_in_steps token settings.costs at c nodes graph.links graph.endings is.costs_of_tokens least is.links is.endings far)) (length nodes + 1))
        (λ xs ys m n before. (far, far, (group_goes xs m).1, (group_goes ys n).1, inr (refl, before)))

  -- the repairs after which a parse goes on to this place, in order
  record AreAllAt (far : ℕ) (repairs : List (List PlainStep)) : Type 0 where
    each : (steps : List PlainStep) → IsIn steps repairs → Goes far steps
    all : (steps : List PlainStep) → Goes far steps → IsIn steps repairs
    ordered : AllPairs (IsListedBefore token at settings.avoided) repairs

  one_place : (far : ℕ) (repairs : List (List PlainStep)) → IsGroup settings.avoided (length nodes) (length nodes + 1) graph.links graph.endings far repairs
      → AreAllAt far repairs
  one_place far repairs h =
      subst (λ (l : List (List PlainStep)). AreAllAt far l) (sym h.2)
      (record { each = group_goes far h.0 h.1; all = goes_group far h.0 h.1; ordered = group_rises far h.0 h.1 })

  -- an ending is there for each repair
  ending_there : (steps : List PlainStep) → RepairsAt token settings.costs at c steps
      → (ending : PlainEnding) × Contains graph.endings ending × GoesAsFar token at steps ending.reach
  ending_there steps repair =
      repair_has_ending token settings.costs at c nodes graph.links graph.endings is.costs_of_tokens least is.links is.endings is.stop is.least is.measured steps repair

  ending_at : (steps : List PlainStep) (far : ℕ) → Goes far steps → (ending : PlainEnding) × Contains graph.endings ending × (ending.reach ≡ far)
  ending_at steps far h =
      let ending = ending_there steps h.0 in
      (ending.0, ending.1, goes_one_far token at steps ending.0.reach far ending.2 h.1)

  -- the repairs after which a parse goes on to a place from `low` on and below `high`, in order
  record AreAllBetween (high low : ℕ) (repairs : List (List PlainStep)) : Type 0 where
    each : (steps : List PlainStep) → IsIn steps repairs → (far : ℕ) × (low ≤ far) × Goes far steps
    all : (steps : List PlainStep) (far : ℕ) → low ≤ far → far < high → Goes far steps → IsIn steps repairs
    ordered : AllPairs (IsListedBefore token at settings.avoided) repairs

  groups_between : (high low : ℕ) (repairs : List (List PlainStep))
      → AreGroups settings.avoided (length nodes) (length nodes + 1) graph.links graph.endings high low repairs → AreAllBetween high low repairs
  groups_between high _ _ no_place = record {
    each = λ steps m. absurd m;
    all = λ steps far above below h. absurd (omega (arith, above, below));
    ordered = pairs_none (IsListedBefore token at settings.avoided);
  }
  groups_between high _ _ (no_ending reach repairs none rest) =
      let h = groups_between high (suc reach) repairs rest in
      record {
        each = λ steps m. let e = h.each steps m in (e.0, omega (arith, e.1), e.2);
        all = λ steps far above below goes.
            elim (compare far reach) as (λ _. IsIn steps repairs) [
              | inl less ↦ absurd (omega (arith, less, above))
              | inr other ↦ elim other as (λ _. IsIn steps repairs) [
                | inl same ↦ let ending = ending_at steps far goes in absurd (none ending.0 ending.1 (ending.2 ∙ same))
                | inr over ↦ h.all steps far (omega (arith, over)) below goes
              ]
            ];
        ordered = h.ordered;
      }
  groups_between high _ _ (one_group reach group repairs here rest) =
      let h = groups_between high (suc reach) repairs rest in
      let g = one_place reach group here in
      record {
        each = λ steps m.
            elim (in_either steps repairs group m) as (λ _. (far : ℕ) × (reach ≤ far) × Goes far steps) [
              | inl other ↦ let e = h.each steps other in (e.0, omega (arith, e.1), e.2)
              | inr one ↦ (reach, omega arith, g.each steps one)
            ];
        all = λ steps far above below goes.
            elim (compare far reach) as (λ _. IsIn steps (repairs ++ group)) [
              | inl less ↦ absurd (omega (arith, less, above))
              | inr other ↦ elim other as (λ _. IsIn steps (repairs ++ group)) [
                | inl same ↦ in_right steps repairs group (g.all steps (subst (λ (n : ℕ). Goes n steps) same goes))
                | inr over ↦ in_left steps repairs group (h.all steps far (omega (arith, over)) below goes)
              ]
            ];
        ordered = pairs_joined (IsListedBefore token at settings.avoided) repairs group h.ordered g.ordered (λ xs ys m n.
            let e = h.each xs m in
            (e.0, reach, e.2.1, (g.each ys n).1, inl (let over : reach < e.0 = omega (arith, e.1) in over)));
      }

  -- whether a repair that costs c may be listed
  may_all : IsTrue settings.lists_all → (high low : ℕ) (repairs : List (List PlainStep))
      → ((ending : PlainEnding) → Contains graph.endings ending → ending.reach < high)
      → AreGroups settings.avoided (length nodes) (length nodes + 1) graph.links graph.endings high low repairs
      → (low ≡ 0) ⊎ (settings.most ≤ length repairs)
      → AreFirst settings.most (MayBeListed token settings at c) (IsListedBefore token at settings.avoided) (take settings.most repairs)
  may_all all high low repairs above groups enough =
      let h = groups_between high low repairs groups in
      let Before = IsListedBefore token at settings.avoided in
      first_taken Before settings.most (MayBeListed token settings at c) repairs h.ordered
      (λ steps m. ((h.each steps m).2.0, inl all))
      (λ steps may.
      let ending = ending_there steps may.0 in
      let far = ending.0.reach in
      let below = above ending.0 ending.1 in
      elim (compare far low) as (λ _. IsIn steps repairs ⊎ ((settings.most ≤ length repairs) × ((y : List PlainStep) → IsIn y repairs → Before y steps))) [
        | inl less ↦ elim enough as (λ _. IsIn steps repairs ⊎ ((settings.most ≤ length repairs) × ((y : List PlainStep) → IsIn y repairs → Before y steps))) [
          | inl zero_is ↦ absurd (omega (arith, less, zero_is))
          | inr many ↦ inr (
            many,
            λ y m.
                let e = h.each y m in
                (e.0, far, e.2.1, ending.2, inl (let over : far < e.0 = omega (arith, less, e.1) in over)),
          )
        ]
        | inr other ↦ inl (h.all steps far (elim other as (λ _. low ≤ far) [ inl same ↦ omega (arith, same) | inr over ↦ omega (arith, over) ]) below (may.0, ending.2))
      ])

  may_furthest : settings.lists_all ≡ false → (reach : ℕ) (repairs : List (List PlainStep)) → IsFurthest graph.endings reach
      → IsGroup settings.avoided (length nodes) (length nodes + 1) graph.links graph.endings reach repairs
      → AreFirst settings.most (MayBeListed token settings at c) (IsListedBefore token at settings.avoided) (take settings.most repairs)
  may_furthest not reach repairs furthest group =
      let h = one_place reach repairs group in
      let at_most_it : (steps : List PlainStep) (far : ℕ) → Goes far steps → far ≤ reach = λ steps far goes.
      let ending = ending_at steps far goes in
      omega (arith, furthest.none ending.0 ending.1, ending.2) in
      first_taken (IsListedBefore token at settings.avoided) settings.most (MayBeListed token settings at c) repairs h.ordered
      (λ steps m.
      let goes = h.each steps m in
      (goes.0, inr (reach, goes.1, λ other n repair goes_on. at_most_it other n (repair, goes_on))))
      (λ steps may.
      elim may.1 as (λ _. IsIn steps repairs ⊎ ((settings.most ≤ length repairs) × ((y : List PlainStep) → IsIn y repairs → IsListedBefore token at settings.avoided y steps))) [
        | inl all ↦ absurd (let f : false ≡ true = sym not ∙ all in cc)
        | inr best ↦
            let ending = furthest.some in
            let other = ending_has_repair token settings.costs at c nodes graph.links graph.endings is.costs_of_tokens least is.links is.endings ending.0 ending.1 in
            let same : best.0 ≡ reach =
            omega (arith, at_most_it steps best.0 (may.0, best.1), best.2 other.0 ending.0.reach other.1 other.2, ending.2) in
            inl (h.all steps (may.0, subst (λ (n : ℕ). GoesAsFar token at steps n) same best.1))
      ])

  may_none : ((ending : PlainEnding) → ¬ (Contains graph.endings ending))
      → AreFirst settings.most (MayBeListed token settings at c) (IsListedBefore token at settings.avoided) []
  may_none none =
      first_none (IsListedBefore token at settings.avoided) settings.most (MayBeListed token settings at c) (λ steps may.
      let ending = ending_there steps may.0 in
      none ending.0 ending.1)

  ranked_first : (lists_all : Bool) (repairs : List (List PlainStep)) → settings.lists_all ≡ lists_all
      → AreRanked settings.avoided (length nodes) (length nodes + 1) graph.links graph.endings settings.most lists_all repairs
      → AreFirst settings.most (MayBeListed token settings at c) (IsListedBefore token at settings.avoided) repairs
  ranked_first _ _ e (of_places high low repairs above groups enough) = may_all e high low repairs above groups enough
  ranked_first _ _ e (of_furthest reach repairs furthest group) = may_furthest e reach repairs furthest group
  ranked_first _ _ e (of_none none) = may_none none

  -- the first repairs that may be listed are these
  pub are_first : (repairs : List (List PlainStep)) → AreRankedIn settings graph repairs
      → AreFirst settings.most (MayBeListed token settings at c) (IsListedBefore token at settings.avoided) repairs
  are_first repairs ranked =
      ranked_first settings.lists_all repairs refl
      (subst (λ (n : ℕ). AreRanked settings.avoided n (n + 1) graph.links graph.endings settings.most settings.lists_all repairs) (sym is.len) ranked)

-- places between which there is no ending
pub down_to : (avoided : List Bool) (end n : ℕ) (links : List PlainLink) (endings : List PlainEnding) (high low : ℕ) (gap : ℕ) (repairs : List (List PlainStep))
    → ((ending : PlainEnding) → Contains endings ending → low ≤ ending.reach → low + gap ≤ ending.reach)
    → AreGroups avoided end n links endings high (low + gap) repairs → AreGroups avoided end n links endings high low repairs
down_to avoided end n links endings high low zero repairs none h =
    subst (λ (m : ℕ). AreGroups avoided end n links endings high m repairs) (let e : low + 0 ≡ low = omega arith in e) h
down_to avoided end n links endings high low (suc gap) repairs none h =
    let e : low + suc gap ≡ suc (low + gap) = omega arith in
    down_to avoided end n links endings high low gap repairs (λ ending m above. let over = none ending m above in omega (arith, over))
    (no_ending (low + gap) repairs (λ ending m same. let over = none ending m (let b : low ≤ ending.reach = omega (arith, same) in b) in omega (arith, over, same))
    (subst (λ (m : ℕ). AreGroups avoided end n links endings high m repairs) e h))

-- the groups of the places down to this one are listed; further ones have no ending
pub record AreListed (avoided : List Bool) (end n : ℕ) (links : List PlainLink) (endings : List PlainEnding) (most low : ℕ) (listed : List (List PlainStep)) : Type 0 where
  pub high : ℕ
  pub repairs : List (List PlainStep)
  pub under : (ending : PlainEnding) → Contains endings ending → ending.reach < high
  pub groups : AreGroups avoided end n links endings high low repairs
  pub are : listed ≡ take most repairs

module _ (avoided : List Bool) (end n : ℕ) (links : List PlainLink) (endings : List PlainEnding) (most : ℕ) where
  -- at the start none is listed
  pub none_listed : (low : ℕ) → ((ending : PlainEnding) → Contains endings ending → ending.reach < low) → AreListed avoided end n links endings most low []
  none_listed low under = record { high = low; repairs = []; under = under; groups = no_place; are = sym (added_none most []) ∙ added_from_none most [] }

  -- one group more, and then down to the next place that has an ending
  pub more_listed : (far low : ℕ) (listed more group : List (List PlainStep)) → low ≤ far
      → ((ending : PlainEnding) → Contains endings ending → ending.reach < far → ending.reach < low)
      → IsGroup avoided end n links endings far group → more ≡ added_first most listed group
      → AreListed avoided end n links endings most (far + 1) listed → AreListed avoided end n links endings most low more
  more_listed far low listed more group below none is added h =
      let turned : far + 1 ≡ suc far = omega arith in
      let gap : low + (far - low) ≡ far = omega (arith, below) in
      let here = one_group far group h.repairs is (subst (λ (m : ℕ). AreGroups avoided end n links endings h.high m h.repairs) turned h.groups) in
      record {
        high = h.high;
        repairs = h.repairs ++ group;
        under = h.under;
        groups = down_to avoided end n links endings h.high low (far - low) (h.repairs ++ group)
            (λ ending m above.
            elim (compare ending.reach far) as (λ _. low + (far - low) ≤ ending.reach) [
              | inl less ↦ let past = none ending m less in absurd (omega (arith, past, above))
              | inr other ↦ elim other as (λ _. low + (far - low) ≤ ending.reach) [ inl same ↦ omega (arith, gap, same) | inr over ↦ omega (arith, gap, over) ]
            ])
            (subst (λ (m : ℕ). AreGroups avoided end n links endings h.high m (h.repairs ++ group)) (sym gap) here);
        are = added
            ∙ ap (λ (l : List (List PlainStep)). added_first most l group) (h.are ∙ sym (added_from_none most h.repairs))
            ∙ added_joined most [] h.repairs group
            ∙ added_from_none most (h.repairs ++ group);
      }

  -- all places, or enough repairs
  pub listed_ranked : (low : ℕ) (listed : List (List PlainStep)) → AreListed avoided end n links endings most low listed → (low ≡ 0) ⊎ (most ≤ length listed)
      → AreRanked avoided end n links endings most true listed
  listed_ranked low listed h ended =
      let enough : (low ≡ 0) ⊎ (most ≤ length h.repairs) =
      elim ended as (λ _. (low ≡ 0) ⊎ (most ≤ length h.repairs)) [
        | inl all ↦ inl all
        | inr full ↦ inr (omega (arith, full, ap (λ (l : List (List PlainStep)). length l) h.are, length-take most h.repairs))
      ] in
      subst (λ (l : List (List PlainStep)). AreRanked avoided end n links endings most true l) (sym h.are) (of_places h.high low h.repairs h.under h.groups enough)

  pub group_ranked : (far : ℕ) (listed group : List (List PlainStep)) → IsFurthest endings far → IsGroup avoided end n links endings far group
      → listed ≡ added_first most [] group → AreRanked avoided end n links endings most false listed
  group_ranked far listed group furthest is added =
      subst (λ (l : List (List PlainStep)). AreRanked avoided end n links endings most false l) (sym (added ∙ added_from_none most group))
      (of_furthest far group furthest is)

-- the repairs of the nodes with the last steps of one place are those of its group
pub group_added : {S A B D : Type 0} (index : S → ℕ) (wanted : Wanted) (linked : Linked S) (nodes : Nodes S) (links : Vec (Link S) D) (reach : ℕ)
    (old new : Vec (Vec (RepairStep S) A) B) → AreLinksToEnd index linked reach links → AreNodesOf index wanted.avoided.now linked.len links.items nodes
    → AddsRepairs index nodes wanted.most old new → AddsGroup index wanted linked reach old new
group_added index wanted linked nodes links reach old new to_end are added = (
  in_order wanted.avoided.now linked.len (links_of index nodes) (linked.len + 1),
  (links_of index nodes, subst (λ (ls : List PlainLink). AreByNodes ls (links_of index nodes)) to_end are.by_nodes, refl),
  rw (are.avoids, are.ends) at added,
)
