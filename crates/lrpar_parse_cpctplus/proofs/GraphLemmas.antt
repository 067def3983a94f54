-- The graph of a search by numbers: its paths from the error point to the end, if the end is that of the last steps after which a parse
-- goes on to some place, are the repairs of least cost after which it does.
use Rattle.std.proofs.Common.{◌≡◌, ◌≢◌, ◌==◌, ◌+◌, ◌∙◌, ◌⊎◌, inl, inr, ℕ, List, [], ◌∷◌, false, filter, length, map, Some, refl, sym, subst, ap, arith, AllPairs, Contains}
use Rattle.std.specs.Prelude.{slice_get}
use Rattle.std.proofs.lemmas.Bool.{eq-eqb, eqb-true}
use Rattle.std.proofs.lemmas.List.Kept.{AllPairs-filter}
use Rattle.std.proofs.lemmas.Option.{slice_get_within}
use Rattle.lrpar_parse_repair.specs.Asked.{Asked, IsStop}
use Rattle.lrpar_parse_repair.specs.Sequences.{PlainStep}
use Rattle.lrpar_parse_cpctplus.specs.LinkPaths.{IsLinkPath, IsEnd, IsLastStep, IsLink}
use Rattle.lrpar_parse_cpctplus.specs.Cheapest.{IsLeastCost, RepairsAt}
use Rattle.lrpar_parse_cpctplus.specs.Configurations.{Configured, IsNearer, LeadTo, root_of}
use Rattle.lrpar_parse_cpctplus.specs.Costs.{AreCosts}
use Rattle.lrpar_parse_cpctplus.specs.Graph.{AreEndings, HaveEndings, IsEndingAmong, IsGraph, IsLinkAmong, PlainEnding, PlainLink}
use Rattle.lrpar_parse_cpctplus.specs.Reaching.{GoesAsFar, Reaches}
use Rattle.lrpar_parse_cpctplus.specs.Rests.{AreByNodes, DifferInSteps, ending_link, with_endings}
use Rattle.lrpar_parse_cpctplus.specs.Ways.{FitAfter, IsWay}
use Rattle.lrpar_parse_cpctplus.proofs.ChainLemmas.{CostAtLeast, chain_runs, repairs_are_chains}
use Rattle.lrpar_parse_cpctplus.proofs.DistanceLemmas.{nearer_distance}
use Rattle.lrpar_parse_cpctplus.proofs.EndLemmas.{end_has_repair, goes_as_far_from}
use Rattle.lrpar_parse_cpctplus.proofs.FirstLemmas.{image_in, in_either, in_image, in_left, in_right, pairs_between, pairs_joined}
use Rattle.lrpar_parse_cpctplus.proofs.LastStepLemmas.{last_is_link, link_is_last}
use Rattle.lrpar_parse_cpctplus.proofs.MemberLemmas.{IsIn, contained, is_in}
use Rattle.lrpar_parse_cpctplus.proofs.OrderLemmas.{pairs_map}
use Rattle.lrpar_parse_cpctplus.proofs.ReachLemmas.{reaches_one_way}
use Rattle.lrpar_parse_cpctplus.proofs.RestLemmas.{IsPath}
use Rattle.lrpar_parse_cpctplus.proofs.TakenLemmas.{at_place_in, in_passes, one_at_place, one_place, passes_in, place_of}
use Rattle.lrpar_parse_cpctplus.proofs.WayLemmas.{edge_one_way, ways_are_chains}

-- a link and an ending by their parts
abbrev link_of : ℕ → PlainStep → ℕ → PlainLink
link_of from step to = record { from = from; step = step; to = to }

abbrev ending_by : ℕ → ℕ → PlainStep → PlainEnding
ending_by reach from step = record { reach = reach; from = from; step = step }

module _ {X : Type 0} (token : X → ℕ) (costs : List ℕ) (at : Asked X) (c : ℕ) where
  -- from v a parse goes on to this place
  abbrev pub GoesOnTo : Configured → ℕ → Type 0
  GoesOnTo v far = Reaches token at.checked.grammar at.checked.table at.lexemes (at.place + 250) v.stack v.place far

  -- a chain from u to an end from which a parse goes on to this place
  pub record IsFarChain (far : ℕ) (u : Configured) (steps : List PlainStep) : Type 0 where
    pub end : Configured
    pub ends : IsEnd token costs at c end
    pub chain : IsLinkPath token costs at c u steps end
    pub reach : GoesOnTo end far

  -- a repair of least cost after which a parse goes on to this place
  abbrev pub GoesTo : ℕ → List PlainStep → Type 0
  GoesTo far steps = RepairsAt token costs at c steps × GoesAsFar token at steps far

  pub far_chain_goes : IsStop token at → AreCosts costs → IsLeastCost token costs at c → (far : ℕ) (steps : List PlainStep) → FitAfter false steps
      → IsFarChain far (root_of at) steps → GoesTo far steps
  far_chain_goes stop each least far steps fits h =
      let way : IsWay token costs at c false (root_of at) steps = record { fits = fits; end = h.end; ends = h.ends; chain = h.chain } in
      let there : LeadTo token at steps h.end = chain_runs token costs at c (root_of at) h.end steps h.chain in (
        (repairs_are_chains token costs at c stop each least steps).1 ((ways_are_chains token costs at c steps).0 way),
        (goes_as_far_from token at steps h.end far there).1 h.reach,
      )

  pub goes_far_chain : IsStop token at → AreCosts costs → IsLeastCost token costs at c → (far : ℕ) (steps : List PlainStep) → GoesTo far steps
      → FitAfter false steps × IsFarChain far (root_of at) steps
  goes_far_chain stop each least far steps h =
      let way = (ways_are_chains token costs at c steps).1 ((repairs_are_chains token costs at c stop each least steps).0 h.0) in
      let there : LeadTo token at steps way.end = chain_runs token costs at c (root_of at) way.end steps way.chain in (
        way.fits,
        record { end = way.end; ends = way.ends; chain = way.chain; reach = (goes_as_far_from token at steps way.end far there).0 h.1 },
      )

  module _ (nodes : List Configured) (links : List PlainLink) (endings : List PlainEnding) (each : AreCosts costs) (least : CostAtLeast token costs at c) (graph : IsGraph token costs at c nodes links) (last : AreEndings token costs at c nodes endings) where
    -- each configuration that is nearer has a number
    number_of : (u : Configured) → IsNearer token costs at c u → (k : ℕ) × (slice_get nodes k ≡ Some u)
    number_of u near = place_of nodes u (is_in u nodes ((graph.nearer.exact u).1 near))

    nearer_at : (k : ℕ) (u : Configured) → slice_get nodes k ≡ Some u → IsNearer token costs at c u
    nearer_at k u there = (graph.nearer.exact u).0 (contained u nodes (at_place_in nodes k u there))

    -- no end is nearer
    end_not_nearer : (u : Configured) → IsEnd token costs at c u → ¬ (IsNearer token costs at c u)
    end_not_nearer u end near = let less = nearer_distance token costs at c c u end.distance near in omega (arith, less)

    -- the last step of a chain is that of an ending
    last_ending : HaveEndings token costs at c nodes endings → (x : PlainStep) (k : ℕ) (u end : Configured) → slice_get nodes k ≡ Some u
        → IsEnd token costs at c end → IsLinkPath token costs at c u (x ∷ []) end
        → (ending : PlainEnding) × Contains endings ending × (ending.from ≡ k) × (ending.step ≡ x) × GoesOnTo end ending.reach
    last_ending measured x k u end there ends chain =
        let link = subst (λ (w : Configured). IsLink token costs at u x w) chain.3 chain.1 in
        let step = link_is_last token costs at c u x end ends link chain.2 in
        let ending = measured k u x end there step in
        let among = (last.exact ending.0).0 ending.1 in
        let tail = one_at_place nodes k among.0 u (subst (λ (n : ℕ). slice_get nodes n ≡ Some among.0) ending.2 among.2) there in
        let edge = subst (λ (y : PlainStep). IsLastStep token costs at c u y among.1) ending.3
        (subst (λ (w : Configured). IsLastStep token costs at c w ending.0.step among.1) tail among.3) in
        let head = edge_one_way token at u among.1 end x edge.edge step.edge in
        (ending.0, ending.1, ending.2, ending.3, subst (λ (w : Configured). GoesOnTo w ending.0.reach) head among.4)

    -- so each chain has one
    pub chain_has_ending : HaveEndings token costs at c nodes endings → (steps : List PlainStep) (k : ℕ) (u end : Configured) → slice_get nodes k ≡ Some u
        → IsEnd token costs at c end → IsLinkPath token costs at c u steps end → (ending : PlainEnding) × Contains endings ending × GoesOnTo end ending.reach
    chain_has_ending measured [] k u end there ends chain =
        absurd (end_not_nearer u (subst (λ (w : Configured). IsEnd token costs at c w) (sym chain) ends) (nearer_at k u there))
    chain_has_ending measured (x ∷ []) k u end there ends chain =
        let ending = last_ending measured x k u end there ends chain in (ending.0, ending.1, ending.4)
    chain_has_ending measured (x ∷ (y ∷ steps)) k u end there ends chain =
        let number = number_of chain.0 chain.3.2 in chain_has_ending measured (y ∷ steps) number.0 chain.0 end number.1 ends chain.3

    -- a parse goes on to some place after each repair
    pub repair_has_ending : IsStop token at → IsLeastCost token costs at c → HaveEndings token costs at c nodes endings → (steps : List PlainStep)
        → RepairsAt token costs at c steps → (ending : PlainEnding) × Contains endings ending × GoesAsFar token at steps ending.reach
    repair_has_ending stop costs_least measured steps repair =
        let chain = (repairs_are_chains token costs at c stop each costs_least steps).0 repair in
        let ending = chain_has_ending measured steps 0 (root_of at) chain.end graph.nearer.first chain.ends chain.chain in
        let there : LeadTo token at steps chain.end = chain_runs token costs at c (root_of at) chain.end steps chain.chain in
        (ending.0, ending.1, (goes_as_far_from token at steps chain.end ending.0.reach there).1 ending.2)

    -- after some repair it goes on to that of each ending
    pub ending_has_repair : (ending : PlainEnding) → Contains endings ending
        → (steps : List PlainStep) × RepairsAt token costs at c steps × GoesAsFar token at steps ending.reach
    ending_has_repair ending m =
        let among = (last.exact ending).0 m in
        let is = last_is_link token costs at c each least among.0 ending.step among.1 among.3 in
        let repair = end_has_repair token costs at c among.1 is.0 in
        (repair.0, repair.1, (goes_as_far_from token at repair.0 among.1 ending.reach repair.2).1 among.4)

    -- a link of the graph or a last step
    module _ (far : ℕ) where
      abbrev links_there : List PlainLink
      links_there = with_endings (length nodes) far links endings

      -- where an ending leads
      record EndsFrom (k : ℕ) (u : Configured) (step : PlainStep) : Type 0 where
        head : Configured
        ends : IsEnd token costs at c head
        link : IsLink token costs at u step head
        near : IsNearer token costs at c u
        reach : GoesOnTo head far

      -- what a link leads from and to
      record LeadsOn (u : Configured) (link : PlainLink) : Type 0 where
        head : Configured
        there : slice_get nodes link.to ≡ Some head
        by : IsLink token costs at u link.step head

      link_leads : (link : PlainLink) (u : Configured) → IsIn link links_there → slice_get nodes link.from ≡ Some u
          → LeadsOn u link ⊎ ((link.to ≡ length nodes) × EndsFrom link.from u link.step)
      link_leads link u m there =
          let ends = filter (λ (ending : PlainEnding). ending.reach == far) endings in
          elim (in_either link links (map (ending_link (length nodes)) ends) m)
          as (λ _. LeadsOn u link ⊎ ((link.to ≡ length nodes) × EndsFrom link.from u link.step)) [
            | inl one ↦
                let among = (graph.exact link).0 (contained link links one) in
                let same = one_at_place nodes link.from among.0 u among.2 there in
                inl (record { head = among.1; there = among.3; by = subst (λ (w : Configured). IsLink token costs at w link.step among.1) same among.4 })
            | inr other ↦
                let of = in_image (ending_link (length nodes)) ends link other in
                let ending = of.0 in
                let passes = passes_in (λ (e : PlainEnding). e.reach == far) endings ending of.2 in
                let among = (last.exact ending).0 (contained ending endings passes.0) in
                let from : ending.from ≡ link.from = ap (λ (l : PlainLink). l.from) (sym of.1) in
                let step : ending.step ≡ link.step = ap (λ (l : PlainLink). l.step) (sym of.1) in
                let same = one_at_place nodes link.from among.0 u (subst (λ (k : ℕ). slice_get nodes k ≡ Some among.0) from among.2) there in
                let is = last_is_link token costs at c each least among.0 ending.step among.1 among.3 in
                let by = subst (λ (w : Configured). IsLink token costs at w link.step among.1) same
                (subst (λ (x : PlainStep). IsLink token costs at among.0 x among.1) step is.1) in
                inr (
                  ap (λ (l : PlainLink). l.to) of.1,
                  record {
                    head = among.1;
                    ends = is.0;
                    link = by;
                    near = nearer_at link.from u there;
                    reach = subst (λ (n : ℕ). GoesOnTo among.1 n) (eqb-true ending.reach far passes.1) among.4;
                  },
                )
          ]

      -- each link is from a configuration of the graph
      link_from : (link : PlainLink) → IsIn link links_there → (u : Configured) × (slice_get nodes link.from ≡ Some u)
      link_from link m =
          let ends = filter (λ (ending : PlainEnding). ending.reach == far) endings in
          elim (in_either link links (map (ending_link (length nodes)) ends) m) as (λ _. (u : Configured) × (slice_get nodes link.from ≡ Some u)) [
            | inl one ↦ let among = (graph.exact link).0 (contained link links one) in (among.0, among.2)
            | inr other ↦
                let of = in_image (ending_link (length nodes)) ends link other in
                let passes = passes_in (λ (e : PlainEnding). e.reach == far) endings of.0 of.2 in
                let among = (last.exact of.0).0 (contained of.0 endings passes.0) in
                let from : of.0.from ≡ link.from = ap (λ (l : PlainLink). l.from) (sym of.1) in
                (among.0, subst (λ (k : ℕ). slice_get nodes k ≡ Some among.0) from among.2)
          ]

      -- the last step of a chain to this place is that of an ending
      ending_of : (x : PlainStep) (k : ℕ) (u : Configured) → slice_get nodes k ≡ Some u → HaveEndings token costs at c nodes endings
          → IsFarChain far u (x ∷ []) → (ending : PlainEnding) × Contains endings ending × (ending.from ≡ k) × (ending.step ≡ x) × (ending.reach ≡ far)
      ending_of x k u there measured h =
          let ending = last_ending measured x k u h.end there h.ends h.chain in
          let same = reaches_one_way token at.checked.grammar at.checked.table at.lexemes (at.place + 250) h.end.stack h.end.place ending.0.reach far ending.4 h.reach in
          (ending.0, ending.1, ending.2, ending.3, same)

      -- two links from one node have different steps
      pub differ_in_steps : DifferInSteps links_there
      differ_in_steps =
          let ends = filter (λ (ending : PlainEnding). ending.reach == far) endings in
          let Differ : PlainLink → PlainLink → Type 0 = λ one other. one.from ≡ other.from → one.step ≢ other.step in
          let firsts : AllPairs Differ links =
          pairs_between (λ one other. one ≢ other) Differ links graph.once (λ one other m n apart from step.
          let a = (graph.exact one).0 (contained one links m) in
          let b = (graph.exact other).0 (contained other links n) in
          apart (same_link one other a b from step)) in
          let lasts : AllPairs Differ (map (ending_link (length nodes)) ends) =
          pairs_map Differ (ending_link (length nodes)) ends
          (pairs_between (λ one other. one ≢ other) (λ one other. Differ (ending_link (length nodes) one) (ending_link (length nodes) other)) ends
          (AllPairs-filter (λ one other. one ≢ other) (λ (ending : PlainEnding). ending.reach == far) endings last.once)
          (λ one other m n apart from step.
          let a = eqb-true one.reach far (passes_in (λ (e : PlainEnding). e.reach == far) endings one m).1 in
          let b = eqb-true other.reach far (passes_in (λ (e : PlainEnding). e.reach == far) endings other n).1 in
          apart (same_ending one other (a ∙ sym b) from step))) in
          pairs_joined Differ links (map (ending_link (length nodes)) ends) firsts lasts (λ one other m n from step.
          let a = (graph.exact one).0 (contained one links m) in
          let of = in_image (ending_link (length nodes)) ends other n in
          let passes = passes_in (λ (e : PlainEnding). e.reach == far) endings of.0 of.2 in
          let b = (last.exact of.0).0 (contained of.0 endings passes.0) in
          let ending_from : of.0.from ≡ one.from = ap (λ (l : PlainLink). l.from) (sym of.1) ∙ sym from in
          let ending_step : of.0.step ≡ one.step = ap (λ (l : PlainLink). l.step) (sym of.1) ∙ sym step in
          link_no_ending one of.0 a b ending_from ending_step)
        where
          same_link : (one other : PlainLink) → IsLinkAmong token costs at c nodes one → IsLinkAmong token costs at c nodes other → one.from ≡ other.from
              → one.step ≡ other.step → one ≡ other
          same_link one other a b from step =
              let tail = one_at_place nodes other.from a.0 b.0 (subst (λ (k : ℕ). slice_get nodes k ≡ Some a.0) from a.2) b.2 in
              let edge = subst (λ (x : PlainStep). IsLink token costs at b.0 x a.1) step (subst (λ (w : Configured). IsLink token costs at w one.step a.1) tail a.4) in
              let head = edge_one_way token at b.0 a.1 b.1 other.step edge.edge b.4.edge in
              let to = one_place nodes one.to other.to b.1 graph.nearer.once (subst (λ (w : Configured). slice_get nodes one.to ≡ Some w) head a.3) b.3 in
              ap (λ (n : ℕ). link_of n one.step one.to) from ∙ ap (λ (x : PlainStep). link_of other.from x one.to) step
              ∙ ap (λ (n : ℕ). link_of other.from other.step n) to

          same_ending : (one other : PlainEnding) → one.reach ≡ other.reach → one.from ≡ other.from → one.step ≡ other.step → one ≡ other
          same_ending one other reach from step =
              ap (λ (n : ℕ). ending_by n one.from one.step) reach ∙ ap (λ (n : ℕ). ending_by other.reach n one.step) from
              ∙ ap (λ (x : PlainStep). ending_by other.reach other.from x) step

          link_no_ending : (link : PlainLink) (ending : PlainEnding) → IsLinkAmong token costs at c nodes link → IsEndingAmong token costs at c nodes ending
              → ending.from ≡ link.from → ending.step ≡ link.step → ⊥
          link_no_ending link ending a b from step =
              let tail = one_at_place nodes link.from a.0 b.0 a.2 (subst (λ (k : ℕ). slice_get nodes k ≡ Some b.0) from b.2) in
              let is = last_is_link token costs at c each least b.0 ending.step b.1 b.3 in
              let edge = subst (λ (x : PlainStep). IsLink token costs at b.0 x b.1) step is.1 in
              let edge_of_link = subst (λ (w : Configured). IsLink token costs at w link.step a.1) tail a.4 in
              let head = edge_one_way token at b.0 a.1 b.1 link.step edge_of_link.edge edge.edge in
              end_not_nearer b.1 is.0 (subst (λ (w : Configured). IsNearer token costs at c w) head (nearer_at link.to a.1 a.3))

      module _ (next : ℕ → List PlainLink) (by_nodes : AreByNodes links_there next) where
        link_at : (k : ℕ) (link : PlainLink) → IsIn link (next k) → IsIn link links_there × (link.from ≡ k)
        link_at k link m = let of = (by_nodes.exact k link).0 (contained link (next k) m) in (is_in link links_there of.0, of.1)

        at_link : (k : ℕ) (link : PlainLink) → IsIn link links_there → link.from ≡ k → IsIn link (next k)
        at_link k link m from = is_in link (next k) ((by_nodes.exact k link).1 (contained link links_there m, from))

        -- from the end no link leads on
        end_stays : (k : ℕ) (steps : List PlainStep) → k ≡ length nodes → IsPath (length nodes) next k steps → steps ≡ []
        end_stays k [] end path = refl
        end_stays k (x ∷ steps) end path =
            let of = link_at k path.0 path.1 in
            let from = link_from path.0 of.0 in
            let within = slice_get_within nodes path.0.from from.0 from.1 in
            absurd (omega (arith, within, of.1, end))

        pub path_is_chain : (steps : List PlainStep) (k : ℕ) (u : Configured) → slice_get nodes k ≡ Some u → IsPath (length nodes) next k steps
            → IsFarChain far u steps
        path_is_chain [] k u there path = let within = slice_get_within nodes k u there in absurd (omega (arith, within, path))
        path_is_chain (x ∷ steps) k u there path =
            let link = path.0 in
            let of = link_at k link path.1 in
            let here = subst (λ (n : ℕ). slice_get nodes n ≡ Some u) (sym of.1) there in
            elim (link_leads link u of.0 here) as (λ _. IsFarChain far u (x ∷ steps)) [
              | inl on ↦
                  let rest = path_is_chain steps link.to on.head on.there path.3 in
                  let first = subst (λ (y : PlainStep). IsLink token costs at u y on.head) path.2 on.by in
                  record { end = rest.end; ends = rest.ends; chain = (on.head, first, nearer_at k u there, rest.chain); reach = rest.reach }
              | inr end ↦
                  let none = end_stays link.to steps end.0 path.3 in
                  let first = subst (λ (y : PlainStep). IsLink token costs at u y end.1.head) path.2 end.1.link in
                  let one : IsFarChain far u (x ∷ []) =
                  record { end = end.1.head; ends = end.1.ends; chain = (end.1.head, first, end.1.near, refl); reach = end.1.reach } in
                  subst (λ (l : List PlainStep). IsFarChain far u (x ∷ l)) (sym none) one
            ]

        pub chain_is_path : HaveEndings token costs at c nodes endings → (steps : List PlainStep) (k : ℕ) (u : Configured) → slice_get nodes k ≡ Some u
            → IsFarChain far u steps → IsPath (length nodes) next k steps
        chain_is_path measured [] k u there h =
            absurd (end_not_nearer u (subst (λ (w : Configured). IsEnd token costs at c w) (sym h.chain) h.ends) (nearer_at k u there))
        chain_is_path measured (x ∷ []) k u there h =
            let ending = ending_of x k u there measured h in
            let link = ending_link (length nodes) ending.0 in
            let ends = filter (λ (e : PlainEnding). e.reach == far) endings in
            let passes = in_passes (λ (e : PlainEnding). e.reach == far) endings ending.0 (is_in ending.0 endings ending.1) (eq-eqb ending.0.reach far ending.4) in
            let m = in_right link links (map (ending_link (length nodes)) ends) (image_in (ending_link (length nodes)) ends ending.0 passes) in
            (link, at_link k link m ending.2, ending.3, refl)
        chain_is_path measured (x ∷ (y ∷ steps)) k u there h =
            let head = h.chain.0 in
            let number = number_of head h.chain.3.2 in
            let link = link_of k x number.0 in
            let m = in_left link links (map (ending_link (length nodes)) (filter (λ (e : PlainEnding). e.reach == far) endings))
            (is_in link links ((graph.exact link).1 (u, head, there, number.1, h.chain.1))) in
            let rest = chain_is_path measured (y ∷ steps) number.0 head number.1
            (record { end = h.end; ends = h.ends; chain = h.chain.3; reach = h.reach }) in
            (link, at_link k link m refl, refl, rest)
