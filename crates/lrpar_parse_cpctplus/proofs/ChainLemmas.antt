-- The repairs of least cost are the well-formed chains to ends. Of a repair of least cost each beginning is a cheapest sequence to
-- where it leads, so its steps are links; and a chain to an end works, costs what the end is far, and its last step is no Shift,
-- since a Shift costs nothing and the tail of the last link is nearer.
use Rattle.std.proofs.Common.{◌≡◌, ◌≢◌, ◌<◌, ◌≤◌, ◌+◌, ◌∙◌, inl, inr, ℕ, List, [], ◌∷◌, ◌++◌, refl, sym, subst, ap, arith}
use Rattle.std.proofs.lemmas.List.{append_assoc}
use Rattle.lrpar_parse_repair.specs.Asked.{Asked, IsStop}
use Rattle.lrpar_parse_repair.specs.Sequences.{PlainStep, PlainInsert, PlainDelete, PlainShift}
use Rattle.lrpar_table_stacks.specs.Run.{token_at}
use Rattle.lrpar_parse_cpctplus.specs.AnyForm.{WorksAt}
use Rattle.lrpar_parse_cpctplus.specs.LinkPaths.{IsLinkPath, IsPathToEnd, IsLink, RepairsArePaths}
use Rattle.lrpar_parse_cpctplus.specs.Cheapest.{IsLeastCost, RepairsAt, cost_of}
use Rattle.lrpar_parse_cpctplus.specs.Configurations.{Configured, GoesOnFrom, IsDistance, IsNearer, LeadTo, edge_cost, root_of}
use Rattle.lrpar_parse_cpctplus.specs.Costs.{AreCosts, steps_cost}
use Rattle.lrpar_parse_cpctplus.specs.Forms.{EndsIn}
use Rattle.lrpar_parse_cpctplus.proofs.AnyFormLemmas.{cost_no_less}
use Rattle.lrpar_parse_cpctplus.proofs.DistanceLemmas.{Runs, cheapest_are_links, configured, cost_first, cost_from, one_distance, root_distance, runs_nowhere, runs_on}
use Rattle.lrpar_parse_cpctplus.proofs.FormLemmas.{last_view, push_some}
use Rattle.lrpar_parse_cpctplus.proofs.LeadLemmas.{cost_append, cost_some, leads_works, place_past, works_leads}
use Rattle.lrpar_parse_cpctplus.proofs.PruneLemmas.{nothing_goes_on}

module _ {X : Type 0} (token : X → ℕ) (at : Asked X) where
  -- a sequence that leads to where a parse can go on works
  pub works_to : (steps : List PlainStep) (v : Configured) → LeadTo token at steps v → GoesOnFrom token at v → WorksAt token at steps
  works_to steps v a on =
      leads_works token at.checked.grammar at.checked.table at.lexemes at.shifts at.stack at.place steps a.0 v.stack v.place a.1 on

  -- and one that works leads there
  pub works_leads_to : (steps : List PlainStep) → WorksAt token at steps → (v : Configured) × LeadTo token at steps v × GoesOnFrom token at v
  works_leads_to steps h =
      let way = works_leads token at.checked.grammar at.checked.table at.lexemes at.shifts at.stack at.place steps h in
      (configured way.1 way.2, (way.0, way.3), way.4)

  -- at an error point a parse can't go on
  pub root_stops : IsStop token at → ¬ (GoesOnFrom token at (root_of at))
  root_stops stop on =
      nothing_goes_on token at.checked.grammar at.checked.table at.lexemes at.shifts at.stack at.place stop.shifts stop.fails on

  -- so the empty sequence doesn't work
  pub some_steps : IsStop token at → (steps : List PlainStep) → WorksAt token at steps → (p : List PlainStep) × (x : PlainStep) × (steps ≡ p ++ x ∷ [])
  some_steps stop steps h =
      elim (last_view steps) as (λ _. (p : List PlainStep) × (x : PlainStep) × (steps ≡ p ++ x ∷ [])) [
        | inl none ↦ absurd (root_stops stop (subst (λ (l : List PlainStep). WorksAt token at l) none h))
        | inr v ↦ v
      ]

module _ {X : Type 0} (token : X → ℕ) (costs : List ℕ) (at : Asked X) where
  -- no sequence that works costs less than c
  abbrev pub CostAtLeast : ℕ → Type 0
  CostAtLeast c = (steps : List PlainStep) → WorksAt token at steps → c ≤ cost_of token costs at steps

  pub least_cost : (c : ℕ) → IsLeastCost token costs at c → CostAtLeast c
  least_cost c least = cost_no_less token costs at c least

  -- then a parse can't go on from what is nearer than c
  pub nearer_stops : (c : ℕ) (v : Configured) → CostAtLeast c → IsNearer token costs at c v → ¬ (GoesOnFrom token at v)
  nearer_stops c v least near on = omega (arith, least near.0 (works_to token at near.0 v near.1 on), near.2)

  -- and a sequence that works and costs c is a cheapest one to where it leads
  pub works_far : (c : ℕ) (steps : List PlainStep) (v : Configured) → CostAtLeast c → LeadTo token at steps v → GoesOnFrom token at v
      → cost_of token costs at steps ≡ c → IsDistance token costs at v c
  works_far c steps v least a on e = record { some = (steps, a, e); none = λ q there. least q (works_to token at q v there on) }

  -- each step but a Shift costs something
  pub moves_cost : AreCosts costs → (u : Configured) (x : PlainStep) → x ≢ PlainShift → 0 < edge_cost token costs at u x
  moves_cost each u (PlainInsert t) other = (each t).0
  moves_cost each u PlainDelete other = (each (token_at token at.checked.grammar at.lexemes u.place)).0
  moves_cost each u PlainShift other = absurd (other refl)

  -- if the last step of a sequence is no Shift, each shorter beginning costs less
  pub beginnings_cost_less : AreCosts costs → (steps : List PlainStep) → ¬ (EndsIn steps (PlainShift ∷ []))
      → (before : List PlainStep) (x : PlainStep) (after : List PlainStep) → steps ≡ before ++ x ∷ after
      → cost_of token costs at before < cost_of token costs at steps
  beginnings_cost_less each steps last before x after e =
      let g = at.checked.grammar in
      let i = place_past at.place before in
      elim (last_view (x ∷ after)) as (λ _. cost_of token costs at before < cost_of token costs at steps) [
        | inl none ↦ absurd (push_some [] x after (sym none))
        | inr v ↦
            let other : ¬ (v.1 ≡ PlainShift) = λ shift.
            last (
              before ++ v.0,
              e ∙ ap (λ (l : List PlainStep). before ++ l) v.2 ∙ sym (append_assoc before v.0 (v.1 ∷ []))
                  ∙ ap (λ (y : PlainStep). (before ++ v.0) ++ y ∷ []) shift,
            ) in
            let some = cost_some token g at.lexemes costs (λ t. (each t).0) i v.0 v.1 other in
            let sum = cost_append token g at.lexemes costs at.place before (x ∷ after) in
            let part : steps_cost token g at.lexemes costs i (x ∷ after) ≡ steps_cost token g at.lexemes costs i (v.0 ++ v.1 ∷ []) =
            ap (λ (l : List PlainStep). steps_cost token g at.lexemes costs i l) v.2 in
            let whole : cost_of token costs at steps ≡ cost_of token costs at (before ++ x ∷ after) =
            ap (λ (l : List PlainStep). cost_of token costs at l) e in
            omega (arith, some, sum, part, whole)
      ]

  -- the last link of a chain
  pub chain_last : (c : ℕ) (u v : Configured) (p : List PlainStep) (x : PlainStep) → IsLinkPath token costs at c u (p ++ x ∷ []) v
      → (w : Configured) × IsLink token costs at w x v × IsNearer token costs at c w × IsLinkPath token costs at c u p w
  chain_last c u v [] x h = (u, subst (λ (w : Configured). IsLink token costs at u x w) h.3 h.1, h.2, refl)
  chain_last c u v (y ∷ p) x h =
      let more = chain_last c h.0 v p x h.3 in
      (more.0, more.1, more.2, (h.0, h.1, h.2, more.3))

  -- its steps lead from one configuration to the other, and make up the difference of the distances
  pub chain_runs : (c : ℕ) (u v : Configured) (steps : List PlainStep) → IsLinkPath token costs at c u steps v → Runs token at u steps v
  chain_runs c u v [] e = subst (λ (w : Configured). Runs token at u [] w) e (runs_nowhere token at u)
  chain_runs c u v (x ∷ steps) h = runs_on token at u h.0 v x steps h.1.edge (chain_runs c h.0 v steps h.3)

  pub chain_far : (c : ℕ) (u v : Configured) (steps : List PlainStep) (d : ℕ) → IsDistance token costs at u d → IsLinkPath token costs at c u steps v
      → IsDistance token costs at v (d + cost_from token costs at u steps)
  chain_far c u v [] d far e =
      let sum : d ≡ d + 0 = omega arith in
      subst (λ (w : Configured). IsDistance token costs at w (d + 0)) e (subst (λ (n : ℕ). IsDistance token costs at u n) sum far)
  chain_far c u v (x ∷ steps) d far h =
      let link = h.1 in
      let same = one_distance token costs at u link.distance d link.tail far in
      let next = subst (λ (n : ℕ). IsDistance token costs at h.0 (n + edge_cost token costs at u x)) same link.head in
      let rest = chain_far c h.0 v steps (d + edge_cost token costs at u x) next h.3 in
      let first = cost_first token costs at u h.0 x steps link.edge in
      let sum : d + edge_cost token costs at u x + cost_from token costs at h.0 steps ≡ d + cost_from token costs at u (x ∷ steps) =
      omega (arith, first) in
      subst (λ (n : ℕ). IsDistance token costs at v n) sum rest

  -- a link from what is nearer is no Shift
  pub near_link_moves : (c : ℕ) (u v : Configured) (x : PlainStep) → IsLink token costs at u x v → IsDistance token costs at v c
      → IsNearer token costs at c u → x ≢ PlainShift
  near_link_moves c u v x link far near shift =
      let head = subst (λ (y : PlainStep). IsDistance token costs at v (link.distance + edge_cost token costs at u y)) shift link.head in
      omega (arith, one_distance token costs at v (link.distance + 0) c head far, link.tail.none near.0 near.1, near.2)

  -- a repair of least cost is a chain
  pub repair_is_chain : (c : ℕ) → IsStop token at → AreCosts costs → CostAtLeast c → (steps : List PlainStep) → RepairsAt token costs at c steps
      → IsPathToEnd token costs at c steps
  repair_is_chain c stop each least steps h =
      let root = root_of at in
      let repair = h.0 in
      let way = works_leads_to token at steps repair.works in
      let v = way.0 in
      let far = works_far c steps v least way.1 way.2 h.1 in
      let early : (before : List PlainStep) (x : PlainStep) (after : List PlainStep) → steps ≡ before ++ x ∷ after → cost_of token costs at before < c =
      λ before x after e. omega (arith, beginnings_cost_less each steps repair.printed.last before x after e, h.1) in
      let chain = cheapest_are_links token costs at c root v [] steps (runs_nowhere token at root) way.1
      (subst (λ (n : ℕ). IsDistance token costs at v n) (sym h.1) far) early in
      let some = some_steps token at stop steps repair.works in
      let last = chain_last c root v some.0 some.1 (subst (λ (l : List PlainStep). IsLinkPath token costs at c root l v) some.2 chain) in
      record {
        formed = repair.printed.formed;
        end = v;
        ends = record { distance = far; goes_on = way.2; link = (last.0, some.1, last.1, last.2) };
        chain = chain;
      }

  -- and a chain to an end is a repair
  pub chain_is_repair : (c : ℕ) (steps : List PlainStep) → IsPathToEnd token costs at c steps → RepairsAt token costs at c steps
  chain_is_repair c steps h =
      let root = root_of at in
      let run = chain_runs c root h.end steps h.chain in
      let far = chain_far c root h.end steps 0 (root_distance token costs at) h.chain in
      let sum = one_distance token costs at h.end (0 + cost_from token costs at root steps) c far h.ends.distance in (
        record {
          printed = record {
            formed = h.formed;
            last = λ shift.
                let back = chain_last c root h.end shift.0 PlainShift (subst (λ (l : List PlainStep). IsLinkPath token costs at c root l h.end) shift.1 h.chain) in
                near_link_moves c back.0 h.end PlainShift back.1 h.ends.distance back.2 refl;
          };
          works = works_to token at steps h.end run h.ends.goes_on;
        },
        omega (arith, sum),
      )

pub repairs_are_chains : {X : Type 0} → RepairsArePaths X
repairs_are_chains token costs at c stop each least steps = (
  repair_is_chain token costs at c stop each (least_cost token costs at c least) steps,
  chain_is_repair token costs at c steps,
)
