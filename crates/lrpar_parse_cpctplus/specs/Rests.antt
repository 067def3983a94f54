-- The rests of repairs in a graph by numbers: what leads from a node to the end of all repairs.
use Rattle.std.specs.Prelude.{◌≡◌, ◌≢◌, ◌<◌, ◌≤◌, ◌==◌, ◌&&◌, ◌↔◌, ◌⊎◌, ◌-◌, ℕ, zero, suc, Bool, true, false, List, [], ◌∷◌, ◌++◌, cond, length, map, take}
use Rattle.std.specs.List.{AllPairs, Contains, filter, flat_map}
use Rattle.lrpar_parse_repair.specs.Sequences.{PlainStep}
use Rattle.lrpar_parse_cpctplus.specs.Forming.{allows_none, form_after, form_of}
use Rattle.lrpar_parse_cpctplus.specs.Graph.{PlainEnding, PlainLink}
use Rattle.lrpar_parse_cpctplus.specs.Order.{IsStepBefore}
use Rattle.lrpar_parse_cpctplus.specs.declared.form.Class.{Class}
use Rattle.lrpar_parse_cpctplus.specs.declared.form.Class.TheVariants.{Clean, Avoided}
use Rattle.lrpar_parse_cpctplus.specs.declared.form.Form.{Form}

module _ (avoided : List Bool) (end : ℕ) (next : ℕ → List PlainLink) where
  -- the rests of s steps from node u that have the form, in order
  abbrev pub rests : ℕ → Form → ℕ → List (List PlainStep)
  rests zero form u = cond ((u == end) && allows_none form.class) ([] ∷ []) []
  rests (suc s) form u = flat_map (λ link. map (λ steps. link.step ∷ steps) (rests s (form_after avoided form link.step) link.to)) (next u)

  -- the rests of a class with fewer than n steps from the error point, those of fewer steps first
  abbrev pub shorter : Class → ℕ → List (List PlainStep)
  shorter class zero = []
  shorter class (suc n) = shorter class n ++ rests n (form_of class false) 0

  -- all repairs with fewer than n steps, first those that insert no token to be avoided
  abbrev pub in_order : ℕ → List (List PlainStep)
  in_order n = shorter Clean n ++ shorter Avoided n

-- a last step, as a link to the end
abbrev pub ending_link : ℕ → PlainEnding → PlainLink
ending_link end ending = record { from = ending.from; step = ending.step; to = end }

-- the links with the last steps after which a parse goes on to this place
abbrev pub with_endings : ℕ → ℕ → List PlainLink → List PlainEnding → List PlainLink
with_endings end reach links endings = links ++ map (ending_link end) (filter (λ ending. ending.reach == reach) endings)

-- two links from one node have different steps
abbrev pub DifferInSteps : List PlainLink → Type 0
DifferInSteps links = AllPairs (λ one other. one.from ≡ other.from → one.step ≢ other.step) links

-- these are the links from each node, in the order of their steps
pub record AreByNodes (links : List PlainLink) (next : ℕ → List PlainLink) : Type 0 where
  pub exact : (u : ℕ) (link : PlainLink) → Contains (next u) link ↔ (Contains links link × (link.from ≡ u))
  pub rising : DifferInSteps links → (u : ℕ) → AllPairs (λ one other. IsStepBefore one.step other.step) (next u)

-- the earlier elements, and then the first ones of xs, up to `most` in all
abbrev pub added_first : {A : Type 0} → ℕ → List A → List A → List A
added_first most before xs = before ++ take (most - length before) xs

-- the repairs of fewer than n steps after which a parse goes on to this place, in order
abbrev pub IsGroup : List Bool → ℕ → ℕ → List PlainLink → List PlainEnding → ℕ → List (List PlainStep) → Type 0
IsGroup avoided end n links endings reach repairs =
    (next : ℕ → List PlainLink) × AreByNodes (with_endings end reach links endings) next × (repairs ≡ in_order avoided end next n)

-- the groups of the places below `high`, down to this one, those of further places first
pub data AreGroups (avoided : List Bool) (end n : ℕ) (links : List PlainLink) (endings : List PlainEnding) (high : ℕ) : ℕ → List (List PlainStep) → Type 0 where
  no_place : AreGroups avoided end n links endings high high []
  no_ending : (reach : ℕ) (repairs : List (List PlainStep)) → ((ending : PlainEnding) → Contains endings ending → ending.reach ≢ reach)
      → AreGroups avoided end n links endings high (suc reach) repairs → AreGroups avoided end n links endings high reach repairs
  one_group : (reach : ℕ) (group repairs : List (List PlainStep)) → IsGroup avoided end n links endings reach group
      → AreGroups avoided end n links endings high (suc reach) repairs → AreGroups avoided end n links endings high reach (repairs ++ group)

-- this is the furthest place of an ending
pub record IsFurthest (endings : List PlainEnding) (reach : ℕ) : Type 0 where
  pub some : (ending : PlainEnding) × Contains endings ending × (ending.reach ≡ reach)
  pub none : (ending : PlainEnding) → Contains endings ending → ending.reach ≤ reach

-- the first repairs of the groups, up to `most`; or only those of the group of the furthest place
pub data AreRanked (avoided : List Bool) (end n : ℕ) (links : List PlainLink) (endings : List PlainEnding) (most : ℕ) : Bool → List (List PlainStep) → Type 0 where
  of_places : (high low : ℕ) (repairs : List (List PlainStep)) → ((ending : PlainEnding) → Contains endings ending → ending.reach < high)
      → AreGroups avoided end n links endings high low repairs → (low ≡ 0) ⊎ (most ≤ length repairs)
      → AreRanked avoided end n links endings most true (take most repairs)
  of_furthest : (reach : ℕ) (repairs : List (List PlainStep)) → IsFurthest endings reach → IsGroup avoided end n links endings reach repairs
      → AreRanked avoided end n links endings most false (take most repairs)
  of_none : ((ending : PlainEnding) → ¬ (Contains endings ending)) → AreRanked avoided end n links endings most false []
