-- The graph that a search keeps, by numbers: the configurations that are nearer than c and the links between them, and the last steps
-- of the repairs that cost c.
use Rattle.std.specs.Prelude.{◌≡◌, ◌≢◌, ◌+◌, ◌↔◌, ℕ, List, slice_get, Some}
use Rattle.std.specs.List.{AllPairs, Contains}
use Rattle.lrpar_parse_repair.specs.Asked.{Asked}
use Rattle.lrpar_parse_repair.specs.Sequences.{PlainStep}
use Rattle.lrpar_parse_cpctplus.specs.LinkPaths.{IsLastStep, IsLink}
use Rattle.lrpar_parse_cpctplus.specs.Configurations.{Configured, IsNearer, root_of}
use Rattle.lrpar_parse_cpctplus.specs.Reaching.{Reaches}

-- a link from one configuration to another, by their numbers
pub record PlainLink : Type 0 where
  pub from : ℕ
  pub step : PlainStep
  pub to : ℕ

-- a last step of repairs: from the configuration with a number, and how far a parse goes on after it
pub record PlainEnding : Type 0 where
  pub reach : ℕ
  pub from : ℕ
  pub step : PlainStep

module _ {X : Type 0} (token : X → ℕ) (costs : List ℕ) (at : Asked X) (c : ℕ) where
  -- these are the configurations that are nearer than c, each of them once, and the first one is that of the error point
  pub record AreNearer (nodes : List Configured) : Type 0 where
    pub first : slice_get nodes 0 ≡ Some (root_of at)
    pub exact : (v : Configured) → Contains nodes v ↔ IsNearer token costs at c v
    pub once : AllPairs (λ u v. u ≢ v) nodes

  -- the link is one between two of the configurations
  abbrev pub IsLinkAmong : List Configured → PlainLink → Type 0
  IsLinkAmong nodes link =
      (u v : Configured) × (slice_get nodes link.from ≡ Some u) × (slice_get nodes link.to ≡ Some v) × IsLink token costs at u link.step v

  -- the step is a last step of repairs that cost c, from one of the configurations
  abbrev pub IsEndingAmong : List Configured → PlainEnding → Type 0
  IsEndingAmong nodes ending =
      (u v : Configured) × (slice_get nodes ending.from ≡ Some u) × IsLastStep token costs at c u ending.step v
      × Reaches token at.checked.grammar at.checked.table at.lexemes (at.place + 250) v.stack v.place ending.reach

  -- the graph of all that is nearer than c: its configurations, and each link between them once
  pub record IsGraph (nodes : List Configured) (links : List PlainLink) : Type 0 where
    pub nearer : AreNearer nodes
    pub exact : (link : PlainLink) → Contains links link ↔ IsLinkAmong nodes link
    pub once : AllPairs (λ one other. one ≢ other) links

  -- each last step at c once, as many as lead from these configurations
  pub record AreEndings (nodes : List Configured) (endings : List PlainEnding) : Type 0 where
    pub exact : (ending : PlainEnding) → Contains endings ending ↔ IsEndingAmong nodes ending
    pub once : AllPairs (λ one other. one ≢ other) endings

  -- each last step from one of the configurations is that of an ending
  abbrev pub HaveEndings : List Configured → List PlainEnding → Type 0
  HaveEndings nodes endings =
      (k : ℕ) (u : Configured) (step : PlainStep) (v : Configured) → slice_get nodes k ≡ Some u → IsLastStep token costs at c u step v
      → (ending : PlainEnding) × Contains endings ending × (ending.from ≡ k) × (ending.step ≡ step)
