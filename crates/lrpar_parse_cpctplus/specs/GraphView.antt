-- The graph of the program, as contracts see it; `index` is the number that a storage number represents.
use Rattle.std.specs.Prelude.{◌≡◌, ◌≢◌, ◌<◌, ◌≤◌, ◌⊎◌, ◌++◌, ℕ, List, [], ◌∷◌, length, map, slice_get, Some}
use Rattle.lrpar_table_rows.specs.Table.{Table}
use Rattle.lrpar_table_shared_stacks.specs.SharedStacks.{stack_at}
use Rattle.lrpar_table_stacks.specs.Stack.{IsStack}
use Rattle.lrpar_parse_repair.specs.PlainSteps.{plain_step}
use Rattle.lrpar_parse_repair.specs.declared.repair_step.RepairStep.{RepairStep}
use Rattle.lrpar_parse_cpctplus.specs.Configurations.{Configured}
use Rattle.lrpar_parse_cpctplus.specs.Graph.{PlainLink}
use Rattle.lrpar_parse_cpctplus.specs.LinkView.{plain_link}
use Rattle.lrpar_parse_cpctplus.specs.declared.graph.Configuration.{Configuration}
use Rattle.lrpar_parse_cpctplus.specs.declared.graph.Graph.{Graph}
use Rattle.lrpar_parse_cpctplus.specs.declared.link.Link.{Link}

-- the configuration with the stack of its number
abbrev pub configured_at : List (List ℕ) → Configuration → Configured
configured_at stacks key = record { stack = stack_at stacks key.stack; place = key.place }

-- configurations, each with the stack of its number
abbrev pub nodes_in : List (List ℕ) → List Configuration → List Configured
nodes_in stacks keys = map (configured_at stacks) keys

-- links by numbers
abbrev pub plain_links : {S : Type 0} → (S → ℕ) → List (Link S) → List PlainLink
plain_links index links = map (plain_link index) links

-- x has the number `to` in the list, or it is added as the last one
abbrev pub IsNumbered : {A : Type 0} → List A → A → ℕ → List A → Type 0
IsNumbered {A} old x to new =
    ((slice_get old to ≡ Some x) × (new ≡ old)) ⊎ ((to ≡ length old) × ((i : ℕ) → slice_get old i ≢ Some x) × (new ≡ old ++ x ∷ []))

-- x is added as the last one if its number isn't below the first one
abbrev pub IsKeptFrom : {A : Type 0} → ℕ → ℕ → List A → A → List A → Type 0
IsKeptFrom first to old x new = ((to < first) × (new ≡ old)) ⊎ ((first ≤ to) × (new ≡ old ++ x ∷ []))

-- a step leads from one configuration to another, which gets a number, and the link is kept if this isn't below the first one
pub record IsLinkedBy {S : Type 0} (index : S → ℕ) (first from : ℕ) (step : RepairStep S) (reached : Configuration) (old new : Graph S) : Type 0 where
  pub to : ℕ
  pub numbered : IsNumbered old.configurations.keys reached to new.configurations.keys
  pub kept : IsKeptFrom first to (plain_links index old.links.items) (record { from = from; step = plain_step index step; to = to })
      (plain_links index new.links.items)

-- the graph has this configuration alone, at the distance 0
pub record IsRootAlone {S : Type 0} (root : Configuration) (graph : Graph S) : Type 0 where
  pub configurations : graph.configurations.keys ≡ root ∷ []
  pub firsts : graph.firsts.items ≡ 0 ∷ []
  pub links : graph.links.items ≡ []

-- what is added from now on is further than all that is there
abbrev pub BeginsLevel : {S : Type 0} → Graph S → Graph S → Type 0
BeginsLevel old new = new.firsts.items ≡ old.firsts.items ++ length old.configurations.keys ∷ []

-- a configuration whose stack is one of the numbered ones, and a stack of the table, and whose place isn't past the last lexeme
pub record IsHeld (table : Table) (end : ℕ) (stacks : List (List ℕ)) (key : Configuration) : Type 0 where
  pub within : key.stack < length stacks
  pub stack : IsStack table (stack_at stacks key.stack)
  pub place : key.place ≤ end

-- each configuration has a stack of the table, one of the numbered ones, and a place that isn't past the last lexeme
abbrev pub AreHeld : Table → ℕ → List (List ℕ) → List Configuration → Type 0
AreHeld table end stacks keys = (i : ℕ) (key : Configuration) → slice_get keys i ≡ Some key → IsHeld table end stacks key
