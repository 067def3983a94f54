-- The nodes of the program as the definitions see them, and what is counted and listed of them. `index` gives the number of a value of the
-- storage type.
use Rattle.std.specs.Prelude.{◌≡◌, ◌<◌, ◌≤◌, ◌+◌, ℕ, suc, Bool, false, IsTrue, List, [], MatchOption, Option, Some, None, Vec, length, map, slice_get, slice_index_or}
use Rattle.std.specs.List.{Contains}
use Rattle.std.specs.declared.alloc.Global.{Global}
use Rattle.lrpar_parse_repair.specs.PlainSteps.{plain_sequences, plain_steps}
use Rattle.lrpar_parse_repair.specs.Sequences.{PlainStep}
use Rattle.lrpar_parse_repair.specs.declared.repair_step.RepairStep.{RepairStep}
use Rattle.lrpar_parse_cpctplus.specs.Chosen.{IsChoice}
use Rattle.lrpar_parse_cpctplus.specs.Counted.{AreCounts, AreLayers, AreNumbers, IsLayer, IsPartOfLayer, counted, has_node}
use Rattle.lrpar_parse_cpctplus.specs.Forming.{form_of}
use Rattle.lrpar_parse_cpctplus.specs.Graph.{PlainLink}
use Rattle.lrpar_parse_cpctplus.specs.LinkView.{plain_link}
use Rattle.lrpar_parse_cpctplus.specs.Rests.{AreByNodes, added_first, in_order, rests, shorter}
use Rattle.lrpar_parse_cpctplus.specs.declared.form.Class.{Class}
use Rattle.lrpar_parse_cpctplus.specs.declared.form.Form.{Form}
use Rattle.lrpar_parse_cpctplus.specs.declared.layer.Counts.{Counts}
use Rattle.lrpar_parse_cpctplus.specs.declared.layer.Layer.{Layer}
use Rattle.lrpar_parse_cpctplus.specs.declared.layer.Numbers.{Numbers}
use Rattle.lrpar_parse_cpctplus.specs.declared.link.Link.{Link}
use Rattle.lrpar_parse_cpctplus.specs.declared.listing.Choice.{Choice}
use Rattle.lrpar_parse_cpctplus.specs.declared.nodes.Nodes.{Nodes}

-- the elements of a row; none past the rows
abbrev pub row_of : {A : Type 0} → Option (Vec A Global) → List A
row_of None = []
row_of (Some row) = row.items

-- the first ones of the sequences were appended to those that are listed, up to `most` in all
abbrev pub AddsFirst : {S A B : Type 0} → (S → ℕ) → ℕ → List (List PlainStep) → Vec (Vec (RepairStep S) A) B → Vec (Vec (RepairStep S) A) B → Type 0
AddsFirst index most sequences old new = plain_sequences index new.items ≡ added_first most (plain_sequences index old.items) sequences

module _ {S : Type 0} (index : S → ℕ) (nodes : Nodes S) where
  -- the links from a node
  abbrev pub links_of : ℕ → List PlainLink
  links_of u = map (plain_link index) (row_of (slice_get nodes.out.items u))

  -- the rests of s steps with the form from a node
  abbrev pub rests_of : ℕ → Form → ℕ → List (List PlainStep)
  rests_of s form u = rests nodes.avoided.now nodes.end links_of s form u

  -- the repairs of a class and a number of steps
  abbrev pub repairs_of : Class → ℕ → List (List PlainStep)
  repairs_of class steps = rests_of steps (form_of class false) 0

  -- from where links lead to a node
  abbrev pub sources_of : ℕ → List ℕ
  sources_of u = row_of (slice_get nodes.into.items u)

  -- each link is noted at the node to which it leads
  abbrev pub LeadBack : Type 0
  LeadBack = (u : ℕ) (link : PlainLink) → Contains (links_of u) link → Contains (sources_of link.to) u

  -- one layer for each number of steps from 0 on
  abbrev pub AreLayersOf : List Layer → Type 0
  AreLayersOf layers = (s : ℕ) (d : Layer) → s < length layers → IsLayer (rests_of s) (slice_index_or layers s d)

  -- one layer for each number of steps from 0 on; no more steps are left, or none up to the number of nodes
  abbrev pub AreAllLayers : List Layer → Type 0
  AreAllLayers layers = AreLayers rests_of nodes.end layers

  -- the layer of one step more
  abbrev pub IsNextLayer : Layer → Layer → Type 0
  IsNextLayer layer next = (s : ℕ) → IsLayer (rests_of s) layer → IsLayer (rests_of (suc s)) next

  -- the numbers of a node in the layer of one step more
  abbrev pub AreNextCounts : Layer → ℕ → Counts → Type 0
  AreNextCounts layer node counts = (s : ℕ) → IsLayer (rests_of s) layer → AreCounts (λ form. rests_of (suc s) form node) counts

  -- the numbers of the node in the layer of one step more, after a Delete or after another step
  abbrev pub AreNextNumbers : Layer → ℕ → Bool → Numbers → Type 0
  AreNextNumbers layer node deleted numbers =
      (s : ℕ) → IsLayer (rests_of s) layer → AreNumbers (λ class. rests_of (suc s) (form_of class deleted) node) numbers

  -- the number of the node in the layer of one step more, for one form
  abbrev pub IsNextNumber : Layer → ℕ → Form → ℕ → Type 0
  IsNextNumber layer node form number = (s : ℕ) → IsLayer (rests_of s) layer → number ≡ counted (rests_of (suc s) form node)

  -- a part of that layer gets these nodes, and keeps those that it has
  pub record AddsSources (layer : Layer) (sources : List ℕ) (old new : Layer) : Type 0 where
    pub part : (s : ℕ) → IsLayer (rests_of s) layer → IsPartOfLayer (rests_of (suc s)) old → IsPartOfLayer (rests_of (suc s)) new
    pub there : (u : ℕ) → Contains sources u → IsTrue (has_node new u)
    pub stay : (u : ℕ) → IsTrue (has_node old u) → IsTrue (has_node new u)

  -- a part of the layer of one step more gets the nodes from which links lead to a node, and keeps those that it has
  abbrev pub AddsSourcesOf : Layer → ℕ → Layer → Layer → Type 0
  AddsSourcesOf layer node old new = AddsSources layer (sources_of node) old new

  -- the first step of the rest at this index among the rests of one step more; none if there are no more than `place` of these
  abbrev pub IsChosen : Layer → ℕ → Form → ℕ → Option (Choice S) → Type 0
  IsChosen layer node form place chosen =
      (s : ℕ) → IsLayer (rests_of s) layer
      → MatchOption chosen (length (rests_of (suc s) form node) ≤ place) (IsChoice index (rests_of s) (rests_of (suc s) form node) place)

  -- the repair at this index among those of a class and a number of steps
  abbrev pub IsRepairAt : {A : Type 0} → Class → ℕ → ℕ → Vec (RepairStep S) A → Type 0
  IsRepairAt class steps place repair = (d : List PlainStep) → slice_index_or (repairs_of class steps) place d ≡ plain_steps index repair.items

  -- the first ones of a class and a number of steps are listed
  abbrev pub AddsLength : {A B : Type 0} → Class → ℕ → ℕ → Vec (Vec (RepairStep S) A) B → Vec (Vec (RepairStep S) A) B → Type 0
  AddsLength class steps most old new = AddsFirst index most (repairs_of class steps) old new

  -- the first ones of a class with fewer than n steps are listed
  abbrev pub AddsClass : {A B : Type 0} → Class → ℕ → ℕ → Vec (Vec (RepairStep S) A) B → Vec (Vec (RepairStep S) A) B → Type 0
  AddsClass class n most old new = AddsFirst index most (shorter nodes.avoided.now nodes.end links_of class n) old new

  -- the first ones of all repairs are listed
  abbrev pub AddsRepairs : {A B : Type 0} → ℕ → Vec (Vec (RepairStep S) A) B → Vec (Vec (RepairStep S) A) B → Type 0
  AddsRepairs most old new = AddsFirst index most (in_order nodes.avoided.now nodes.end links_of (nodes.end + 1)) old new

-- the nodes up to `end`, with these links between them
pub record AreNodesOf {S : Type 0} (index : S → ℕ) (avoided : List Bool) (end : ℕ) (links : List (Link S)) (nodes : Nodes S) : Type 0 where
  pub avoids : nodes.avoided.now ≡ avoided
  pub ends : nodes.end ≡ end
  pub by_nodes : AreByNodes (map (plain_link index) links) (links_of index nodes)
  pub back : LeadBack index nodes
