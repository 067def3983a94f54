-- What is listed of the graph of a search, as contracts see it. `index` gives the number of a value of the storage type.
use Rattle.std.specs.Prelude.{◌≡◌, ◌+◌, ℕ, Bool, List, Vec, map}
use Rattle.lrpar_parse_repair.specs.PlainSteps.{plain_sequences}
use Rattle.lrpar_parse_repair.specs.Sequences.{PlainStep}
use Rattle.lrpar_parse_repair.specs.declared.repair_step.RepairStep.{RepairStep}
use Rattle.lrpar_parse_cpctplus.specs.LinkView.{plain_ending, plain_link}
use Rattle.lrpar_parse_cpctplus.specs.NodesView.{AddsFirst}
use Rattle.lrpar_parse_cpctplus.specs.Rests.{AreRanked, IsGroup, with_endings}
use Rattle.lrpar_parse_cpctplus.specs.declared.link.Link.{Link}
use Rattle.lrpar_parse_cpctplus.specs.declared.link.Linked.{Linked}
use Rattle.lrpar_parse_cpctplus.specs.declared.listing.Wanted.{Wanted}

-- the links, and as links to the end the last steps after which a parse goes on to this place
abbrev pub AreLinksToEnd : {S A : Type 0} → (S → ℕ) → Linked S → ℕ → Vec (Link S) A → Type 0
AreLinksToEnd index linked reach links =
    map (plain_link index) links.items
    ≡ with_endings linked.len reach (map (plain_link index) linked.links.items) (map (plain_ending index) linked.endings.items)

module _ {S : Type 0} (index : S → ℕ) (wanted : Wanted) (linked : Linked S) where
  -- the first ones of all groups, or those of the group of the furthest place alone
  abbrev pub AreRankedBy : {A B : Type 0} → Bool → Vec (Vec (RepairStep S) A) B → Type 0
  AreRankedBy lists_all repairs =
      AreRanked wanted.avoided.now linked.len (linked.len + 1) (map (plain_link index) linked.links.items) (map (plain_ending index) linked.endings.items)
      wanted.most lists_all (plain_sequences index repairs.items)

  -- the first ones of the group of this place are listed after those before
  abbrev pub AddsGroup : {A B : Type 0} → ℕ → Vec (Vec (RepairStep S) A) B → Vec (Vec (RepairStep S) A) B → Type 0
  AddsGroup reach old new =
      (group : List (List PlainStep))
      × IsGroup wanted.avoided.now linked.len (linked.len + 1) (map (plain_link index) linked.links.items) (map (plain_ending index) linked.endings.items) reach group
      × AddsFirst index wanted.most group old new
