-- How many rests of repairs there are.
use Rattle.std.specs.Prelude.{◌≡◌, ◌<◌, ◌≤◌, ◌==◌, ◌+◌, ◌-◌, ◌^◌, ◌++◌, ◌∷◌, ℕ, Bool, List, [], Option, Some, None, MatchOption, cond, is_some, length, min, nat_eq, slice_index_or}
use Rattle.std.specs.HashMap.{get}
use Rattle.std.specs.List.{Contains}
use Rattle.lrpar_parse_repair.specs.Sequences.{PlainStep}
use Rattle.lrpar_parse_cpctplus.specs.declared.form.Class.{Class}
use Rattle.lrpar_parse_cpctplus.specs.declared.form.Class.TheVariants.{Clean, Avoided, Any, Nothing}
use Rattle.lrpar_parse_cpctplus.specs.declared.form.Form.{Form}
use Rattle.lrpar_parse_cpctplus.specs.declared.layer.Counts.{Counts}
use Rattle.lrpar_parse_cpctplus.specs.declared.layer.Layer.{Layer}
use Rattle.lrpar_parse_cpctplus.specs.declared.layer.Numbers.{Numbers}

-- the number of a class
abbrev pub number_of : Numbers → Class → ℕ
number_of numbers Clean = numbers.clean
number_of numbers Avoided = numbers.avoided
number_of numbers Any = numbers.any
number_of numbers Nothing = 0

-- the number of a form
abbrev pub count_of : Counts → Form → ℕ
count_of counts form = number_of (cond form.deleted counts.after_delete counts.after_other) form.class

-- the number of rests with a form from a node; 0 for a node that the layer doesn't have
abbrev pub count_at : Option Counts → Form → ℕ
count_at None form = 0
count_at (Some counts) form = count_of counts form

abbrev pub count_in : Layer → Form → ℕ → ℕ
count_in layer form u = count_at (get nat_eq layer.counts u) form

-- whether the layer has the node
abbrev pub has_node : Layer → ℕ → Bool
has_node layer u = is_some (get nat_eq layer.counts u)

-- the layer gets one node more, with these numbers
pub record AddsNode (node : ℕ) (counts : Counts) (old new : Layer) : Type 0 where
  pub got : (u : ℕ) → get nat_eq new.counts u ≡ cond (node == u) (Some counts) (get nat_eq old.counts u)
  pub listed : new.nodes.items ≡ old.nodes.items ++ node ∷ []

-- the length of a list, or the greatest number of 64 bits if it is longer
abbrev pub counted : {A : Type 0} → List A → ℕ
counted xs = min (length xs) (2 ^ 64 - 1)

-- each form has this number of rests
abbrev pub AreCounts : (Form → List (List PlainStep)) → Counts → Type 0
AreCounts rests counts = (form : Form) → count_of counts form ≡ counted (rests form)

-- each class has this number of rests
abbrev pub AreNumbers : (Class → List (List PlainStep)) → Numbers → Type 0
AreNumbers rests numbers = (class : Class) → number_of numbers class ≡ counted (rests class)

-- the layer has the numbers of rests for each node from which some rest begins; `rests` gives the rests from a node
abbrev pub IsLayer : (Form → ℕ → List (List PlainStep)) → Layer → Type 0
IsLayer rests layer =
    (u : ℕ) → MatchOption (get nat_eq layer.counts u) ((form : Form) → rests form u ≡ [])
    (λ counts. AreCounts (λ form. rests form u) counts × Contains layer.nodes.items u)

-- the layer has the numbers of rests for some of the nodes from which a rest begins, and for no others
abbrev pub IsPartOfLayer : (Form → ℕ → List (List PlainStep)) → Layer → Type 0
IsPartOfLayer rests layer =
    (u : ℕ) → MatchOption (get nat_eq layer.counts u) (Unit {0}) (λ counts. AreCounts (λ form. rests form u) counts × Contains layer.nodes.items u)

-- one layer for each number of steps from 0 on; no more steps are left, or none up to `longest`
pub record AreLayers (rests : ℕ → Form → ℕ → List (List PlainStep)) (longest : ℕ) (layers : List Layer) : Type 0 where
  pub each : (s : ℕ) (d : Layer) → s < length layers → IsLayer (rests s) (slice_index_or layers s d)
  pub few : length layers ≤ longest + 1
  pub others : (s : ℕ) → length layers ≤ s → s ≤ longest → (form : Form) (u : ℕ) → rests s form u ≡ []
