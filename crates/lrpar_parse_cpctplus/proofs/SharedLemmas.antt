-- A graph over stacks that are added: the engine's moves add stacks, and a step from a configuration by its numbers is one from what they mean.
use Rattle.std.proofs.Common.{◌≡◌, ◌-◌, ◌∙◌, ℕ, Bool, true, false, List, [], ◌∷◌, ◌++◌, Option, Some, None, length, slice_get, sym, subst, ap, arith, append-nil, append_assoc}
use Rattle.std.proofs.lemmas.List.{length_push}
use Rattle.lrpar_grammar.specs.Grammar.{Grammar}
use Rattle.lrpar_table_rows.specs.Table.{Table}
use Rattle.lrpar_table_shared_stacks.specs.SharedStacks.{AreApart, Extends, Shared, current_stack, stack_at}
use Rattle.lrpar_table_stacks.specs.Stack.{IsStack}
use Rattle.lrpar_parse_repair.specs.Asked.{Asked}
use Rattle.lrpar_parse_repair.specs.Moves.{IsMovedBy, IsMovedWithin, stays, reduced_first, shifted_first}
use Rattle.lrpar_parse_repair.specs.Sequences.{PlainStep, IsStepTaken}
use Rattle.lrpar_parse_cpctplus.specs.Configurations.{Configured, IsEdge}
use Rattle.lrpar_parse_cpctplus.specs.Graph.{PlainLink}
use Rattle.lrpar_parse_cpctplus.specs.GraphView.{AreHeld, IsHeld, IsKeptFrom, IsNumbered, configured_at, nodes_in}
use Rattle.lrpar_parse_cpctplus.specs.SearchRound.{Grows, IsDue, IsGrowing, IsThis}
use Rattle.lrpar_parse_cpctplus.specs.declared.graph.Configuration.{Configuration}
use Rattle.lrpar_parse_cpctplus.proofs.DistanceLemmas.{configured}
use Rattle.lrpar_parse_cpctplus.proofs.GrowLemmas.{grows_linked, grows_stopped, link_with, one_at}
use Rattle.lrpar_parse_cpctplus.proofs.HeldLemmas.{at_node, nodes_numbered, nodes_stay}

-- nothing is added, and what is added is added to
pub extends_none : (s : Shared) → Extends s s
extends_none s = ([], sym (append-nil s.stacks))

pub extends_same : (old mid new : Shared) → mid.stacks ≡ old.stacks → Extends mid new → Extends old new
extends_same old mid new same more = (more.0, more.1 ∙ ap (λ (s : List (List ℕ)). s ++ more.0) same)

pub extends_both : (old mid new : Shared) → Extends old mid → Extends mid new → Extends old new
extends_both old mid new one two = (
  one.0 ++ two.0,
  two.1 ∙ ap (λ (s : List (List ℕ)). s ++ two.0) one.1 ∙ append_assoc old.stacks one.0 two.0,
)

-- so do the moves of an engine
moves_extend : (states : Shared → List ℕ) (g : Grammar) (table : Table) (n : ℕ) (old new : Shared)
    → IsMovedBy states (λ x p r k y. Extends x y) Extends g table n old new → Extends old new
moves_extend states g table _ _ _ (stays x) = extends_none x
moves_extend states g table _ _ _ (reduced_first n x y z t p first rest) = extends_both x y z first.of_rest (moves_extend states g table n y z rest)
moves_extend states g table _ _ _ (shifted_first n x y z t first rest) = extends_both x y z first.of_rest (moves_extend states g table n y z rest)

pub moved_extends : (states : Shared → List ℕ) (g : Grammar) (table : Table) (cap tokens : ℕ) (old new : Shared)
    → IsMovedWithin states (λ x p r k y. Extends x y) Extends g table cap tokens old new → Extends old new
moved_extends states g table cap tokens old new moved = moves_extend states g table moved.count old new moved.moved

-- a level begins: the cost of what is added
pub level_cost : (firsts : List ℕ) (count : ℕ) → length (firsts ++ count ∷ []) - 1 ≡ length firsts
level_cost firsts count = omega (arith, length_push firsts count)

-- what becomes the current stack is a stack of the table
pub gone_stack : (table : Table) (old new : Shared) (n : ℕ) → current_stack new ≡ stack_at old.stacks n → IsStack table (stack_at old.stacks n)
    → IsStack table (current_stack new)
gone_stack table old new n is stack = subst (IsStack table) (sym is) stack

-- a step was taken from the stack with a number, or can't be
module _ {X : Type 0} (token : X → ℕ) (at : Asked X) (old mid new : Shared) (n i : ℕ) (step : PlainStep) (o : Option ℕ)
    (is : current_stack mid ≡ stack_at old.stacks n)
    (taken : IsStepTaken token at.checked.grammar at.checked.table at.lexemes (current_stack mid) i step (current_stack new) o) where
  from_there : IsStepTaken token at.checked.grammar at.checked.table at.lexemes (stack_at old.stacks n) i step (current_stack new) o
  from_there = subst (λ (st : List ℕ). IsStepTaken token at.checked.grammar at.checked.table at.lexemes st i step (current_stack new) o) is taken

  pub leads_some : (j : ℕ) → o ≡ Some j → IsEdge token at (configured (stack_at old.stacks n) i) step (configured (current_stack new) j)
  leads_some j some =
      subst (λ (p : Option ℕ). IsStepTaken token at.checked.grammar at.checked.table at.lexemes (stack_at old.stacks n) i step (current_stack new) p) some from_there

  pub leads_none : o ≡ None → (v : Configured) → ¬ (IsEdge token at (configured (stack_at old.stacks n) i) step v)
  leads_none none v edge =
      let stopped =
      subst (λ (p : Option ℕ). IsStepTaken token at.checked.grammar at.checked.table at.lexemes (stack_at old.stacks n) i step (current_stack new) p) none from_there in
      stopped edge.0 v.stack v.place edge.1

module _ {X : Type 0} (token : X → ℕ) (costs : List ℕ) (at : Asked X) (first c : ℕ) (old new : Shared) (extends : Extends old new)
    (keys : List Configuration) (held : AreHeld at.checked.table (length at.lexemes) old.stacks keys) (links : List PlainLink)
    (growing : IsGrowing token costs at first c (nodes_in old.stacks keys) links) (from : ℕ) (key : Configuration) (step : PlainStep)
    (is : slice_get keys from ≡ Some key) (due : IsDue token costs at first c (nodes_in old.stacks keys) links from step) where
  same_nodes : nodes_in new.stacks keys ≡ nodes_in old.stacks keys
  same_nodes = nodes_stay at.checked.table (length at.lexemes) old new extends keys held

  tail : configured_at old.stacks key ≡ due.tail
  tail = one_at (nodes_in old.stacks keys) from (configured_at old.stacks key) due.tail (at_node old.stacks keys from key is) due.at_from

  -- the step can't be taken
  pub step_stopped : ((v : Configured) → ¬ (IsEdge token at (configured_at old.stacks key) step v))
      → Grows token costs at first c (IsThis from step) (nodes_in old.stacks keys) links (nodes_in new.stacks keys) links
  step_stopped none =
      let stopped =
      grows_stopped token costs at first c (nodes_in old.stacks keys) links growing from step due (λ v edge.
      none v (subst (λ (u : Configured). IsEdge token at u step v) (sym tail) edge)) in
      subst (λ (l : List Configured). Grows token costs at first c (IsThis from step) (nodes_in old.stacks keys) links l links) (sym same_nodes) stopped

  -- it leads to what is numbered
  pub step_linked : (reached : Configuration) → IsEdge token at (configured_at old.stacks key) step (configured_at new.stacks reached) → AreApart new.stacks
      → IsHeld at.checked.table (length at.lexemes) new.stacks reached → AreHeld at.checked.table (length at.lexemes) new.stacks keys
      → (to : ℕ) (new_keys : List Configuration) (new_links : List PlainLink) → IsNumbered keys reached to new_keys
      → IsKeptFrom first to links (link_with from step to) new_links
      → Grows token costs at first c (IsThis from step) (nodes_in old.stacks keys) links (nodes_in new.stacks new_keys) new_links
  step_linked reached edge apart one all to new_keys new_links numbered kept =
      let v = configured_at new.stacks reached in
      let placed = nodes_numbered at.checked.table (length at.lexemes) new.stacks keys new_keys reached to apart all one numbered in
      let here = subst (λ (l : List Configured). IsNumbered l v to (nodes_in new.stacks new_keys)) same_nodes placed in
      grows_linked token costs at first c (nodes_in old.stacks keys) links growing from step due v
      (subst (λ (u : Configured). IsEdge token at u step v) tail edge) to (nodes_in new.stacks new_keys) new_links here kept

-- what holds of an answer, by cases
pub either_way : (P Q : Bool → Type 0) → (P true → Q true) → (P false → Q false) → (b : Bool) → P b → Q b
either_way P Q good bad true h = good h
either_way P Q good bad false h = bad h
