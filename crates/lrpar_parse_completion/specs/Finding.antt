-- The rules that items wait for, as they are found. `index` is the number that a storage number represents.
use Rattle.std.specs.Prelude.{◌≡◌, ◌<◌, ℕ, false, [], List, replicate}
use Rattle.std.specs.List.{Contains}
use Rattle.lrpar_grammar_places.specs.declared.span.PIdx.{PIdx}
use Rattle.lrpar_grammar_places.specs.declared.span.RIdx.{RIdx}
use Rattle.lrpar_grammar_places.specs.declared.span.StIdx.{StIdx}
use Rattle.lrpar_grammar.specs.Grammar.{Grammar, rules_len, start_prod}
use Rattle.lrpar_table_rows.specs.Graph.{Graph, HasCore}
use Rattle.lrpar_table_rows.specs.Table.{Table}
use Rattle.lrpar_table_check.specs.Checked.{Checked}
use Rattle.lrpar_parse_completion.specs.Waiting.{AreCounted, AreFound, Grows, HasRuleAfter, IsAdded, IsClosedAt, IsOwnCore, LinkOf, links_of, rules_in}
use Rattle.lrpar_parse_completion.specs.declared.waiting.Found.{Found}

module _ {S : Type 0} (index : S → ℕ) where
  -- the links that are found
  abbrev pub links_in : Found S → List LinkOf
  links_in found = links_of index found.links.items

  -- each link that is found is one of the grammar, and the marked rules are those of the links
  abbrev pub IsFound : Grammar → (ℕ → ℕ → Type 0) → Found S → Type 0
  IsFound g own found = AreFound g own (links_in found) found.marks.items

  -- what was found is still found, and more may be
  abbrev pub HasGrown : Grammar → (ℕ → ℕ → Type 0) → Found S → Found S → Type 0
  HasGrown g own old new = Grows g own (links_in old) (links_in new) new.marks.items

  -- each rule of the grammar is found, or can still be
  abbrev pub IsCounted : Grammar → Found S → Type 0
  IsCounted g found = AreCounted g (links_in found) found.marks.items

  -- no rule is found, and none is marked
  pub record HasNone (g : Grammar) (found : Found S) : Type 0 where
    pub links : links_in found ≡ []
    pub marks : found.marks.items ≡ replicate (rules_len g) false

  -- the rule after the dot of the item was added, if there is one
  abbrev pub AddsItem : Grammar → PIdx S → ℕ → Found S → Found S → Type 0
  AddsItem g prod dot old new = IsAdded g (index prod.0) dot (links_in old) old.marks.items (links_in new) new.marks.items

  -- the core of a kernel item of the state, or of the start item
  abbrev pub IsOwnIn : Checked → StIdx S → ℕ → ℕ → Type 0
  IsOwnIn d state p k = IsOwnCore d.grammar d.graph d.table (index state.0) p k

  -- the rules after the dots of the state's kernel items were added
  pub record AddsKernel (d : Checked) (state : StIdx S) (old new : Found S) : Type 0 where
    pub counted : IsCounted d.grammar new
    pub grows : IsFound d.grammar (IsOwnIn d state) old → HasGrown d.grammar (IsOwnIn d state) old new
        × ((p k : ℕ) → HasCore d.graph (index state.0) p k → 0 < k → HasRuleAfter d.grammar (links_in new) p k)

  -- the start rule was added, if the state is the start state
  pub record AddsStart (d : Checked) (state : StIdx S) (old new : Found S) : Type 0 where
    pub counted : IsCounted d.grammar new
    pub grows : IsFound d.grammar (IsOwnIn d state) old → HasGrown d.grammar (IsOwnIn d state) old new
        × (index state.0 ≡ d.table.start → HasRuleAfter d.grammar (links_in new) (start_prod d.grammar) 0)

  -- the rules that productions of this rule begin with were added, whatever the state: so the productions are closed
  pub record AddsProds (g : Grammar) (rule : RIdx S) (old new : Found S) : Type 0 where
    pub counted : IsCounted g new
    pub grows : (graph : Graph) (table : Table) (s : ℕ) → IsFound g (IsOwnCore g graph table s) old
        → Contains (rules_in (links_in old)) (index rule.0)
        → HasGrown g (IsOwnCore g graph table s) old new × IsClosedAt g (links_in new) (index rule.0)
