-- How exits are found of those of other states: what is right stays right.
use Rattle.std.specs.Prelude.{◌≡◌, ℕ, List, Option, Some}
use Rattle.lrpar_grammar_places.specs.declared.span.StIdx.{StIdx}
use Rattle.lrpar_grammar_places.specs.declared.span.TIdx.{TIdx}
use Rattle.lrpar_grammar.specs.Grammar.{Grammar}
use Rattle.lrpar_table_rows.specs.PlainRows.{plain_action}
use Rattle.lrpar_table_rows.specs.Table.{Table, action_of, goto_of}
use Rattle.lrpar_table_rows.specs.declared.rows.Action.{Action}
use Rattle.lrpar_table_pops.specs.Found.{IsFound, IsOneOf, LeadsFrom}
use Rattle.lrpar_table_pops.specs.Pops.{Control, Pops, Reading}
use Rattle.lrpar_table_pops.specs.StoredPops.{AcceptsAtEndAlone, ArePopsOf}
use Rattle.lrpar_table_pops.specs.declared.pops.StateExits.{StateExits}
use Rattle.lrpar_table_pops.specs.declared.found.Found.{Found}

-- what is found stays right, if the exits of other states are right and the table accepts at the end token alone
abbrev pub StaysRight : Grammar → Table → List StateExits → ℕ → Option ℕ → Found → Found → Type 0
StaysRight g table pops s at old new = ArePopsOf g table pops → AcceptsAtEndAlone g table → IsFound g table s at old → IsFound g table s at new

-- what is found stays right at each state that acts so at the token, if the token may be the first lookahead
abbrev pub StartsAt : {S : Type 0} → (S → ℕ) → Grammar → List StateExits → TIdx S → Action S → Found → Found → Type 0
StartsAt index g pops token action old new =
    (table : Table) (s : ℕ) (at : Option ℕ) → action_of table s (index token.0) ≡ plain_action index action → IsOneOf at (index token.0)
    → StaysRight g table pops s at old new

-- what is found stays right at each state from which what state `next` leads to at the token, where it acts so, leads on
abbrev pub FollowsAction : {S : Type 0} → (S → ℕ) → Grammar → List StateExits → StIdx S → TIdx S → Action S → Found → Found → Type 0
FollowsAction index g pops next token action old new =
    (table : Table) (s : ℕ) (at : Option ℕ) → action_of table (index next.0) (index token.0) ≡ plain_action index action
    → ((q : Control) → Pops g table (Reading (index token.0)) (index next.0) q → LeadsFrom g table s at q)
    → StaysRight g table pops s at old new

-- what is found stays right at each state that goes to state `next` by the rule, where `next` acts so at the token
abbrev pub FollowsAt : {S : Type 0} → (S → ℕ) → Grammar → List StateExits → ℕ → StIdx S → TIdx S → Action S → Found → Found → Type 0
FollowsAt index g pops rule next token action old new =
    (table : Table) (s : ℕ) (at : Option ℕ) → action_of table (index next.0) (index token.0) ≡ plain_action index action
    → goto_of table s rule ≡ Some (index next.0) → StaysRight g table pops s at old new

-- what is found stays right at each state of this table that goes to state `next` by the rule
abbrev pub FollowsRule : {S : Type 0} → (S → ℕ) → Grammar → Table → List StateExits → ℕ → StIdx S → Found → Found → Type 0
FollowsRule index g table pops rule next old new =
    (s : ℕ) (at : Option ℕ) → goto_of table s rule ≡ Some (index next.0) → StaysRight g table pops s at old new

-- what is found of this state stays right
abbrev pub FollowsState : {S : Type 0} → (S → ℕ) → Grammar → Table → List StateExits → StIdx S → Found → Found → Type 0
FollowsState index g table pops s old new = (at : Option ℕ) → StaysRight g table pops (index s.0) at old new
