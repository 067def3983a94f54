-- Exits from which a run goes on to accept. Stacks are written top first.
use Rattle.std.specs.Prelude.{◌≡◌, ◌⊎◌, ℕ, Bool, IsTrue, List, Some, ◌∷◌}
use Rattle.lrpar_grammar.specs.Grammar.{Grammar, rule_of}
use Rattle.lrpar_grammar.specs.Tokens.{has}
use Rattle.lrpar_table_rows.specs.Table.{Table, goto_of}
use Rattle.lrpar_table_pops.specs.Exits.{HasExit}
use Rattle.lrpar_table_pops.specs.Pops.{Control, Dropping, Pops, PopsAll, Reading}
use Rattle.lrpar_table_pops.specs.Sets.{tokens_by}
use Rattle.lrpar_table_pops.specs.declared.exits.Exit.{Exit}

-- by each of these exits a run leaves a state so that it can take all the states below off, too
abbrev pub AreGoodOver : Grammar → Table → List ℕ → List Exit → Type 0
AreGoodOver g table below good = (r : Control) → HasExit good r → PopsAll g table r below

-- after a reduction by a production of one of the rules, at one of its tokens, on top of the stack, a run can take all states off
abbrev pub AreGoodReductions : Grammar → Table → List ℕ → List (List Bool) → Type 0
AreGoodReductions g table st reduced =
    (r t : ℕ) → IsTrue (has (tokens_by reduced r) t) → (p : ℕ) → rule_of g p ≡ r → PopsAll g table (Dropping p 0 t) st

-- exits that are good over a stack lead to reductions that are good on top of it with state s
abbrev pub LeadToReductions : Grammar → Table → ℕ → List Exit → List (List Bool) → Type 0
LeadToReductions g table s good reduced =
    (below : List ℕ) → AreGoodOver g table below good → AreGoodReductions g table (s ∷ below) reduced

-- exits that are good over a stack lead to exits that are good on top of it with state s
abbrev pub LeadToExits : Grammar → Table → ℕ → List Exit → List Exit → Type 0
LeadToExits g table s good above = (below : List ℕ) → AreGoodOver g table below good → AreGoodOver g table (s ∷ below) above

-- on each stack over which the exits are good, and on top of which the reductions are good, a run in control r can take all states off
abbrev pub GoesOn : Grammar → List Exit → List (List Bool) → Control → Type 0
GoesOn g good reduced r =
    (table : Table) (s : ℕ) (below : List ℕ) → AreGoodOver g table below good → AreGoodReductions g table (s ∷ below) reduced
    → PopsAll g table r (s ∷ below)

-- some control with P goes on so
abbrev pub SomeGoesOn : Grammar → List Exit → List (List Bool) → (Control → Type 0) → Type 0
SomeGoesOn g good reduced P = (r : Control) × P r × GoesOn g good reduced r

-- at each of the tokens the control goes on so
abbrev pub AllGoOn : Grammar → List Exit → List (List Bool) → (ℕ → Control) → List Bool → Type 0
AllGoOn g good reduced control tokens = (t : ℕ) → IsTrue (has tokens t) → GoesOn g good reduced (control t)

-- a run that reads token t with state `next` on top takes that state off, and goes on so
abbrev pub ReadsOn : Grammar → Table → List Exit → List (List Bool) → ℕ → ℕ → Type 0
ReadsOn g table good reduced next t = SomeGoesOn g good reduced (Pops g table (Reading t) next)

-- reductions on top of a stack with state s that exits below lead to: if the old ones are, the new ones are
abbrev pub KeepsReductions : Grammar → Table → ℕ → List Exit → List (List Bool) → List (List Bool) → Type 0
KeepsReductions g table s good old new = LeadToReductions g table s good old → LeadToReductions g table s good new

-- each token of a rule is an old one, or this one, of this rule
abbrev pub AddsTokenBy : List (List Bool) → List (List Bool) → ℕ → ℕ → Type 0
AddsTokenBy old new rule token =
    (r t : ℕ) → IsTrue (has (tokens_by new r) t) → IsTrue (has (tokens_by old r) t) ⊎ ((r ≡ rule) × (t ≡ token))

-- in a state that has a goto to state `next` by the rule, the reductions that were added are right
abbrev pub AddsByGoto : Grammar → Table → List Exit → ℕ → ℕ → List (List Bool) → List (List Bool) → Type 0
AddsByGoto g table good rule next old new = (s : ℕ) → goto_of table s rule ≡ Some next → KeepsReductions g table s good old new

-- where the exits lead to the reductions, on top of a state, they lead to these exits, too
abbrev pub LeadBoth : Grammar → Table → List Exit → List (List Bool) → List Exit → Type 0
LeadBoth g table good reduced above = (s : ℕ) → LeadToReductions g table s good reduced → LeadToExits g table s good above
