-- The exits of a state, as they are stored: the controls in which a run can leave it.
use Rattle.std.specs.Prelude.{◌≡◌, ◌⊎◌, ℕ, Bool, Contains, IsTrue, List, Some, slice_get, sum_by}
use Rattle.lrpar_grammar.specs.Tokens.{has, missing}
use Rattle.lrpar_table_pops.specs.Pops.{Control, Dropping, Done}
use Rattle.lrpar_table_pops.specs.declared.exits.Exit.{Exit}
use Rattle.lrpar_table_pops.specs.declared.exits.Way.{Way}
use Rattle.lrpar_table_pops.specs.declared.exits.Way.TheVariants.{Acceptance, Reduction}

-- the control of a run that leaves a state this way, at this lookahead
abbrev pub control_of : Way → ℕ → Control
control_of (Reduction p left) t = Dropping p left t
control_of Acceptance t = Done

-- with one of the tokens as lookahead, a run that leaves a state this way is in control r
abbrev pub LeavesIn : Way → List Bool → Control → Type 0
LeavesIn way tokens r = (t : ℕ) × IsTrue (has tokens t) × (control_of way t ≡ r)

-- a run can leave the state in control r
abbrev pub HasExit : List Exit → Control → Type 0
HasExit exits r = (exit : Exit) × Contains exits exit × LeavesIn exit.way exit.tokens r

-- a run can't leave the state
abbrev pub HasNoExit : List Exit → Type 0
HasNoExit exits = (r : Control) → ¬ (HasExit exits r)

-- at this place is an exit this way
abbrev pub IsIndexOf : List Exit → Way → ℕ → Type 0
IsIndexOf exits way place = (exit : Exit) × (slice_get exits place ≡ Some exit) × (exit.way ≡ way)

-- the tokens are those of an exit this way
abbrev pub AreTokensAt : List Exit → Way → List Bool → Type 0
AreTokensAt exits way tokens = (exit : Exit) × Contains exits exit × (exit.way ≡ way) × (exit.tokens ≡ tokens)

-- each exit is an old one, or a control with P
abbrev pub AddsOnly : (Control → Type 0) → List Exit → List Exit → Type 0
AddsOnly P old new = (r : Control) → HasExit new r → HasExit old r ⊎ P r

-- both have an exit
abbrev pub HaveExitInCommon : List Exit → List Exit → Type 0
HaveExitInCommon exits others = (r : Control) × HasExit exits r × HasExit others r

-- the first have all exits of the others
abbrev pub HaveAllExits : List Exit → List Exit → Type 0
HaveAllExits exits others = (r : Control) → HasExit others r → HasExit exits r

-- how many exits there is still room for
abbrev pub room_left : List Exit → ℕ
room_left exits = sum_by (λ exit. missing exit.tokens) exits
