-- When the exits that are good over a stack are all that are. Stacks are written top first.
use Rattle.std.specs.Prelude.{◌≡◌, ◌<◌, ℕ, zero, suc, Bool, IsTrue, List, Some, ◌∷◌, length}
use Rattle.lrpar_grammar.specs.Grammar.{Grammar, prods_len, rule_of}
use Rattle.lrpar_grammar.specs.Tokens.{has}
use Rattle.lrpar_table_rows.specs.Graph.{Graph}
use Rattle.lrpar_table_rows.specs.Table.{Table, action_of, goto_of}
use Rattle.lrpar_table_pops.specs.Closed.{FollowsIn, IsLeft, IsBackIn, IsIncluded}
use Rattle.lrpar_table_pops.specs.FoundAll.{IsAmong}
use Rattle.lrpar_table_pops.specs.Growth.{HasLookahead, IsStored}
use Rattle.lrpar_table_pops.specs.Pops.{Control, PopsAll}
use Rattle.lrpar_table_pops.specs.Sets.{tokens_by}
use Rattle.lrpar_table_pops.specs.declared.exits.Exit.{Exit}
use Rattle.lrpar_table_pops.specs.declared.exits.Way.{Way}
use Rattle.lrpar_table_pops.specs.declared.exits.Way.TheVariants.{Acceptance, Reduction}
use Rattle.lrpar_table_pops.specs.declared.pops.StateExits.{StateExits}

-- each control in which a run can leave state s, and then take all the states below off, is that of a good exit
abbrev pub AreAllGoodOver : Grammar → Graph → Table → ℕ → List ℕ → List Exit → Type 0
AreAllGoodOver g graph table s below good = (r : Control) → IsLeft g graph s r → PopsAll g table r below → IsStored g good r

-- the exit of the state above this way, at the lookahead, is good: a run goes on by a good exit of the state, or by a reduction that is good
abbrev pub IsGoodExit : Grammar → List Exit → List (List Bool) → Way → ℕ → Type 0
IsGoodExit g good reduced (Reduction p zero) t = (p < prods_len g) × IsTrue (has (tokens_by reduced (rule_of g p)) t)
IsGoodExit g good reduced (Reduction p (suc left)) t = HasLookahead good (Reduction p left) t
IsGoodExit g good reduced Acceptance t = HasLookahead good Acceptance t

-- a run in the control goes on so
abbrev pub IsGoodControl : Grammar → List Exit → List (List Bool) → Control → Type 0
IsGoodControl g good reduced q = IsAmong g (IsGoodExit g good reduced) q

-- if a run that reads token t, with state `next` on top, takes that off and goes on so, then t is one of the rule's
abbrev pub IsTokenClosed : Grammar → Table → List StateExits → List Exit → ℕ → ℕ → List (List Bool) → ℕ → Type 0
IsTokenClosed g table states good rule next reduced t =
    (q : Control) → FollowsIn g states next t (action_of table next t) q → IsGoodControl g good reduced q → t < length (tokens_by reduced rule)
    → IsTrue (has (tokens_by reduced rule) t)

-- each token is closed for each goto of state s: what a run that reads it there leads to is among the reductions
abbrev pub AreReductionsClosed : Grammar → Table → List StateExits → ℕ → List Exit → List (List Bool) → Type 0
AreReductionsClosed g table states s good reduced =
    (rule next t : ℕ) → goto_of table s rule ≡ Some next → IsTokenClosed g table states good rule next reduced t

-- each control in which a run, back in state s, can take s and all the states below off goes on by the exits or the reductions
abbrev pub AreAllIncluded : Grammar → Graph → Table → ℕ → List ℕ → List Exit → List (List Bool) → Type 0
AreAllIncluded g graph table s below good reduced = (q : Control) → IsBackIn g graph s q → PopsAll g table q (s ∷ below) → IsIncluded g good reduced q

-- if the exits are all that are good over a stack, they and the reductions are all by which a run goes on
abbrev pub LeadToAll : Grammar → Graph → Table → ℕ → List Exit → List (List Bool) → Type 0
LeadToAll g graph table s good reduced = (below : List ℕ) → AreAllGoodOver g graph table s below good → AreAllIncluded g graph table s below good reduced

-- each control in which a run can leave state `next`, and go on by the exits or the reductions, is that of one of the exits above
abbrev pub HasAllAbove : Grammar → Graph → ℕ → List Exit → List (List Bool) → List Exit → Type 0
HasAllAbove g graph next good reduced above = (r : Control) → IsLeft g graph next r → IsIncluded g good reduced r → IsStored g above r
