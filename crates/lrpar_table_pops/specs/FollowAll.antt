-- How what is found of a state follows from the exits of other states, when nothing is left out.
use Rattle.std.specs.Prelude.{◌≡◌, ◌≢◌, ◌<◌, ℕ, IsTrue, List, Some, slice_get}
use Rattle.lrpar_grammar_places.specs.declared.span.RIdx.{RIdx}
use Rattle.lrpar_grammar_places.specs.declared.span.StIdx.{StIdx}
use Rattle.lrpar_grammar_places.specs.declared.span.TIdx.{TIdx}
use Rattle.lrpar_grammar.specs.Grammar.{Grammar, end_token, prods_len}
use Rattle.lrpar_grammar.specs.Tokens.{has}
use Rattle.lrpar_table_rows.specs.Graph.{Graph}
use Rattle.lrpar_table_rows.specs.PlainRows.{plain_action}
use Rattle.lrpar_table_rows.specs.Table.{Accepts, Fails, ReduceBy, ShiftTo, Table, TableAction, action_of, goto_of}
use Rattle.lrpar_table_rows.specs.declared.rows.Action.{Action}
use Rattle.lrpar_table_pops.specs.Closed.{FollowsIn, IsBackIn, StartsIn}
use Rattle.lrpar_table_pops.specs.FoundAll.{FindsAll, HasRoomFor, IsDone, IsFoundIn}
use Rattle.lrpar_table_pops.specs.Pops.{Control}
use Rattle.lrpar_table_pops.specs.Sets.{tokens_by}
use Rattle.lrpar_table_pops.specs.declared.found.Found.{Found}
use Rattle.lrpar_table_pops.specs.declared.pops.StateExits.{StateExits}

-- the action at token t is one of a safe table: it reduces by a production of the grammar, and accepts at the end token alone
abbrev pub IsRightAction : Grammar → ℕ → TableAction → Type 0
IsRightAction g t (ShiftTo next) = Unit {0}
IsRightAction g t (ReduceBy p) = p < prods_len g
IsRightAction g t Accepts = t ≡ end_token g
IsRightAction g t Fails = Unit {0}

-- each action of the table is one of a safe table
abbrev pub AreRightActions : Grammar → Table → Type 0
AreRightActions g table = (s t : ℕ) → IsRightAction g t (action_of table s t)

-- the gotos of state s that were followed lead to nothing that isn't found
abbrev pub IsFollowing : Grammar → Graph → Table → List StateExits → ℕ → Found → Type 0
IsFollowing g graph table pops s found =
    (rule t next : ℕ) (q : Control) → IsTrue (has (tokens_by found.followed.items rule) t) → goto_of table s rule ≡ Some next
    → FollowsIn g pops next t (action_of table next t) q → IsBackIn g graph s q → IsFoundIn g found q

-- what was found of state s is kept, and so is the room; and what the gotos that were followed lead to is found, if it was
pub record KeepsFollowing (g : Grammar) (graph : Graph) (table : Table) (pops : List StateExits) (s : ℕ) (old new : Found) : Type 0 where
  pub kept : (q : Control) → IsFoundIn g old q → IsFoundIn g new q
  pub room : HasRoomFor g graph s old → HasRoomFor g graph s new
  pub following : HasRoomFor g graph s old → IsFollowing g graph table pops s old → IsFollowing g graph table pops s new

-- each goto of state s was followed at each token at which its rule is reduced, if the state that it leads to acts there
abbrev pub AreAllDone : Table → ℕ → Found → Type 0
AreAllDone table s found = (rule next t : ℕ) → goto_of table s rule ≡ Some next → action_of table next t ≢ Fails → IsDone found rule t

-- what a state that acts so at the token leads to in one step is found
abbrev pub StartsAll : {S : Type 0} → (S → ℕ) → Grammar → List StateExits → TIdx S → Action S → Found → Found → Type 0
StartsAll index g pops token action old new =
    IsRightAction g (index token.0) (plain_action index action) → FindsAll g (StartsIn g pops (index token.0) (plain_action index action)) old new

-- what state `next` leads to at the token, if it acts so there, is found
abbrev pub FollowsAllBy : {S : Type 0} → (S → ℕ) → Grammar → List StateExits → StIdx S → TIdx S → TableAction → Found → Found → Type 0
FollowsAllBy index g pops next token action old new =
    IsRightAction g (index token.0) action → FindsAll g (FollowsIn g pops (index next.0) (index token.0) action) old new

-- for each state that goes to state `next` by the rule, if that acts so at the token, what was followed is found
abbrev pub FollowsAllAt : {S : Type 0} → (S → ℕ) → Grammar → List StateExits → ℕ → StIdx S → TIdx S → Action S → Found → Found → Type 0
FollowsAllAt index g pops rule next token action old new =
    (graph : Graph) (table : Table) (s : ℕ) → action_of table (index next.0) (index token.0) ≡ plain_action index action
    → goto_of table s rule ≡ Some (index next.0) → AreRightActions g table → KeepsFollowing g graph table pops s old new

-- for each state of this table that goes to state `next` by the rule, what was followed is found
abbrev pub FollowsAllOf : {S : Type 0} → (S → ℕ) → Grammar → Table → List StateExits → ℕ → StIdx S → Found → Found → Type 0
FollowsAllOf index g table pops rule next old new =
    (graph : Graph) (s : ℕ) → goto_of table s rule ≡ Some (index next.0) → AreRightActions g table → KeepsFollowing g graph table pops s old new

-- for this state, what was followed is found
abbrev pub FollowsAllFor : {S : Type 0} → (S → ℕ) → Grammar → Table → List StateExits → StIdx S → Found → Found → Type 0
FollowsAllFor index g table pops s old new = (graph : Graph) → AreRightActions g table → KeepsFollowing g graph table pops (index s.0) old new

-- the goto of the rule to state `next` was followed at each token at which the rule is reduced, if that acts there
abbrev pub IsRuleDone : {S : Type 0} → (S → ℕ) → Table → ℕ → StIdx S → Found → Type 0
IsRuleDone index table rule next found = (t : ℕ) → action_of table (index next.0) t ≢ Fails → IsDone found rule t

-- the goto of the rule was followed at the first of these tokens, if the rule is reduced at them
abbrev pub AreTokensDone : {S : Type 0} → (S → ℕ) → List (TIdx S) → ℕ → ℕ → Found → Type 0
AreTokensDone {S} index tokens place rule found =
    (i : ℕ) (token : TIdx S) → i < place → slice_get tokens i ≡ Some token → IsDone found rule (index token.0)

-- the gotos of state s by the first of these rules were followed at each token at which the rule is reduced
abbrev pub AreRulesDone : {S : Type 0} → (S → ℕ) → Table → ℕ → List (RIdx S) → ℕ → Found → Type 0
AreRulesDone {S} index table s rules place found =
    (i : ℕ) (rule : RIdx S) (next t : ℕ) → i < place → slice_get rules i ≡ Some rule → goto_of table s (index rule.0) ≡ Some next
    → action_of table next t ≢ Fails → IsDone found (index rule.0) t
