-- The entries of a state, read one by one.
use Rattle.std.specs.Prelude.{◌≡◌, ◌≢◌, ◌<◌, ℕ, List, Some, length, slice_get, slice_index_or}
use Rattle.lrpar_grammar_places.specs.declared.span.RIdx.{RIdx}
use Rattle.lrpar_grammar_places.specs.declared.span.StIdx.{StIdx}
use Rattle.lrpar_grammar_places.specs.declared.span.TIdx.{TIdx}
use Rattle.lrpar_table_rows.specs.PlainRows.{plain_action}
use Rattle.lrpar_table_rows.specs.Table.{Fails, Table, action_of, goto_of}
use Rattle.lrpar_table_rows.specs.declared.rows.Action.{Action}

-- each of these actions is that of the state at its token
abbrev pub AreActionsOf : {S : Type 0} → (S → ℕ) → Table → StIdx S → List (TIdx S) → List (Action S) → Type 0
AreActionsOf {S} index table s tokens actions =
    (i : ℕ) (token : TIdx S) (action : Action S) → i < length tokens → token ≡ slice_index_or tokens i token → action ≡ slice_index_or actions i action
    → action_of table (index s.0) (index token.0) ≡ plain_action index action

-- the token is among these
abbrev pub HasToken : {S : Type 0} → (S → ℕ) → List (TIdx S) → ℕ → Type 0
HasToken {S} index tokens t = (place : ℕ) × (token : TIdx S) × (slice_get tokens place ≡ Some token) × (index token.0 ≡ t)

-- the state acts at these tokens alone
abbrev pub AreAllTokensOf : {S : Type 0} → (S → ℕ) → Table → StIdx S → List (TIdx S) → Type 0
AreAllTokensOf index table s tokens = (t : ℕ) → action_of table (index s.0) t ≢ Fails → HasToken index tokens t

-- the rule is among these
abbrev pub HasRule : {S : Type 0} → (S → ℕ) → List (RIdx S) → ℕ → Type 0
HasRule {S} index rules r = (place : ℕ) × (rule : RIdx S) × (slice_get rules place ≡ Some rule) × (index rule.0 ≡ r)

-- the state has gotos by these rules alone
abbrev pub AreAllRulesOf : {S : Type 0} → (S → ℕ) → Table → StIdx S → List (RIdx S) → Type 0
AreAllRulesOf index table s rules = (r next : ℕ) → goto_of table (index s.0) r ≡ Some next → HasRule index rules r

-- each of these states is the goto of the state by its rule
abbrev pub AreGotosOf : {S : Type 0} → (S → ℕ) → Table → StIdx S → List (RIdx S) → List (StIdx S) → Type 0
AreGotosOf {S} index table s rules nexts =
    (i : ℕ) (rule : RIdx S) (next : StIdx S) → i < length rules → rule ≡ slice_index_or rules i rule → next ≡ slice_index_or nexts i next
    → goto_of table (index s.0) (index rule.0) ≡ Some (index next.0)
