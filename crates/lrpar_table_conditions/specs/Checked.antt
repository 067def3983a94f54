-- What is checked for safety, as the code has it: a grammar, its item sets and a table.
use Rattle.std.specs.Prelude.{◌≡◌, ◌≢◌, ◌<◌, ◌+◌, ℕ, Some, slice_get}
use Rattle.lrpar_grammar_places.specs.declared.span.PIdx.{PIdx}
use Rattle.lrpar_grammar_places.specs.declared.span.RIdx.{RIdx}
use Rattle.lrpar_grammar_places.specs.declared.span.StIdx.{StIdx}
use Rattle.lrpar_grammar_places.specs.declared.span.Symbol.{Symbol}
use Rattle.lrpar_grammar_places.specs.declared.span.TIdx.{TIdx}
use Rattle.lrpar_grammar.specs.Grammar.{Grammar, GrammarSymbol, end_token, prod_len, prods_len, rule_of, start_prod, symbols_of}
use Rattle.lrpar_grammar.specs.Symbols.{symbol_of}
use Rattle.lrpar_table_rows.specs.Graph.{Graph, HasCore, HasItem}
use Rattle.lrpar_table_rows.specs.PlainRows.{plain_action}
use Rattle.lrpar_table_rows.specs.Safe.{CoresFollow, GoesBy, HasShape, IsItem}
use Rattle.lrpar_table_rows.specs.Table.{Table, TableAction, ReduceBy, action_of, goto_of, states_len}
use Rattle.lrpar_table_rows.specs.declared.condition.SafetyCondition.{SafetyCondition}
use Rattle.lrpar_table_rows.specs.declared.rows.Action.{Action}
use Rattle.lrpar_table_conditions.specs.Entrywise.{AcceptHolds, ActionHolds, GotoHolds, ReduceHolds, ShiftHolds}
use Rattle.lrpar_table_conditions.specs.declared.checkable.Checkable.{Checkable}

-- the parts have the shape S1
abbrev pub IsShaped : {S : Type 0} → Checkable S → Type 0
IsShaped parts = HasShape parts.grm.now parts.sgraph.now parts.stable.now

-- the state is one of the table
abbrev pub IsStateOf : {S : Type 0} → (S → ℕ) → Checkable S → StIdx S → Type 0
IsStateOf index parts s = index s.0 < states_len parts.stable.now

-- the production is one of the grammar
abbrev pub IsProdOf : {S : Type 0} → (S → ℕ) → Checkable S → PIdx S → Type 0
IsProdOf index parts prod = index prod.0 < prods_len parts.grm.now

-- the condition holds at the state
abbrev pub HoldsAt : {S : Type 0} → (S → ℕ) → (Grammar → Graph → Table → ℕ → Type 0) → Checkable S → StIdx S → Type 0
HoldsAt index Condition parts s = Condition parts.grm.now parts.sgraph.now parts.stable.now (index s.0)

-- each reduction is by a production of the grammar: of all states, and of one
abbrev pub ReductionsAreInRange : {S : Type 0} → Checkable S → Type 0
ReductionsAreInRange parts = (s t p : ℕ) → action_of parts.stable.now s t ≡ ReduceBy p → p < prods_len parts.grm.now

abbrev pub ReductionsAreInRangeAt : {S : Type 0} → (S → ℕ) → Checkable S → StIdx S → Type 0
ReductionsAreInRangeAt index parts s = (t p : ℕ) → action_of parts.stable.now (index s.0) t ≡ ReduceBy p → p < prods_len parts.grm.now

-- each item is of the grammar: of all states, of one, and of those of it with one core
abbrev pub ItemsAreInRange : {S : Type 0} → Checkable S → Type 0
ItemsAreInRange parts = (s p k t : ℕ) → HasItem parts.sgraph.now s p k t → IsItem parts.grm.now p k t

abbrev pub ItemsAreInRangeAt : {S : Type 0} → (S → ℕ) → Checkable S → StIdx S → Type 0
ItemsAreInRangeAt index parts s = (p k t : ℕ) → HasItem parts.sgraph.now (index s.0) p k t → IsItem parts.grm.now p k t

abbrev pub ItemsAreInRangeOf : {S : Type 0} → (S → ℕ) → Checkable S → StIdx S → PIdx S → ℕ → Type 0
ItemsAreInRangeOf index parts s prod dot =
    (t : ℕ) → HasItem parts.sgraph.now (index s.0) (index prod.0) dot t → IsItem parts.grm.now (index prod.0) dot t

-- the state is the start state
abbrev pub IsStartState : {S : Type 0} → (S → ℕ) → Checkable S → StIdx S → Type 0
IsStartState index parts s = index s.0 ≡ parts.stable.now.start

-- the token is the end token
abbrev pub IsEndToken : {S : Type 0} → (S → ℕ) → Checkable S → TIdx S → Type 0
IsEndToken index parts token = index token.0 ≡ end_token parts.grm.now

-- the state has no transition to the start state
abbrev pub GoesNeverBack : {S : Type 0} → (S → ℕ) → Checkable S → StIdx S → Type 0
GoesNeverBack index parts s = (x : GrammarSymbol) → ¬ (GoesBy parts.stable.now (index s.0) x parts.stable.now.start)

-- the state has the core `^: . S` only if it is the start state
abbrev pub BeginsAsStart : {S : Type 0} → (S → ℕ) → Checkable S → StIdx S → Type 0
BeginsAsStart index parts s = HasCore parts.sgraph.now (index s.0) (start_prod parts.grm.now) 0 → index s.0 ≡ parts.stable.now.start

-- a core of state `next` with a dot past 0 comes from a core of state s by the symbol: each one, and the one with this production
-- and this dot
abbrev pub AllCoresFollow : {S : Type 0} → (S → ℕ) → Checkable S → StIdx S → Symbol S → StIdx S → Type 0
AllCoresFollow index parts s symbol next = CoresFollow parts.grm.now parts.sgraph.now (index s.0) (symbol_of index symbol) (index next.0)

abbrev pub CoreFollows : {S : Type 0} → (S → ℕ) → Checkable S → StIdx S → Symbol S → PIdx S → ℕ → Type 0
CoreFollows index parts s symbol prod dot =
    (k : ℕ) → dot ≡ k + 1 → (slice_get (symbols_of parts.grm.now (index prod.0)) k ≡ Some (symbol_of index symbol))
    × HasCore parts.sgraph.now (index s.0) (index prod.0) k

-- the production isn't the start production, and the state has its complete core
abbrev pub HasCompleteCore : {S : Type 0} → (S → ℕ) → Checkable S → StIdx S → PIdx S → Type 0
HasCompleteCore index parts s prod =
    (index prod.0 ≢ start_prod parts.grm.now)
    × HasCore parts.sgraph.now (index s.0) (index prod.0) (prod_len parts.grm.now (index prod.0))

-- the state has a goto by the production's rule, or the production is the start production
abbrev pub GoesByRuleOf : {S : Type 0} → (S → ℕ) → Checkable S → StIdx S → PIdx S → Type 0
GoesByRuleOf index parts s prod =
    index prod.0 ≢ start_prod parts.grm.now
    → (next : ℕ) × (goto_of parts.stable.now (index s.0) (rule_of parts.grm.now (index prod.0)) ≡ Some next)

-- the token is the end token, and the state has the start production's complete core
abbrev pub HasStartComplete : {S : Type 0} → (S → ℕ) → Checkable S → StIdx S → TIdx S → Type 0
HasStartComplete index parts s token =
    (index token.0 ≡ end_token parts.grm.now) × HasCore parts.sgraph.now (index s.0) (start_prod parts.grm.now) 1

-- what the condition requires of an entry of the state holds: of each action; of one action at a token, which is a shift, a reduction
-- or an accept; of each goto; and of one goto
abbrev pub ActionsHold : {S : Type 0} → (S → ℕ) → Checkable S → SafetyCondition → StIdx S → Type 0
ActionsHold index parts condition s =
    (t : ℕ) (action : TableAction) → action_of parts.stable.now (index s.0) t ≡ action
    → ActionHolds parts.grm.now parts.sgraph.now parts.stable.now condition (index s.0) t action

abbrev pub OneActionHolds : {S : Type 0} → (S → ℕ) → Checkable S → SafetyCondition → StIdx S → TIdx S → Action S → Type 0
OneActionHolds index parts condition s token action =
    ActionHolds parts.grm.now parts.sgraph.now parts.stable.now condition (index s.0) (index token.0) (plain_action index action)

abbrev pub OneShiftHolds : {S : Type 0} → (S → ℕ) → Checkable S → SafetyCondition → StIdx S → TIdx S → StIdx S → Type 0
OneShiftHolds index parts condition s token next =
    ShiftHolds parts.grm.now parts.sgraph.now parts.stable.now condition (index s.0) (index token.0) (index next.0)

abbrev pub OneReductionHolds : {S : Type 0} → (S → ℕ) → Checkable S → SafetyCondition → StIdx S → PIdx S → Type 0
OneReductionHolds index parts condition s prod = ReduceHolds parts.grm.now parts.sgraph.now condition (index s.0) (index prod.0)

abbrev pub OneAcceptHolds : {S : Type 0} → (S → ℕ) → Checkable S → SafetyCondition → StIdx S → TIdx S → Type 0
OneAcceptHolds index parts condition s token = AcceptHolds parts.grm.now parts.sgraph.now condition (index s.0) (index token.0)

abbrev pub GotosHold : {S : Type 0} → (S → ℕ) → Checkable S → SafetyCondition → StIdx S → Type 0
GotosHold index parts condition s =
    (r next : ℕ) → goto_of parts.stable.now (index s.0) r ≡ Some next
    → GotoHolds parts.grm.now parts.sgraph.now parts.stable.now condition (index s.0) r next

abbrev pub OneGotoHolds : {S : Type 0} → (S → ℕ) → Checkable S → SafetyCondition → StIdx S → RIdx S → StIdx S → Type 0
OneGotoHolds index parts condition s rule next =
    GotoHolds parts.grm.now parts.sgraph.now parts.stable.now condition (index s.0) (index rule.0) (index next.0)
