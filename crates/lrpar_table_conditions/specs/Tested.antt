-- What is tested for completeness, as the code has it: a grammar, its item sets, a table, and the FIRST set of each rule.
use Rattle.std.specs.Prelude.{◌≡◌, ◌≢◌, ◌<◌, ◌+◌, ◌↔◌, ◌⊎◌, ℕ, IfSome, IsTrue, List, MatchOption, Option, Some, length, slice_get}
use Rattle.std.specs.Borrow.{Bor}
use Rattle.lrpar_grammar_places.specs.declared.span.PIdx.{PIdx}
use Rattle.lrpar_grammar_places.specs.declared.span.RIdx.{RIdx}
use Rattle.lrpar_grammar_places.specs.declared.span.StIdx.{StIdx}
use Rattle.lrpar_grammar_places.specs.declared.span.TIdx.{TIdx}
use Rattle.lrpar_grammar.specs.Grammar.{GrammarSymbol, Terminal, prod_len, prods_len, rule_of, symbols_of}
use Rattle.lrpar_grammar.specs.Tokens.{has}
use Rattle.lrpar_grammar.specs.declared.token_set.TokenSet.{TokenSet}
use Rattle.lrpar_table_first.specs.FirstRows.{dummy_lookahead, row_at, rows_of}
use Rattle.lrpar_table_rows.specs.Graph.{HasCore, HasItem, items_of}
use Rattle.lrpar_table_rows.specs.Table.{action_of, states_len}
use Rattle.lrpar_table_conditions.specs.Complete.{CarriesItem, ClosesItem, EachItem, EndsItem, FailsFirstAt, HasStartItem, IsComplete, IsCompleteAt, IsFirstFault, ShiftsItem, StepsOn}
use Rattle.lrpar_table_conditions.specs.Itemwise.{AreReady, AreStartsOf, ClosesAmong, EachOfCore, EndsBy, HaveRoomFor, HaveStarts, IsKnown, ItemHolds}
use Rattle.lrpar_table_conditions.specs.declared.completeness.CompletenessCondition.{CompletenessCondition}
use Rattle.lrpar_table_conditions.specs.declared.completeness_test.Completeness.{Completeness}
use Rattle.lrpar_table_conditions.specs.declared.completeness_test.sets.WorkSets.{WorkSets}

-- the grammar is well formed, the table has the shape S1, and the FIRST sets are those of the rules
abbrev pub IsTestable : {S : Type 0} → Completeness S → Type 0
IsTestable parts = IsKnown parts.grm.now parts.sgraph.now parts.stable.now (rows_of parts.firsts.now)

-- the scratch sets have room, and those of the productions are empty
abbrev pub IsReadyWith : {S : Type 0} → Completeness S → WorkSets → Type 0
IsReadyWith parts sets = AreReady parts.grm.now sets

-- the scratch sets have room
abbrev pub HasRoomIn : {S : Type 0} → Completeness S → WorkSets → Type 0
HasRoomIn parts sets = HaveRoomFor parts.grm.now sets

-- there is a set for each production, with room for each token
abbrev pub HasSetsIn : {S : Type 0} → Completeness S → List TokenSet → Type 0
HasSetsIn parts starts = HaveStarts parts.grm.now (rows_of starts)

-- a set has room for each token
abbrev pub HasWidth : {S : Type 0} → Completeness S → TokenSet → Type 0
HasWidth parts set = length set ≡ dummy_lookahead parts.grm.now + 1

-- the state is one of the table, and so are the token and the rule; the production is one of the grammar; and so is the place of a dot
-- before one of its symbols
abbrev pub IsStateIn : {S : Type 0} → (S → ℕ) → Completeness S → StIdx S → Type 0
IsStateIn index parts s = index s.0 < states_len parts.stable.now

abbrev pub IsTokenIn : {S : Type 0} → (S → ℕ) → Completeness S → TIdx S → Type 0
IsTokenIn index parts token = index token.0 < parts.stable.now.tokens

abbrev pub IsRuleIn : {S : Type 0} → (S → ℕ) → Completeness S → RIdx S → Type 0
IsRuleIn index parts rule = index rule.0 < parts.stable.now.rules

abbrev pub IsProdIn : {S : Type 0} → (S → ℕ) → Completeness S → PIdx S → Type 0
IsProdIn index parts prod = index prod.0 < prods_len parts.grm.now

abbrev pub IsDotIn : {S : Type 0} → (S → ℕ) → Completeness S → PIdx S → ℕ → Type 0
IsDotIn index parts prod dot = dot < prod_len parts.grm.now (index prod.0)

-- the state has the core
abbrev pub HasCoreIn : {S : Type 0} → (S → ℕ) → Completeness S → StIdx S → PIdx S → ℕ → Type 0
HasCoreIn index parts s prod dot = HasCore parts.sgraph.now (index s.0) (index prod.0) dot

-- the state has the item
abbrev pub HasItemIn : {S : Type 0} → (S → ℕ) → Completeness S → StIdx S → PIdx S → ℕ → TIdx S → Type 0
HasItemIn index parts s prod dot token = HasItem parts.sgraph.now (index s.0) (index prod.0) dot (index token.0)

-- this, if it is there, is a lookahead of an item of the state with this core
abbrev pub IsNear : {S : Type 0} → (S → ℕ) → Completeness S → Option (Bor (TIdx S)) → StIdx S → PIdx S → ℕ → Type 0
IsNear index parts near s prod dot = IfSome near (λ other. HasItem parts.sgraph.now (index s.0) (index prod.0) dot (index other.now.0))

-- a condition of completeness holds at the state
abbrev pub IsCompleteIn : {S : Type 0} → (S → ℕ) → Completeness S → CompletenessCondition → StIdx S → Type 0
IsCompleteIn index parts condition s = IsCompleteAt parts.grm.now parts.sgraph.now parts.stable.now condition (index s.0)

-- this is the first state at which the condition fails; if there is none, it holds at each
abbrev pub IsFirstIncomplete : {S : Type 0} → Completeness S → CompletenessCondition → Option ℕ → Type 0
IsFirstIncomplete parts condition found =
    MatchOption found
    ((s : ℕ) → s < states_len parts.stable.now → IsCompleteAt parts.grm.now parts.sgraph.now parts.stable.now condition s)
    (λ s. FailsFirstAt parts.grm.now parts.sgraph.now parts.stable.now condition s)

-- this is the first fault; if there is none, the table is complete
abbrev pub IsFirstFaultIn : {S : Type 0} → Completeness S → Option (CompletenessCondition × ℕ) → Type 0
IsFirstFaultIn parts found =
    MatchOption found (IsComplete parts.grm.now parts.sgraph.now parts.stable.now)
    (λ fault. IsFirstFault parts.grm.now parts.sgraph.now parts.stable.now fault.0 fault.1)

-- C1 holds at the state
abbrev pub StartsRight : {S : Type 0} → (S → ℕ) → Completeness S → StIdx S → Type 0
StartsRight index parts s = HasStartItem parts.grm.now parts.sgraph.now parts.stable.now (index s.0)

-- C2 holds for each item of the state: by its own items, and by these sets
abbrev pub ClosesItems : {S : Type 0} → (S → ℕ) → Completeness S → StIdx S → Type 0
ClosesItems index parts s = EachItem parts.sgraph.now (index s.0) (ClosesItem parts.grm.now parts.sgraph.now (index s.0))

abbrev pub ClosesItemsBy : {S : Type 0} → (S → ℕ) → Completeness S → StIdx S → List TokenSet → Type 0
ClosesItemsBy index parts s starts = EachItem parts.sgraph.now (index s.0) (ClosesAmong parts.grm.now (rows_of starts))

-- C2 holds for each item with the core, by these sets
abbrev pub ClosesCoreBy : {S : Type 0} → (S → ℕ) → Completeness S → StIdx S → PIdx S → ℕ → List TokenSet → Type 0
ClosesCoreBy index parts s prod dot starts =
    EachOfCore parts.sgraph.now (index s.0) (index prod.0) dot (ClosesAmong parts.grm.now (rows_of starts))

-- the set of each production of the rule has these tokens
abbrev pub StartsCover : {S : Type 0} → (S → ℕ) → Completeness S → RIdx S → TokenSet → List TokenSet → Type 0
StartsCover index parts rule tokens starts =
    (q b : ℕ) → q < prods_len parts.grm.now → rule_of parts.grm.now q ≡ index rule.0
    → IsTrue (has tokens b) → IsTrue (has (row_at (rows_of starts) q) b)

-- each production's set has the lookaheads of its items with dot 0 in the state
abbrev pub HasStartsOf : {S : Type 0} → (S → ℕ) → Completeness S → StIdx S → List TokenSet → Type 0
HasStartsOf index parts s starts = AreStartsOf (items_of parts.sgraph.now (index s.0)) (rows_of starts)

-- if the dot is 0, the lookaheads of the core are put into its production's set, and nothing else is
abbrev pub PutsStart : {S : Type 0} → (S → ℕ) → Completeness S → StIdx S → PIdx S → ℕ → List TokenSet → List TokenSet → Type 0
PutsStart index parts s prod dot old new =
    (q t : ℕ) → IsTrue (has (row_at (rows_of new) q) t) ↔ (IsTrue (has (row_at (rows_of old) q) t)
    ⊎ ((index prod.0 ≡ q) × (dot ≡ 0) × HasItem parts.sgraph.now (index s.0) q 0 t))

-- if the dot is 0, the set of the production is empty, and nothing is added to a set
abbrev pub ClearsStart : {S : Type 0} → (S → ℕ) → PIdx S → ℕ → List TokenSet → List TokenSet → Type 0
ClearsStart index prod dot old new =
    (q t : ℕ) → IsTrue (has (row_at (rows_of new) q) t) → IsTrue (has (row_at (rows_of old) q) t) × (index prod.0 ≡ q → dot ≢ 0)

-- the lookaheads of the state's items with this core are added to the set, and nothing else is
abbrev pub AddsLookaheads : {S : Type 0} → (S → ℕ) → Completeness S → StIdx S → PIdx S → ℕ → TokenSet → TokenSet → Type 0
AddsLookaheads index parts s prod dot old new =
    (t : ℕ) → IsTrue (has new t) ↔ (IsTrue (has old t) ⊎ HasItem parts.sgraph.now (index s.0) (index prod.0) dot t)

-- what C3, C4 or C5 requires holds for each item of the state, and for each of those with the core
abbrev pub ItemsHold : {S : Type 0} → (S → ℕ) → Completeness S → CompletenessCondition → StIdx S → Type 0
ItemsHold index parts condition s =
    EachItem parts.sgraph.now (index s.0) (ItemHolds parts.grm.now parts.sgraph.now parts.stable.now condition (index s.0))

abbrev pub CoreHolds : {S : Type 0} → (S → ℕ) → Completeness S → CompletenessCondition → StIdx S → PIdx S → ℕ → Type 0
CoreHolds index parts condition s prod dot =
    EachOfCore parts.sgraph.now (index s.0) (index prod.0) dot (ItemHolds parts.grm.now parts.sgraph.now parts.stable.now condition (index s.0))

-- C3, C4 and C5 for each item of the state with the core
abbrev pub ShiftsCore : {S : Type 0} → (S → ℕ) → Completeness S → StIdx S → PIdx S → ℕ → Type 0
ShiftsCore index parts s prod dot =
    EachOfCore parts.sgraph.now (index s.0) (index prod.0) dot (ShiftsItem parts.grm.now parts.sgraph.now parts.stable.now (index s.0))

abbrev pub CarriesCore : {S : Type 0} → (S → ℕ) → Completeness S → StIdx S → PIdx S → ℕ → Type 0
CarriesCore index parts s prod dot =
    EachOfCore parts.sgraph.now (index s.0) (index prod.0) dot (CarriesItem parts.grm.now parts.sgraph.now parts.stable.now (index s.0))

abbrev pub EndsCore : {S : Type 0} → (S → ℕ) → Completeness S → StIdx S → PIdx S → ℕ → Type 0
EndsCore index parts s prod dot =
    EachOfCore parts.sgraph.now (index s.0) (index prod.0) dot (EndsItem parts.grm.now parts.stable.now (index s.0))

-- the state goes by the symbol to a state with the advanced items of those with the core
abbrev pub StepsOnBy : {S : Type 0} → (S → ℕ) → Completeness S → StIdx S → GrammarSymbol → PIdx S → ℕ → Type 0
StepsOnBy index parts s symbol prod dot =
    EachOfCore parts.sgraph.now (index s.0) (index prod.0) dot (StepsOn parts.sgraph.now parts.stable.now (index s.0) symbol)

-- state `next` has the advanced items of those of s with the core
abbrev pub HasAdvanced : {S : Type 0} → (S → ℕ) → Completeness S → StIdx S → PIdx S → ℕ → StIdx S → Type 0
HasAdvanced index parts s prod dot next =
    (t : ℕ) → HasItem parts.sgraph.now (index s.0) (index prod.0) dot t → HasItem parts.sgraph.now (index next.0) (index prod.0) (dot + 1) t

-- this is the token after the dot, if there is one
abbrev pub IsTokenAfter : {S : Type 0} → (S → ℕ) → Completeness S → PIdx S → ℕ → Option (TIdx S) → Type 0
IsTokenAfter index parts prod dot token =
    MatchOption token ((a : ℕ) → slice_get (symbols_of parts.grm.now (index prod.0)) dot ≢ Some (Terminal a))
    (λ x. slice_get (symbols_of parts.grm.now (index prod.0)) dot ≡ Some (Terminal (index x.0)))

-- the state ends the production at each lookahead of its items with the core, and at one token
abbrev pub EndsEach : {S : Type 0} → (S → ℕ) → Completeness S → StIdx S → PIdx S → ℕ → Type 0
EndsEach index parts s prod dot =
    (t : ℕ) → HasItem parts.sgraph.now (index s.0) (index prod.0) dot t
    → EndsBy parts.grm.now (index prod.0) (action_of parts.stable.now (index s.0) t)

abbrev pub EndsAt : {S : Type 0} → (S → ℕ) → Completeness S → StIdx S → PIdx S → TIdx S → Type 0
EndsAt index parts s prod token = EndsBy parts.grm.now (index prod.0) (action_of parts.stable.now (index s.0) (index token.0))
