-- Merged item sets, as LALR(1) tables and Pager's tables have them, and the tables of them. As in the canonical collection, a state has
-- the closure of its items, and a transition by each symbol after a dot; but a state may have more lookaheads than each of the steps
-- that lead to it gives. Transitions are a relation: `goes s X n` says that state s goes by X to state n.
use Rattle.std.specs.Prelude.{◌≡◌, ◌≢◌, ◌<◌, ◌≤◌, ◌+◌, ℕ, List, [], ◌∷◌, Option, Some, None, slice_get}
use Rattle.lrpar_grammar.specs.Grammar.{Grammar, GrammarSymbol, Nonterminal, Terminal, rules_len, symbols_of, tokens_len}
use Rattle.lrpar_table_rows.specs.Graph.{Graph, ItemOf, graph_len, item_at}
use Rattle.lrpar_table_rows.specs.Table.{Table, ShiftTo, ReduceBy, Accepts, Fails, action_of, goto_of, states_len}
use Rattle.lrpar_table_items.specs.Canonical.{AreSame, HasAfterDot, HasAccept, HasFirstReduce, HasReduce, IsTransition, sets_of}
use Rattle.lrpar_table_items.specs.ItemSets.{IsReachedBy}
use Rattle.lrpar_table_build.specs.Built.{AreInOrder}
use Rattle.lrpar_table_build.specs.BuilderLaws.{AcceptAlone, AreConflictsOf, lists_in}
use Rattle.lrpar_table_merge.specs.Held.{IsHeld}

-- each core `A: v Y . w` of set n has Y = X, and comes from the core `A: v . X w` of set s; the lookaheads may differ
abbrev pub AreCoresFrom : Grammar → (ℕ → ItemOf → Type 0) → ℕ → GrammarSymbol → ℕ → Type 0
AreCoresFrom g sets s X n =
    (p k t : ℕ) → sets n (item_at p (k + 1) t) → (slice_get (symbols_of g p) k ≡ Some X) × ((u : ℕ) × sets s (item_at p k u))

-- a transition from set s by X to set n: X is after the dot of an item of s; n is one of the len sets, but not the start; and its
-- kernel has the cores of the step from s
pub record IsMergedStep (g : Grammar) (len : ℕ) (sets : ℕ → ItemOf → Type 0) (s : ℕ) (X : GrammarSymbol) (n : ℕ) : Type 0 where
  pub before : HasAfterDot g sets s X
  pub within : n < len
  pub never_back : n ≢ 0
  pub cores : AreCoresFrom g sets s X n

-- the sets numbered below len are merged item sets with these transitions: each set has an item, and exactly the items that it holds by
-- the transitions; and from each set there is one transition by each symbol after a dot, and no other
pub record AreMerged (g : Grammar) (len : ℕ) (sets : ℕ → ItemOf → Type 0) (goes : ℕ → GrammarSymbol → ℕ → Type 0) : Type 0 where
  pub start : 0 < len
  pub some : (s : ℕ) → s < len → (x : ItemOf) × sets s x
  pub held : (s : ℕ) → s < len → AreSame (sets s) (IsHeld g goes s)
  pub next : (s : ℕ) (X : GrammarSymbol) → s < len → HasAfterDot g sets s X → (n : ℕ) × goes s X n
  pub step : (s : ℕ) (X : GrammarSymbol) (n : ℕ) → s < len → goes s X n → IsMergedStep g len sets s X n
  pub once : (s : ℕ) (X : GrammarSymbol) (n m : ℕ) → s < len → goes s X n → goes s X m → n ≡ m

-- if items of state s call for a reduction at token t, and none for a shift, the action is the reduction by the least production
abbrev pub ReducesOtherwise : Grammar → (ℕ → ItemOf → Type 0) → Table → ℕ → ℕ → Type 0
ReducesOtherwise g sets table s t = ¬ (HasAfterDot g sets s (Terminal t)) → (p : ℕ) → HasFirstReduce g sets s t p → action_of table s t ≡ ReduceBy p

-- if an item calls for accept, and none for a shift or a reduction, the action is accept
abbrev pub AcceptsOtherwise : Grammar → (ℕ → ItemOf → Type 0) → Table → ℕ → ℕ → Type 0
AcceptsOtherwise g sets table s t =
    ¬ (HasAfterDot g sets s (Terminal t)) → ((p : ℕ) → ¬ (HasReduce g sets s t p)) → HasAccept g sets s t → action_of table s t ≡ Accepts

-- if items call for nothing, the action is an error
abbrev pub FailsOtherwise : Grammar → (ℕ → ItemOf → Type 0) → Table → ℕ → ℕ → Type 0
FailsOtherwise g sets table s t =
    ¬ (HasAfterDot g sets s (Terminal t)) → ((p : ℕ) → ¬ (HasReduce g sets s t p)) → ¬ (HasAccept g sets s t) → action_of table s t ≡ Fails

-- the action of state s at token t is what conflict resolution gives: the shift along the transition, if items call for one; otherwise
-- the reduction by the least production; otherwise accept; otherwise an error
pub record ActsAsMerged (g : Grammar) (sets : ℕ → ItemOf → Type 0) (goes : ℕ → GrammarSymbol → ℕ → Type 0) (table : Table) (s t : ℕ) : Type 0 where
  pub shifts : HasAfterDot g sets s (Terminal t) → (next : ℕ) × (action_of table s t ≡ ShiftTo next) × goes s (Terminal t) next
  pub reduces : ReducesOtherwise g sets table s t
  pub accepts : AcceptsOtherwise g sets table s t
  pub fails : FailsOtherwise g sets table s t

-- the goto of state s by rule r is along the transition
pub record GoesAsMerged (g : Grammar) (sets : ℕ → ItemOf → Type 0) (goes : ℕ → GrammarSymbol → ℕ → Type 0) (table : Table) (s r : ℕ) : Type 0 where
  pub goes_on : HasAfterDot g sets s (Nonterminal r) → (next : ℕ) × (goto_of table s r ≡ Some next) × goes s (Nonterminal r) next
  pub stays : ¬ (HasAfterDot g sets s (Nonterminal r)) → goto_of table s r ≡ None

-- the table has a state for each set of the graph, and starts in number 0; it has the grammar's tokens and rules; each state s has at each
-- token t an action with `Acts s t`, and its set's gotos; and past its states, tokens and rules it has no entries
pub record IsTableOfMerged (Acts : ℕ → ℕ → Type 0) (g : Grammar) (graph : Graph) (table : Table) (goes : ℕ → GrammarSymbol → ℕ → Type 0) : Type 0 where
  pub states : graph_len graph ≡ states_len table
  pub start : table.start ≡ 0
  pub tokens : table.tokens ≡ tokens_len g
  pub rules : table.rules ≡ rules_len g
  pub acts : (s t : ℕ) → s < states_len table → t < tokens_len g → Acts s t
  pub gotos : (s r : ℕ) → s < states_len table → r < rules_len g → GoesAsMerged g (sets_of graph) goes table s r
  pub no_state : (s t : ℕ) → states_len table ≤ s → action_of table s t ≡ Fails
  pub no_token : (s t : ℕ) → table.tokens ≤ t → action_of table s t ≡ Fails
  pub no_rule : (s r : ℕ) → table.rules ≤ r → goto_of table s r ≡ None

-- each state has the actions of its set after conflict resolution
abbrev pub IsMergedTable : Grammar → Graph → Table → (ℕ → GrammarSymbol → ℕ → Type 0) → Type 0
IsMergedTable g graph table goes = IsTableOfMerged (ActsAsMerged g (sets_of graph) goes table) g graph table goes

-- the transitions that a function gives: the next state of each state by each symbol, if there is one
abbrev pub Along : (ℕ → GrammarSymbol → Option ℕ) → ℕ → GrammarSymbol → ℕ → Type 0
Along steps s X n = steps s X ≡ Some n

-- with some transitions, the graph has merged item sets, and the table their actions after conflict resolution; the table has the
-- conflicts of the sets, in order; and no set has an accept/reduce conflict
pub record IsMerged (g : Grammar) (graph : Graph) (table : Table) : Type 0 where
  pub steps : ℕ → GrammarSymbol → Option ℕ
  pub merged : AreMerged g (graph_len graph) (sets_of graph) (Along steps)
  pub resolved : IsMergedTable g graph table (Along steps)
  pub conflicts : AreConflictsOf g graph table.conflicts
  pub in_order : AreInOrder (lists_in table.conflicts)
  pub accept_alone : AcceptAlone g (graph_len graph) (sets_of graph)

-- the transitions of a canonical collection
abbrev pub CanonicalGoes : Grammar → ℕ → (ℕ → ItemOf → Type 0) → ℕ → GrammarSymbol → ℕ → Type 0
CanonicalGoes g len sets s X n = IsTransition g len sets s X (Some n)

-- a path of symbols, its last symbol first, leads from state 0 to state s
abbrev pub LeadsAlong : (ℕ → GrammarSymbol → ℕ → Type 0) → List GrammarSymbol → ℕ → Type 0
LeadsAlong goes [] s = s ≡ 0
LeadsAlong goes (X ∷ path) s = (r : ℕ) × LeadsAlong goes path r × goes r X s

-- the set that gotos reach by the path is within set s, one of len, to which the path leads
pub record IsWithin (g : Grammar) (len : ℕ) (sets : ℕ → ItemOf → Type 0) (goes : ℕ → GrammarSymbol → ℕ → Type 0) (path : List GrammarSymbol) (s : ℕ) : Type 0 where
  pub low : s < len
  pub along : LeadsAlong goes path s
  pub items : (x : ItemOf) → IsReachedBy g path x → sets s x
