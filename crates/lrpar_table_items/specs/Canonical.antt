-- The canonical collection of LR(1) item sets of a grammar, the actions before conflict resolution that its sets call for, their
-- conflicts, and the table that resolves them. Item sets are numbered: `sets s x` says that set s has item x.
use Rattle.std.specs.Prelude.{◌≡◌, ◌≢◌, ◌<◌, ◌≤◌, ◌↔◌, ℕ, List, [], All, Contains, Option, Some, None, length, slice_get, slice_index_or}
use Rattle.lrpar_grammar.specs.Grammar.{Grammar, GrammarSymbol, Nonterminal, Terminal, end_token, prod_len, start_prod, symbols_of}
use Rattle.lrpar_table_rows.specs.Graph.{Graph, ItemOf, graph_len, item_at, items_of}
use Rattle.lrpar_table_precedence.specs.Precedence.{PrecedenceLists, resolution_of}
use Rattle.lrpar_table_rows.specs.Table.{ReduceReduce, ResolvedOf, ShiftReduce, Table, ShiftTo, ReduceBy, Accepts, Fails, action_of, goto_of}
use Rattle.lrpar_table_items.specs.ItemSets.{IsInNext, IsReachedBy}
use Rattle.lrpar_table_items.specs.Resolution.{chosen}

-- two sets have the same items
abbrev pub AreSame : (ItemOf → Type 0) → (ItemOf → Type 0) → Type 0
AreSame items others = (x : ItemOf) → items x ↔ others x

-- the sets numbered below len are the canonical collection: all nonempty sets that gotos reach from the start, each once; number 0
-- is the closure of the start item
pub record AreCanonical (g : Grammar) (len : ℕ) (sets : ℕ → ItemOf → Type 0) : Type 0 where
  pub start : AreSame (sets 0) (IsReachedBy g [])
  pub some : (s : ℕ) → s < len → (x : ItemOf) × sets s x
  pub reached : (s : ℕ) → s < len → (path : List GrammarSymbol) × AreSame (sets s) (IsReachedBy g path)
  pub all : (path : List GrammarSymbol) (x : ItemOf) → IsReachedBy g path x → (s : ℕ) × (s < len) × AreSame (sets s) (IsReachedBy g path)
  pub once : (s other : ℕ) → s < len → other < len → AreSame (sets s) (sets other) → s ≡ other

-- gotos reach more than n nonempty sets: one by each of these paths, none of them twice
pub record ReachesMore (g : Grammar) (n : ℕ) : Type 0 where
  pub paths : List (List GrammarSymbol)
  pub more : n < length paths
  pub some : All (λ path. (x : ItemOf) × IsReachedBy g path x) paths
  pub once : (s other : ℕ) → s < length paths → other < length paths
      → AreSame (IsReachedBy g (slice_index_or paths s [])) (IsReachedBy g (slice_index_or paths other [])) → s ≡ other

-- an item of set s has the symbol after its dot
abbrev pub HasAfterDot : Grammar → (ℕ → ItemOf → Type 0) → ℕ → GrammarSymbol → Type 0
HasAfterDot g sets s symbol = (x : ItemOf) × sets s x × (slice_get (symbols_of g x.prod) x.dot ≡ Some symbol)

-- set next is the goto of set s by the symbol
abbrev pub LeadsTo : Grammar → (ℕ → ItemOf → Type 0) → ℕ → GrammarSymbol → ℕ → Type 0
LeadsTo g sets s symbol next = AreSame (sets next) (IsInNext g (sets s) symbol)

-- the transition of set s by the symbol: to one of the len sets if an item of s has the symbol after its dot, otherwise none
abbrev pub IsTransition : Grammar → ℕ → (ℕ → ItemOf → Type 0) → ℕ → GrammarSymbol → Option ℕ → Type 0
IsTransition g len sets s symbol None = ¬ (HasAfterDot g sets s symbol)
IsTransition g len sets s symbol (Some next) = HasAfterDot g sets s symbol × (next < len) × LeadsTo g sets s symbol next

-- an action before conflict resolution: set s has the complete item `A: v .  {t}` of production p, which isn't the start
-- production, so it calls for the reduction by p at lookahead t
abbrev pub HasReduce : Grammar → (ℕ → ItemOf → Type 0) → ℕ → ℕ → ℕ → Type 0
HasReduce g sets s t p = (p ≢ start_prod g) × sets s (item_at p (prod_len g p) t)

-- p is the least production by which set s calls for a reduction at t
abbrev pub HasFirstReduce : Grammar → (ℕ → ItemOf → Type 0) → ℕ → ℕ → ℕ → Type 0
HasFirstReduce g sets s t p = HasReduce g sets s t p × ((q : ℕ) → HasReduce g sets s t q → p ≤ q)

-- an action before conflict resolution: set s has the complete item `^: S .  {t}`, so it calls for accept at lookahead t
abbrev pub HasAccept : Grammar → (ℕ → ItemOf → Type 0) → ℕ → ℕ → Type 0
HasAccept g sets s t = sets s (item_at (start_prod g) 1 t)

-- the action of state s at token t is what conflict resolution gives: the shift, if items call for one; otherwise the reduction by
-- the least production; otherwise accept; otherwise an error
pub record ActsAsResolved (g : Grammar) (sets : ℕ → ItemOf → Type 0) (table : Table) (s t : ℕ) : Type 0 where
  pub shifts : HasAfterDot g sets s (Terminal t) → (next : ℕ) × (action_of table s t ≡ ShiftTo next) × LeadsTo g sets s (Terminal t) next
  pub reduces : ¬ (HasAfterDot g sets s (Terminal t)) → (p : ℕ) → HasFirstReduce g sets s t p → action_of table s t ≡ ReduceBy p
  pub accepts : ¬ (HasAfterDot g sets s (Terminal t)) → ((p : ℕ) → ¬ (HasReduce g sets s t p)) → HasAccept g sets s t
      → action_of table s t ≡ Accepts
  pub fails : ¬ (HasAfterDot g sets s (Terminal t)) → ((p : ℕ) → ¬ (HasReduce g sets s t p)) → ¬ (HasAccept g sets s t)
      → action_of table s t ≡ Fails

-- the action of state s at token t is what conflict resolution with precedences gives. If items call for a shift and for a reduction,
-- it is what the precedences decide between the shift and the reduction by the least production, and the shift, if they decide
-- nothing. Otherwise it is the shift, if items call for one; the reduction by the least production; accept; or an error
pub record ActsByPrecedence (g : Grammar) (lists : PrecedenceLists) (sets : ℕ → ItemOf → Type 0) (table : Table) (s t : ℕ) : Type 0 where
  pub meets : HasAfterDot g sets s (Terminal t) → (p : ℕ) → HasFirstReduce g sets s t p
      → (next : ℕ) × (action_of table s t ≡ chosen (resolution_of lists p t) next p) × LeadsTo g sets s (Terminal t) next
  pub shifts : HasAfterDot g sets s (Terminal t) → ((p : ℕ) → ¬ (HasReduce g sets s t p))
      → (next : ℕ) × (action_of table s t ≡ ShiftTo next) × LeadsTo g sets s (Terminal t) next
  pub reduces : ¬ (HasAfterDot g sets s (Terminal t)) → (p : ℕ) → HasFirstReduce g sets s t p → action_of table s t ≡ ReduceBy p
  pub accepts : ¬ (HasAfterDot g sets s (Terminal t)) → ((p : ℕ) → ¬ (HasReduce g sets s t p)) → HasAccept g sets s t
      → action_of table s t ≡ Accepts
  pub fails : ¬ (HasAfterDot g sets s (Terminal t)) → ((p : ℕ) → ¬ (HasReduce g sets s t p)) → ¬ (HasAccept g sets s t)
      → action_of table s t ≡ Fails

-- the goto of state s by rule r is that of its item set
pub record GoesAsItems (g : Grammar) (sets : ℕ → ItemOf → Type 0) (table : Table) (s r : ℕ) : Type 0 where
  pub goes : HasAfterDot g sets s (Nonterminal r) → (next : ℕ) × (goto_of table s r ≡ Some next) × LeadsTo g sets s (Nonterminal r) next
  pub stays : ¬ (HasAfterDot g sets s (Nonterminal r)) → goto_of table s r ≡ None

-- a reduce/reduce conflict: the state calls for reductions by two productions at the token, the first of them the least
abbrev pub IsReduceConflict : Grammar → (ℕ → ItemOf → Type 0) → ReduceReduce → Type 0
IsReduceConflict g sets x = HasFirstReduce g sets x.state x.token x.first × HasReduce g sets x.state x.token x.second × (x.first < x.second)

-- a shift/reduce conflict: the state calls for a shift at the token, and for a reduction; the production is the least one
abbrev pub IsShiftConflict : Grammar → (ℕ → ItemOf → Type 0) → ShiftReduce → Type 0
IsShiftConflict g sets x = HasAfterDot g sets x.state (Terminal x.token) × HasFirstReduce g sets x.state x.token x.prod

-- a shift/reduce conflict that precedences don't resolve
abbrev pub IsUnresolvedConflict : Grammar → PrecedenceLists → (ℕ → ItemOf → Type 0) → ShiftReduce → Type 0
IsUnresolvedConflict g lists sets x = IsShiftConflict g sets x × (resolution_of lists x.prod x.token ≡ None)

-- a shift/reduce conflict that precedences resolve, and how
abbrev pub IsResolvedConflict : Grammar → PrecedenceLists → (ℕ → ItemOf → Type 0) → ResolvedOf → Type 0
IsResolvedConflict g lists sets x = IsShiftConflict g sets x.conflict × (resolution_of lists x.conflict.prod x.conflict.token ≡ Some x.by)

-- an accept/reduce conflict: the set calls for accept at the end token, and for a reduction
abbrev pub IsAcceptConflict : Grammar → (ℕ → ItemOf → Type 0) → ℕ → Type 0
IsAcceptConflict g sets s = HasAccept g sets s (end_token g) × ((p : ℕ) × HasReduce g sets s (end_token g) p)

-- the item sets of a graph's states
abbrev pub sets_of : Graph → ℕ → ItemOf → Type 0
sets_of graph s x = Contains (items_of graph s) x

-- the item sets of the graph are the canonical collection
abbrev pub IsCanonical : Grammar → Graph → Type 0
IsCanonical g graph = AreCanonical g (graph_len graph) (sets_of graph)
