-- Transitions along a relation: `goes s X n` says that state s goes by X to state n. A table's rows may be made from the canonical
-- collection or from merged item sets; what they need of the transitions is only that there is one by each symbol after a dot.
use Rattle.std.proofs.Common.{◌≡◌, ◌<◌, ◌≤◌, ℕ, List, Option, Some, None, refl, length, nat_eq}
use Rattle.std.specs.Map.{lookup}
use Rattle.lrpar_grammar.specs.Grammar.{Grammar, GrammarSymbol, Nonterminal, Terminal, end_token, rules_len, tokens_len}
use Rattle.lrpar_table_precedence.specs.Precedence.{PrecedenceLists, resolution_of}
use Rattle.lrpar_table_rows.specs.Graph.{Graph, ItemOf, graph_len}
use Rattle.lrpar_table_rows.specs.Table.{Table, ShiftTo, ReduceBy, Accepts, Fails, action_of, goto_of, states_len}
use Rattle.lrpar_table_build.specs.Built.{AreInOrder, AreResolvedInOrder}
use Rattle.lrpar_table_build.specs.BuilderLaws.{AcceptAlone, AreConflictsBy, AreResolvedBy, lists_in}
use Rattle.lrpar_table_items.specs.Canonical.{AreSame, HasAfterDot, HasAccept, HasFirstReduce, HasReduce, sets_of}
use Rattle.lrpar_table_items.specs.Resolution.{chosen}
use Rattle.lrpar_table_items.specs.States.{AreStateRows, StateOf, sets_at, state_at}
use Rattle.lrpar_table_build.proofs.SetLemmas.{before_other, before_same}

-- the transition of set s by the symbol: one that the relation has, if an item of s has the symbol after its dot, otherwise none
abbrev pub IsStepAlong : Grammar → (ℕ → ItemOf → Type 0) → (ℕ → GrammarSymbol → ℕ → Type 0) → ℕ → GrammarSymbol → Option ℕ → Type 0
IsStepAlong g sets goes s symbol None = ¬ (HasAfterDot g sets s symbol)
IsStepAlong g sets goes s symbol (Some next) = HasAfterDot g sets s symbol × goes s symbol next

-- the action of state s at token t is what conflict resolution with precedences gives, shifts along the relation
pub record ActsAlong (g : Grammar) (lists : PrecedenceLists) (sets : ℕ → ItemOf → Type 0) (goes : ℕ → GrammarSymbol → ℕ → Type 0) (table : Table) (s t : ℕ) : Type 0 where
  pub meets : HasAfterDot g sets s (Terminal t) → (p : ℕ) → HasFirstReduce g sets s t p
      → (next : ℕ) × (action_of table s t ≡ chosen (resolution_of lists p t) next p) × goes s (Terminal t) next
  pub shifts : HasAfterDot g sets s (Terminal t) → ((p : ℕ) → ¬ (HasReduce g sets s t p))
      → (next : ℕ) × (action_of table s t ≡ ShiftTo next) × goes s (Terminal t) next
  pub reduces : ¬ (HasAfterDot g sets s (Terminal t)) → (p : ℕ) → HasFirstReduce g sets s t p → action_of table s t ≡ ReduceBy p
  pub accepts : ¬ (HasAfterDot g sets s (Terminal t)) → ((p : ℕ) → ¬ (HasReduce g sets s t p)) → HasAccept g sets s t
      → action_of table s t ≡ Accepts
  pub fails : ¬ (HasAfterDot g sets s (Terminal t)) → ((p : ℕ) → ¬ (HasReduce g sets s t p)) → ¬ (HasAccept g sets s t)
      → action_of table s t ≡ Fails

-- the goto of state s by rule r is along the relation
pub record GoesAlong (g : Grammar) (sets : ℕ → ItemOf → Type 0) (goes : ℕ → GrammarSymbol → ℕ → Type 0) (table : Table) (s r : ℕ) : Type 0 where
  pub goes_on : HasAfterDot g sets s (Nonterminal r) → (next : ℕ) × (goto_of table s r ≡ Some next) × goes s (Nonterminal r) next
  pub stays : ¬ (HasAfterDot g sets s (Nonterminal r)) → goto_of table s r ≡ None

-- there are states; their lookaheads are tokens, and the end token where they accept; and their transitions go along the relation
pub record AreStatesAlong (g : Grammar) (states : List StateOf) (goes : ℕ → GrammarSymbol → ℕ → Type 0) : Type 0 where
  pub rows : AreStateRows g states
  pub some : 0 < length states
  pub tokens : (s : ℕ) (x : ItemOf) → s < length states → sets_at states s x → x.token < tokens_len g
  pub at_end : (s t : ℕ) → s < length states → HasAccept g (sets_at states) s t → t ≡ end_token g
  pub gotos : (s r : ℕ) → s < length states → IsStepAlong g (sets_at states) goes s (Nonterminal r) (lookup (nat_eq r) (state_at states s).gotos)
  pub shifts : (s t : ℕ) → s < length states → IsStepAlong g (sets_at states) goes s (Terminal t) (lookup (nat_eq t) (state_at states s).shifts)

-- the table has in each state the actions of its set after conflict resolution by precedences, and the set's gotos, along the relation
pub record IsTableAlong (g : Grammar) (lists : PrecedenceLists) (graph : Graph) (table : Table) (goes : ℕ → GrammarSymbol → ℕ → Type 0) : Type 0 where
  pub states : graph_len graph ≡ states_len table
  pub start : table.start ≡ 0
  pub tokens : table.tokens ≡ tokens_len g
  pub rules : table.rules ≡ rules_len g
  pub acts : (s t : ℕ) → s < states_len table → t < tokens_len g → ActsAlong g lists (sets_of graph) goes table s t
  pub gotos : (s r : ℕ) → s < states_len table → r < rules_len g → GoesAlong g (sets_of graph) goes table s r
  pub no_state : (s t : ℕ) → states_len table ≤ s → action_of table s t ≡ Fails
  pub no_token : (s t : ℕ) → table.tokens ≤ t → action_of table s t ≡ Fails
  pub no_rule : (s r : ℕ) → table.rules ≤ r → goto_of table s r ≡ None

-- and it has the conflicts of the sets that the precedences don't resolve, and those that they do, in order; no set has an accept/reduce
-- conflict
pub record IsBuiltAlong (g : Grammar) (lists : PrecedenceLists) (graph : Graph) (table : Table) (goes : ℕ → GrammarSymbol → ℕ → Type 0) : Type 0 where
  pub resolution : IsTableAlong g lists graph table goes
  pub conflicts : AreConflictsBy g lists graph table.conflicts
  pub in_order : AreInOrder (lists_in table.conflicts)
  pub resolved : AreResolvedBy g lists graph table.resolved
  pub resolved_in_order : AreResolvedInOrder table.resolved
  pub accept_alone : AcceptAlone g (graph_len graph) (sets_of graph)

-- sets with the same items have the same transitions
pub step_along_same : (g : Grammar) (sets others : ℕ → ItemOf → Type 0) → ((s : ℕ) → AreSame (sets s) (others s)) → (goes : ℕ → GrammarSymbol → ℕ → Type 0)
    (s : ℕ) (symbol : GrammarSymbol) (step : Option ℕ) → IsStepAlong g others goes s symbol step → IsStepAlong g sets goes s symbol step
step_along_same g sets others same goes s symbol None none = λ before. none (before_other g sets others same s symbol before)
step_along_same g sets others same goes s symbol (Some next) h = (before_same g sets others same s symbol h.0, h.1)

-- if there is a transition by a symbol, an item has the symbol after its dot
pub step_before : (g : Grammar) (sets : ℕ → ItemOf → Type 0) (goes : ℕ → GrammarSymbol → ℕ → Type 0) (s : ℕ) (symbol : GrammarSymbol) (step : Option ℕ) (next : ℕ)
    → IsStepAlong g sets goes s symbol step → step ≡ Some next → HasAfterDot g sets s symbol
step_before g sets goes s symbol None next h is = absurd (cc)
step_before g sets goes s symbol (Some other) next h is = h.0

pub before_step : (g : Grammar) (sets : ℕ → ItemOf → Type 0) (goes : ℕ → GrammarSymbol → ℕ → Type 0) (s : ℕ) (symbol : GrammarSymbol) (step : Option ℕ)
    → IsStepAlong g sets goes s symbol step → HasAfterDot g sets s symbol → (next : ℕ) × (step ≡ Some next)
before_step g sets goes s symbol None h before = absurd (h before)
before_step g sets goes s symbol (Some next) h before = (next, refl)
