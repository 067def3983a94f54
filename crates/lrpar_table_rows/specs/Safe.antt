-- When a table is safe to run: its item sets and its entries agree, locally, in each state. These are the conditions
-- of Jourdan, Pottier and Leroy, 'Validating LR(1) parsers'. With them a run never meets an empty stack, a missing goto,
-- symbols that aren't the production's, or an Accept with anything but one value of the start rule. The conditions speak of
-- states alone, not of runs. An LR(1) item `E: T . '+' E  {end}` is a production, a dot and a lookahead; without the
-- lookahead it is an LR(0) core.
use Rattle.std.specs.Prelude.{◌≡◌, ◌≢◌, ◌<◌, ◌≤◌, ◌+◌, ℕ, Some, slice_get}
use Rattle.lrpar_grammar.specs.Grammar.{Grammar, GrammarSymbol, Nonterminal, Terminal, prods_len, prod_len, rules_len, tokens_len, end_token, start_prod, rule_of, symbols_of}
use Rattle.lrpar_table_rows.specs.Graph.{Graph, HasItem, HasCore, graph_len}
use Rattle.lrpar_table_rows.specs.Table.{Table, ShiftTo, ReduceBy, Accepts, action_of, goto_of, states_len}
use Rattle.lrpar_table_rows.specs.declared.condition.SafetyCondition.{SafetyCondition}
use Rattle.lrpar_table_rows.specs.declared.condition.SafetyCondition.TheVariants.{S2, S3, S4, S5, S6, S7, S8}

-- state s has a transition to state next by a symbol: it shifts the token, or has a goto by the rule
abbrev pub GoesBy : Table → ℕ → GrammarSymbol → ℕ → Type 0
GoesBy table s (Terminal t) next = action_of table s t ≡ ShiftTo next
GoesBy table s (Nonterminal r) next = goto_of table s r ≡ Some next

-- an item of the grammar: a production, a dot up to its length, and a token as lookahead
pub record IsItem (g : Grammar) (p k t : ℕ) : Type 0 where
  pub prod : p < prods_len g
  pub dot : k ≤ prod_len g p
  pub token : t < tokens_len g

-- S1: the graph and the table have the same number of states, at least one; the table has the grammar's tokens and rules;
-- each Reduce names a production of the grammar; the items are of the grammar
pub record HasShape (g : Grammar) (graph : Graph) (table : Table) : Type 0 where
  pub states : graph_len graph ≡ states_len table
  pub some : 0 < states_len table
  pub tokens : table.tokens ≡ tokens_len g
  pub rules : table.rules ≡ rules_len g
  pub reduces : (s t p : ℕ) → action_of table s t ≡ ReduceBy p → p < prods_len g
  pub items : (s p k t : ℕ) → HasItem graph s p k t → IsItem g p k t

-- S2: the items of the start state have dot 0
abbrev pub StartsFresh : Graph → Table → ℕ → Type 0
StartsFresh graph table s = s ≡ table.start → (p k : ℕ) → HasCore graph s p k → k ≡ 0

-- S3: no state shifts the end token
abbrev pub NeverShiftsEnd : Grammar → Table → ℕ → Type 0
NeverShiftsEnd g table s = (next : ℕ) → action_of table s (end_token g) ≢ ShiftTo next

-- each core `A: v Y . w` of state next has Y = X, and comes from the core `A: v . X w` of state s
abbrev pub CoresFollow : Grammar → Graph → ℕ → GrammarSymbol → ℕ → Type 0
CoresFollow g graph s x next = (p k : ℕ) → HasCore graph next p (k + 1) → (slice_get (symbols_of g p) k ≡ Some x) × HasCore graph s p k

-- S4: if s goes to a state by X, each core of that state with a dot past 0, that of a kernel item, comes from a core of s by X
abbrev pub StepsFromCores : Grammar → Graph → Table → ℕ → Type 0
StepsFromCores g graph table s = (x : GrammarSymbol) (next : ℕ) → GoesBy table s x next → CoresFollow g graph s x next

-- S5: if s reduces by a production, it isn't the start production, and s has its complete core `A: v .`
abbrev pub ReducesComplete : Grammar → Graph → Table → ℕ → Type 0
ReducesComplete g graph table s =
    (t p : ℕ) → action_of table s t ≡ ReduceBy p → (p ≢ start_prod g) × HasCore graph s p (prod_len g p)

-- S6: if s has a core `A: . v`, not of the start production, it has a goto by A
abbrev pub GoesByRules : Grammar → Graph → Table → ℕ → Type 0
GoesByRules g graph table s =
    (p : ℕ) → HasCore graph s p 0 → p ≢ start_prod g → (next : ℕ) × (goto_of table s (rule_of g p) ≡ Some next)

-- S7: if s accepts, the token is the end token, and s has the complete core `^: S .`
abbrev pub AcceptsOnlyAtEnd : Grammar → Graph → Table → ℕ → Type 0
AcceptsOnlyAtEnd g graph table s =
    (t : ℕ) → action_of table s t ≡ Accepts → (t ≡ end_token g) × HasCore graph s (start_prod g) 1

-- S8: s has no transition to the start state; and it has the core `^: . S` only if it is the start state
pub record NeverEntersStart (g : Grammar) (graph : Graph) (table : Table) (s : ℕ) : Type 0 where
  pub never_back : (x : GrammarSymbol) → ¬ (GoesBy table s x table.start)
  pub first_core : HasCore graph s (start_prod g) 0 → s ≡ table.start

-- the condition holds at state s
abbrev pub IsSafeAt : Grammar → Graph → Table → SafetyCondition → ℕ → Type 0
IsSafeAt g graph table S2 s = StartsFresh graph table s
IsSafeAt g graph table S3 s = NeverShiftsEnd g table s
IsSafeAt g graph table S4 s = StepsFromCores g graph table s
IsSafeAt g graph table S5 s = ReducesComplete g graph table s
IsSafeAt g graph table S6 s = GoesByRules g graph table s
IsSafeAt g graph table S7 s = AcceptsOnlyAtEnd g graph table s
IsSafeAt g graph table S8 s = NeverEntersStart g graph table s

-- the table is safe: it has the shape S1, and each condition holds at each state
pub record IsSafe (g : Grammar) (graph : Graph) (table : Table) : Type 0 where
  pub shape : HasShape g graph table
  pub each : (condition : SafetyCondition) (s : ℕ) → s < states_len table → IsSafeAt g graph table condition s
