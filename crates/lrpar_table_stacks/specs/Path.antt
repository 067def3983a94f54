-- Stacks of states with the symbols that lead from each state to the next, both bottom first; and what a run never meets on them.
use Rattle.std.specs.Prelude.{◌≡◌, ◌≢◌, ℕ, List, [], ◌∷◌, ◌++◌}
use Rattle.lrpar_grammar.specs.Grammar.{Grammar, GrammarSymbol, Nonterminal, Terminal, IsWellFormed, end_token, start_prod, rule_of, symbols_of}
use Rattle.lrpar_table_rows.specs.Graph.{Graph}
use Rattle.lrpar_table_rows.specs.Table.{Table, ShiftTo, ReduceBy, Accepts, FailsPastTokens, HasNoGotoPastRules, IsClosed}
use Rattle.lrpar_table_stacks.specs.Reduction.{Reduces, top_action}
use Rattle.lrpar_table_stacks.specs.Stack.{IsStack}
use Rattle.lrpar_table_rows.specs.Safe.{GoesBy, IsSafe}

-- from state s the symbols lead through the states of st, one after the other
abbrev pub Leads : Table → ℕ → List GrammarSymbol → List ℕ → Type 0
Leads table s [] [] = Unit {0}
Leads table s [] (next ∷ st) = ⊥
Leads table s (x ∷ xs) [] = ⊥
Leads table s (x ∷ xs) (next ∷ st) = GoesBy table s x next × Leads table next xs st

-- the start state is at the bottom, and each state goes to the one above it by the symbol between them
abbrev pub IsPath : Table → List GrammarSymbol → List ℕ → Type 0
IsPath table symbols [] = ⊥
IsPath table symbols (s ∷ st) = (s ≡ table.start) × Leads table s symbols st

-- a path is a stack, if the table has no entries past its tokens and its rules
abbrev pub PathsAreStacks : Type 0
PathsAreStacks =
    (table : Table) (symbols : List GrammarSymbol) (st : List ℕ) → FailsPastTokens table → HasNoGotoPastRules table → IsPath table symbols st
    → IsStack table st

-- every stack is a path along some symbols
abbrev pub StacksArePaths : Type 0
StacksArePaths = (table : Table) (st : List ℕ) → IsStack table st → (symbols : List GrammarSymbol) × IsPath table symbols st

-- At token t a stack along these symbols reduces by p: p isn't the start production, its symbols are the top ones, there are
-- more states than symbols of p, and the state that is left has a goto by the rule of p.
pub record ReducesAlong (g : Grammar) (table : Table) (symbols : List GrammarSymbol) (st : List ℕ) (t p : ℕ) : Type 0 where
  pub listed : p ≢ start_prod g
  pub below : List GrammarSymbol
  pub split : symbols ≡ below ++ symbols_of g p
  pub after : List ℕ
  pub reduces : Reduces g table t st p after
  pub path : IsPath table (below ++ Nonterminal (rule_of g p) ∷ []) after

-- On each stack that a run reaches, it can take the action of the top state: it doesn't shift the end token; a reduction finds
-- the symbols of its production and its goto; and it accepts only at the end token, with the start rule alone.
pub record NeverSticks (g : Grammar) (table : Table) : Type 0 where
  pub shifts : (symbols : List GrammarSymbol) (st : List ℕ) (t next : ℕ) → IsPath table symbols st → top_action table t st ≡ ShiftTo next
      → (t ≢ end_token g) × IsPath table (symbols ++ Terminal t ∷ []) (st ++ next ∷ [])
  pub reduces : (symbols : List GrammarSymbol) (st : List ℕ) (t p : ℕ) → IsPath table symbols st → top_action table t st ≡ ReduceBy p
      → ReducesAlong g table symbols st t p
  pub accepts : (symbols : List GrammarSymbol) (st : List ℕ) (t : ℕ) → IsPath table symbols st → top_action table t st ≡ Accepts
      → (t ≡ end_token g) × (symbols ≡ Nonterminal g.start ∷ [])

-- a run over a checked table never sticks
abbrev pub CheckedRunsNeverStick : Type 0
CheckedRunsNeverStick =
    (g : Grammar) (graph : Graph) (table : Table) → IsWellFormed g → IsClosed table → IsSafe g graph table → NeverSticks g table
