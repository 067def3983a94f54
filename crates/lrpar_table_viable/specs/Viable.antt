-- When a table is viable: each state has an item, and each core of it is there for a reason: it comes from the start, or from a
-- kernel core by closure. This is about cores alone, whatever their lookaheads. With the conditions of a safe table, some sentential
-- form then begins with the symbols of a stack of states, and goes on with those after the dot of any core of its top state. Cores
-- are written as in Safe.antt.
use Rattle.std.specs.Prelude.{◌≡◌, ◌<◌, ◌+◌, ℕ, List, ◌∷◌, drop}
use Rattle.lrpar_grammar.specs.Grammar.{Grammar, GrammarSymbol, Nonterminal, prods_len, rule_of, start_prod, symbols_of}
use Rattle.lrpar_table_rows.specs.Graph.{Graph, HasCore}
use Rattle.lrpar_table_rows.specs.Table.{Table, states_len}
use Rattle.lrpar_table_viable.specs.declared.viable_fault.ViableFault.{ViableFault}
use Rattle.lrpar_table_viable.specs.declared.viable_fault.ViableFault.TheVariants.{Empty, Memory, Unjustified}

-- core `A: v . B w` adds core `B: . u`: the first has a rule after its dot, and the second is of one of its productions
pub record AddsCore (g : Grammar) (p k q : ℕ) : Type 0 where
  pub rule : ℕ
  pub rest : List GrammarSymbol
  pub before : drop k (symbols_of g p) ≡ Nonterminal rule ∷ rest
  pub known : q < prods_len g
  pub of_rule : rule_of g q ≡ rule

-- a core of state s is justified: its dot is past 0, so that it comes from a transition to s; or s is the start state, and it is
-- `^: . S`; or a justified core of s adds it
pub data IsJustified (g : Grammar) (graph : Graph) (table : Table) (s : ℕ) : ℕ → ℕ → Type 0 where
  Kernel : (p k : ℕ) → HasCore graph s p (k + 1) → IsJustified g graph table s p (k + 1)
  Begins : s ≡ table.start → HasCore graph s (start_prod g) 0 → IsJustified g graph table s (start_prod g) 0
  Closes : (p k q : ℕ) → IsJustified g graph table s p k → AddsCore g p k q → HasCore graph s q 0 → IsJustified g graph table s q 0

-- state s has a core, and each of its cores is justified
pub record IsViableAt (g : Grammar) (graph : Graph) (table : Table) (s : ℕ) : Type 0 where
  pub some : (p : ℕ) × (k : ℕ) × HasCore graph s p k
  pub justified : (p k : ℕ) → HasCore graph s p k → IsJustified g graph table s p k

-- each state of the table is viable
pub record IsViable (g : Grammar) (graph : Graph) (table : Table) : Type 0 where
  pub each : (s : ℕ) → s < states_len table → IsViableAt g graph table s

-- state s has no core, and each state before it is viable
pub record IsFirstEmpty (g : Grammar) (graph : Graph) (table : Table) (s : ℕ) : Type 0 where
  pub within : s < states_len table
  pub none : (p k : ℕ) → ¬ (HasCore graph s p k)
  pub earlier : (r : ℕ) → r < s → IsViableAt g graph table r

-- state s has the core of production p with dot 0, which isn't justified; each such core of a production before p is; and each state
-- before s is viable
pub record IsFirstUnjustified (g : Grammar) (graph : Graph) (table : Table) (s p : ℕ) : Type 0 where
  pub within : s < states_len table
  pub has : HasCore graph s p 0
  pub unjustified : ¬ (IsJustified g graph table s p 0)
  pub lower : (q : ℕ) → q < p → HasCore graph s q 0 → IsJustified g graph table s q 0
  pub earlier : (r : ℕ) → r < s → IsViableAt g graph table r

-- the fault names the first state that isn't viable: it has no core, or else the first of its cores that isn't justified; `Memory` says
-- nothing of the table
abbrev pub IsViableFault : Grammar → Graph → Table → ViableFault → Type 0
IsViableFault g graph table (Empty s) = IsFirstEmpty g graph table s
IsViableFault g graph table (Unjustified s p) = IsFirstUnjustified g graph table s p
IsViableFault g graph table Memory = Unit {0}
