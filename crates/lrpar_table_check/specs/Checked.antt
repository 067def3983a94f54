-- A checked table, and a refused one.
use Rattle.std.specs.Prelude.{◌≡◌, ◌<◌, ℕ}
use Rattle.lrpar_grammar.specs.Grammar.{Grammar, IsWellFormed}
use Rattle.lrpar_table_stacks.specs.Chain.{AreChainsShort, IsBounded, IsLongChain}
use Rattle.lrpar_table_rows.specs.Graph.{Graph}
use Rattle.lrpar_table_rows.specs.Table.{Table, IsClosed, states_len}
use Rattle.lrpar_table_rows.specs.Safe.{HasShape, IsSafe, IsSafeAt}
use Rattle.lrpar_table_check.specs.declared.fault.CheckFault.{CheckFault}
use Rattle.lrpar_table_check.specs.declared.fault.CheckFault.TheVariants.{Shape, Safety, ChainTooLong, Memory}

-- a grammar with its item sets and its table, and the cap
pub record Checked : Type 0 where
  pub grammar : Grammar
  pub graph : Graph
  pub table : Table
  pub cap : ℕ

-- the grammar is well formed, the table's states are its own, it is safe, and no chain makes more reductions than the cap
pub record IsChecked (d : Checked) : Type 0 where
  pub well_formed : IsWellFormed d.grammar
  pub closed : IsClosed d.table
  pub safe : IsSafe d.grammar d.graph d.table
  pub chains : AreChainsShort d.grammar d.table d.cap

-- each stack of the table makes few reductions under one lookahead, by the cap
abbrev pub HasBounds : Checked → Type 0
HasBounds d = IsBounded d.grammar d.table d.cap

-- a grammar with a graph and a table that were refused, and why
pub record Unchecked : Type 0 where
  pub fault : CheckFault
  pub grammar : Grammar
  pub graph : Graph
  pub table : Table

-- the fault names what fails; it is `Memory` only if the table is safe
abbrev pub IsCheckFault : Grammar → Graph → Table → ℕ → CheckFault → Type 0
IsCheckFault g graph table cap Shape = ¬ (HasShape g graph table)
IsCheckFault g graph table cap (Safety condition s) = HasShape g graph table × (s < states_len table) × ¬ (IsSafeAt g graph table condition s)
IsCheckFault g graph table cap (ChainTooLong s t) = IsSafe g graph table × (s < states_len table) × (t < table.tokens) × IsLongChain g table cap s t
IsCheckFault g graph table cap Memory = IsSafe g graph table

-- the fault names a chain that is too long; a safe table is refused for nothing else, unless an allocation failed
abbrev pub IsChainFault : Grammar → Table → ℕ → CheckFault → Type 0
IsChainFault g table cap Shape = ⊥
IsChainFault g table cap (Safety condition s) = ⊥
IsChainFault g table cap (ChainTooLong s t) = (s < states_len table) × (t < table.tokens) × IsLongChain g table cap s t
IsChainFault g table cap Memory = Unit {0}

-- the checked table holds these parts
abbrev pub HoldsParts : Grammar → Graph → Table → ℕ → Checked → Type 0
HoldsParts g graph table cap = λ d. d ≡ record { grammar = g; graph = graph; table = table; cap = cap }

-- the refusal gives these parts back
abbrev pub GivesBack : Grammar → Graph → Table → Unchecked → Type 0
GivesBack g graph table = λ r. (r.grammar ≡ g) × (r.graph ≡ graph) × (r.table ≡ table)

-- the refusal names what fails
abbrev pub NamesCheckFault : Grammar → Graph → Table → ℕ → Unchecked → Type 0
NamesCheckFault g graph table cap = λ r. IsCheckFault g graph table cap r.fault

-- the refusal names a chain that is too long, unless an allocation failed
abbrev pub NamesChain : Grammar → Table → ℕ → Unchecked → Type 0
NamesChain g table cap = λ r. IsChainFault g table cap r.fault

-- the table is refused only because an allocation failed
abbrev pub IsRefusedForMemory : Unchecked → Type 0
IsRefusedForMemory = λ r. r.fault ≡ Memory
