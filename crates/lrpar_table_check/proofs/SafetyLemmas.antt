-- What the tests of the safety conditions decide.
use Rattle.std.proofs.Common.{◌≡◌, ℕ, refl}
use Rattle.lrpar_grammar.specs.Grammar.{Grammar}
use Rattle.lrpar_table_stacks.specs.Chain.{AreChainsShort}
use Rattle.lrpar_table_check.specs.Checked.{IsChainFault, IsCheckFault}
use Rattle.lrpar_table_rows.specs.Graph.{Graph}
use Rattle.lrpar_table_rows.specs.Safe.{IsSafe}
use Rattle.lrpar_table_rows.specs.Table.{Table}
use Rattle.lrpar_table_check.specs.declared.fault.CheckFault.{CheckFault}
use Rattle.lrpar_table_check.specs.declared.fault.CheckFault.TheVariants.{Shape, Safety, ChainTooLong, Memory}

-- if the table is safe and its chains are short, the check has no fault but out of memory
pub only_memory : (g : Grammar) (graph : Graph) (table : Table) (cap : ℕ) (fault : CheckFault) → IsCheckFault g graph table cap fault
    → IsSafe g graph table → AreChainsShort g table cap → fault ≡ Memory
only_memory g graph table cap Shape h safe short = absurd (h safe.shape)
only_memory g graph table cap (Safety condition s) h safe short = absurd (h.2 (safe.each condition s h.1))
only_memory g graph table cap (ChainTooLong s t) h safe short = absurd (short s t h.1 h.2 h.3)
only_memory g graph table cap Memory h safe short = refl

-- a fault of the chains of a safe table is a fault
pub fault_of_chains : (g : Grammar) (graph : Graph) (table : Table) (cap : ℕ) (fault : CheckFault) → IsSafe g graph table
    → IsChainFault g table cap fault → IsCheckFault g graph table cap fault
fault_of_chains g graph table cap Shape safe is = absurd is
fault_of_chains g graph table cap (Safety condition s) safe is = absurd is
fault_of_chains g graph table cap (ChainTooLong s t) safe is = (safe, is.0, is.1, is.2)
fault_of_chains g graph table cap Memory safe is = safe

-- if the chains are short, they have no fault but out of memory
pub chains_or_memory : (g : Grammar) (table : Table) (cap : ℕ) (fault : CheckFault) → IsChainFault g table cap fault → AreChainsShort g table cap
    → fault ≡ Memory
chains_or_memory g table cap Shape is short = absurd is
chains_or_memory g table cap (Safety condition s) is short = absurd is
chains_or_memory g table cap (ChainTooLong s t) is short = absurd (short s t is.0 is.1 is.2)
chains_or_memory g table cap Memory is short = refl
