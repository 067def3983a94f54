-- What is wrong in a state, if each state before it is viable, is what is wrong in the table.
use Rattle.std.proofs.Common.{◌≡◌, ◌<◌, ℕ, sym, subst}
use Rattle.lrpar_grammar.specs.Grammar.{Grammar}
use Rattle.lrpar_table_rows.specs.Graph.{Graph}
use Rattle.lrpar_table_rows.specs.Table.{Table, states_len}
use Rattle.lrpar_table_viable.specs.Marks.{IsFaultAt}
use Rattle.lrpar_table_viable.specs.Viable.{IsFirstEmpty, IsFirstUnjustified, IsViable, IsViableAt, IsViableFault}
use Rattle.lrpar_table_viable.specs.declared.viable_fault.ViableFault.{ViableFault}
use Rattle.lrpar_table_viable.specs.declared.viable_fault.ViableFault.TheVariants.{Empty, Memory, Unjustified}

module _ (g : Grammar) (graph : Graph) (table : Table) (s : ℕ) (within : s < states_len table) where
  -- it is the fault
  first_fault : (fault : ViableFault) → ((r : ℕ) → r < s → IsViableAt g graph table r) → IsFaultAt g graph table s fault
      → IsViableFault g graph table fault
  first_fault (Empty r) earlier at =
      subst (IsFirstEmpty g graph table) (sym at.0) (record { within = within; none = at.1; earlier = earlier })
  first_fault (Unjustified r p) earlier at =
      subst (λ (n : ℕ). IsFirstUnjustified g graph table n p) (sym at.0)
      (record { within = within; has = at.1.has; unjustified = at.1.unjustified; lower = at.1.lower; earlier = earlier })
  first_fault Memory earlier at = tt

  -- and the table isn't viable
  refutes : (fault : ViableFault) → IsFaultAt g graph table s fault → ¬ (IsViable g graph table)
  refutes (Empty r) at viable = let some = (viable.each s within).some in at.1 some.0 some.1 some.2
  refutes (Unjustified r p) at viable = at.1.unjustified ((viable.each s within).justified p 0 at.1.has)
  refutes Memory at viable = at

-- the same of a state with this number
module _ (g : Grammar) (graph : Graph) (table : Table) (s n : ℕ) (within : s < states_len table) (same : n ≡ s) (fault : ViableFault)
    (at : IsFaultAt g graph table n fault) where
  here : IsFaultAt g graph table s fault
  here = subst (λ (r : ℕ). IsFaultAt g graph table r fault) same at

  pub fault_first : ((r : ℕ) → r < s → IsViableAt g graph table r) → IsViableFault g graph table fault
  fault_first earlier = first_fault g graph table s within fault earlier here

  pub fault_refutes : ¬ (IsViable g graph table)
  fault_refutes = refutes g graph table s within fault here
