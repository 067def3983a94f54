-- Whether a checked table is complete, and whether it is viable.
use Rattle.lrpar_grammar.specs.Sentence.{LexemeFacts}
use Rattle.lrpar_table_conditions.specs.Complete.{IsComplete, IsCompleteFault}
use Rattle.lrpar_table_conditions.specs.declared.completeness_fault.CompleteFault.{CompleteFault}
use Rattle.lrpar_table_viable.specs.Viable.{IsViable, IsViableFault}
use Rattle.lrpar_table_viable.specs.declared.viable_fault.ViableFault.{ViableFault}
use Rattle.lrpar_table_check.specs.Checked.{Checked}
use Rattle.lrpar_table_check.specs.CompleteRuns.{AcceptsExactlySentences}

-- the checked table is complete
abbrev pub IsCompleteTable : Checked → Type 0
IsCompleteTable d = IsComplete d.grammar d.graph d.table

-- the fault names a condition that keeps it from being complete
abbrev pub IsCompleteFaultOf : Checked → CompleteFault → Type 0
IsCompleteFaultOf d = IsCompleteFault d.grammar d.graph d.table

-- the runs of the checked table accept exactly the sentences, each by its only tree
abbrev pub AcceptsSentences : Checked → Type 0
AcceptsSentences d = AcceptsExactlySentences (λ (x : LexemeFacts). x.token) d.grammar d.table

-- the checked table is viable
abbrev pub IsViableTable : Checked → Type 0
IsViableTable d = IsViable d.grammar d.graph d.table

-- the fault names a state that keeps it from being viable
abbrev pub IsViableFaultOf : Checked → ViableFault → Type 0
IsViableFaultOf d = IsViableFault d.grammar d.graph d.table
