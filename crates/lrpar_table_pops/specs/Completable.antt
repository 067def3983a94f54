-- Stacks that can be completed.
use Rattle.std.specs.Prelude.{◌↔◌, ℕ, List, reverse, length, ◌<◌}
use Rattle.lrpar_grammar.specs.Grammar.{Grammar}
use Rattle.lrpar_table_rows.specs.Table.{Table}
use Rattle.lrpar_table_stacks.specs.ReductionStep.{FitsGrammar}
use Rattle.lrpar_table_stacks.specs.Run.{Accepted, Far}
use Rattle.lrpar_table_stacks.specs.Stack.{IsStack}
use Rattle.lrpar_table_pops.specs.Pops.{PopsAll, Reading}

-- the run over the tokens, from the stack on, accepts
abbrev pub AcceptsOver : Grammar → Table → List ℕ → List ℕ → Type 0
AcceptsOver g table st tokens = (prods : List ℕ) × Far (λ (t : ℕ). t) g table tokens st 0 prods Accepted

-- the stack can be completed: some tokens lead from it to one that accepts
abbrev pub IsCompletable : Grammar → Table → List ℕ → Type 0
IsCompletable g table st = (tokens : List ℕ) × AcceptsOver g table st tokens

-- a stack, bottom first, can be completed if and only if at some lookahead a run can take all its states off
abbrev pub PopsAreCompletions : Type 0
PopsAreCompletions =
    (g : Grammar) (table : Table) (st : List ℕ) → FitsGrammar g table → 0 < length st
    → IsCompletable g table st ↔ ((t : ℕ) × PopsAll g table (Reading t) (reverse st))

-- each stack of the table can be completed
abbrev pub AreAllCompletable : Grammar → Table → Type 0
AreAllCompletable g table = (st : List ℕ) → IsStack table st → IsCompletable g table st
