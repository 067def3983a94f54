-- A completion always repairs: over its own table, if that is viable, each answer has a sequence that works, at each error point. A
-- table that is built is viable.
use Rattle.std.specs.Prelude.{ℕ}
use Rattle.lrpar_table_build.specs.Built.{IsBuilt}
use Rattle.lrpar_table_viable.specs.Viable.{IsViable}
use Rattle.lrpar_parse_repair.specs.AlwaysRepairs.{AlwaysRepairs}
use Rattle.lrpar_parse_completion.specs.Answer.{Completer, IsCompleted}

-- over a table that is built, completions always repair; X is the type of lexemes
abbrev pub CompletionsRepair : Type 0 → Type 0
CompletionsRepair X =
    (token : X → ℕ) (own : Completer) → IsBuilt own.checked.grammar own.checked.graph own.checked.table
    → AlwaysRepairs token (IsCompleted token own) own.checked

-- over any viable table, completions always repair: its item sets may be merged, or it may come from another tool; X is the type of
-- lexemes
abbrev pub ViableCompletionsRepair : Type 0 → Type 0
ViableCompletionsRepair X =
    (token : X → ℕ) (own : Completer) → IsViable own.checked.grammar own.checked.graph own.checked.table
    → AlwaysRepairs token (IsCompleted token own) own.checked
