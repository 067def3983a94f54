-- How the exits of states are added to: what is right stays right.
use Rattle.std.specs.Prelude.{ℕ, List}
use Rattle.lrpar_grammar.specs.Grammar.{Grammar}
use Rattle.lrpar_table_rows.specs.Table.{Table}
use Rattle.lrpar_table_pops.specs.Exits.{HasExit}
use Rattle.lrpar_table_pops.specs.Pops.{Control, Pops, Reading}
use Rattle.lrpar_table_pops.specs.StoredPops.{ArePopsOf}
use Rattle.lrpar_table_pops.specs.declared.exits.Exit.{Exit}
use Rattle.lrpar_table_pops.specs.declared.pops.StateExits.{StateExits}

-- for each table in which a run can leave state s by these exits, what was right is right
abbrev pub AddsExitsOf : ℕ → List Exit → List StateExits → List StateExits → Type 0
AddsExitsOf s exits old new =
    (g : Grammar) (table : Table) → ((r : Control) → HasExit exits r → (t : ℕ) × Pops g table (Reading t) s r) → ArePopsOf g table old → ArePopsOf g table new

-- for each table in which a run can leave state s by these exits at token t, what was right is right
abbrev pub AddsExitsAt : ℕ → ℕ → List Exit → List StateExits → List StateExits → Type 0
AddsExitsAt s t exits old new =
    (g : Grammar) (table : Table) → ((r : Control) → HasExit exits r → Pops g table (Reading t) s r) → ArePopsOf g table old → ArePopsOf g table new
