-- What follows for a table that is built of a grammar alone: it is complete if and only if it has no conflicts, so a grammar with
-- two trees for one text has conflicts.
use Rattle.std.specs.Prelude.{◌≡◌, ◌≢◌, ◌↔◌, ℕ, [], None}
use Rattle.lrpar_grammar.specs.Grammar.{Grammar, IsWellFormed, Nonterminal}
use Rattle.lrpar_grammar.specs.Tree.{Tree, Fits, leaves}
use Rattle.lrpar_table_precedence.specs.Precedence.{PrecedenceLists}
use Rattle.lrpar_table_rows.specs.Graph.{Graph}
use Rattle.lrpar_table_rows.specs.Table.{Table, IsClosed}
use Rattle.lrpar_table_build.specs.Built.{IsBuilt, IsBuiltBy}
use Rattle.lrpar_table_conditions.specs.Complete.{IsComplete}

-- the table is complete if and only if it has no conflicts
abbrev pub IsCompleteWithoutConflicts : Grammar → Graph → Table → Type 0
IsCompleteWithoutConflicts g graph table = IsComplete g graph table ↔ (table.conflicts ≡ None)

-- each table that is built of a grammar is complete if and only if it has no conflicts
abbrev pub BuiltTablesAreCompleteWithoutConflicts : Type 0
BuiltTablesAreCompleteWithoutConflicts =
    (g : Grammar) (graph : Graph) (table : Table) → IsWellFormed g → IsBuilt g graph table → IsCompleteWithoutConflicts g graph table

-- a table in which precedences resolved a conflict isn't complete: its state calls for a shift and for a reduction at one token
abbrev pub ResolvedTablesAreIncomplete : Type 0
ResolvedTablesAreIncomplete =
    (g : Grammar) (precedences : PrecedenceLists) (graph : Graph) (table : Table) → IsBuiltBy g precedences graph table
    → table.resolved ≢ [] → ¬ (IsComplete g graph table)

-- two different trees of the start rule with the same leaves
pub record HaveSameLeaves {X : Type 0} (token : X → ℕ) (g : Grammar) (tree other : Tree X) : Type 0 where
  pub fits : Fits token g tree (Nonterminal g.start)
  pub other_fits : Fits token g other (Nonterminal g.start)
  pub leaves_same : leaves tree ≡ leaves other
  pub different : tree ≢ other

-- if a grammar has two trees for one list of lexemes, the table that is built of it has conflicts
abbrev pub AmbiguousGrammarsHaveConflicts : Type 0 → Type 0
AmbiguousGrammarsHaveConflicts X =
    (token : X → ℕ) (g : Grammar) (graph : Graph) (table : Table) → IsWellFormed g → IsClosed table → IsBuilt g graph table
    → (tree other : Tree X) → HaveSameLeaves token g tree other → table.conflicts ≢ None

-- if the table that is built of a grammar has no conflicts, each list of lexemes has at most one tree
abbrev pub GrammarsWithoutConflictsHaveOneTree : Type 0 → Type 0
GrammarsWithoutConflictsHaveOneTree X =
    (token : X → ℕ) (g : Grammar) (graph : Graph) (table : Table) → IsWellFormed g → IsClosed table → IsBuilt g graph table
    → table.conflicts ≡ None → (tree other : Tree X) → Fits token g tree (Nonterminal g.start) → Fits token g other (Nonterminal g.start)
    → leaves tree ≡ leaves other → tree ≡ other
