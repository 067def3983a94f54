-- The conflicts of a table, and their counterexamples.
use Rattle.std.specs.Prelude.{◌≡◌, ℕ, List, ◌++◌, map}
use Rattle.std.specs.List.{AllByRecursion, Contains}
use Rattle.std.specs.declared.vec.Vec.{Vec}
use Rattle.lrpar_grammar.specs.Grammar.{Grammar}
use Rattle.lrpar_table_rows.specs.Graph.{Graph}
use Rattle.lrpar_table_rows.specs.Table.{ConflictLists, ReduceReduce, ShiftReduce, Table}
use Rattle.lrpar_table_build.specs.Built.{IsBuilt}
use Rattle.lrpar_table_build.specs.BuilderLaws.{lists_in}
use Rattle.lrpar_table_sentences.specs.Moves.{MoveOf, Makes, Takes, move_of}
use Rattle.lrpar_conflict_derivations.specs.Example.{AreExamplesFor, ExampleOf, ExamplesOf, HasSearched, IsExample}
use Rattle.lrpar_conflict_examples.specs.declared.unresolved.UnmetConflict.{UnmetConflict}

-- a conflict: a state, a token, and the moves by which two derivations go on there
pub record ConflictOf : Type 0 where
  pub token : ℕ
  pub state : ℕ
  pub first : MoveOf
  pub second : MoveOf

-- a reduce/reduce conflict: the moves are two reductions
abbrev pub of_reductions : ReduceReduce → ConflictOf
of_reductions x = record { token = x.token; state = x.state; first = Makes x.first; second = Makes x.second }

-- a shift/reduce conflict: the moves are a reduction and a shift of the token
abbrev pub of_shift : ShiftReduce → ConflictOf
of_shift x = record { token = x.token; state = x.state; first = Makes x.prod; second = Takes x.token }

-- a conflict as it is stored, by its numbers, and conflicts in order
abbrev pub unmet_of : {S : Type 0} → (S → ℕ) → UnmetConflict S → ConflictOf
unmet_of index x = record { token = index x.token.0; state = index x.state.0; first = move_of index x.first; second = move_of index x.second }

abbrev pub unmet_in : {S : Type 0} → (S → ℕ) → List (UnmetConflict S) → List ConflictOf
unmet_in index conflicts = map (unmet_of index) conflicts

-- the conflicts are at the same token, with the same moves
pub record AreAlike (one other : ConflictOf) : Type 0 where
  pub token : one.token ≡ other.token
  pub first : one.first ≡ other.first
  pub second : one.second ≡ other.second

-- each element of the first list is in the second
abbrev pub AreAmong : {X : Type 0} → List X → List X → Type 0
AreAmong {X} xs all = (x : X) → Contains xs x → Contains all x

-- all conflicts, those between two reductions first
abbrev pub conflicts_in : ConflictLists → List ConflictOf
conflicts_in lists = map of_reductions lists.reduce_reduce ++ map of_shift lists.shift_reduce

-- the conflicts that a table lists
abbrev pub table_conflicts : Table → List ConflictOf
table_conflicts table = conflicts_in (lists_in table.conflicts)

-- the table lists these conflicts, in any order
abbrev pub ListsConflicts : {S : Type 0} → (S → ℕ) → Table → List (UnmetConflict S) → Type 0
ListsConflicts index table conflicts = AreAmong (unmet_in index conflicts) (table_conflicts table)

-- the table lists this conflict
abbrev pub ListsConflict : {S : Type 0} → (S → ℕ) → Table → UnmetConflict S → Type 0
ListsConflict index table conflict = Contains (table_conflicts table) (unmet_of index conflict)

-- these are all conflicts that the table lists, in order
abbrev pub AreAllConflicts : {S A : Type 0} → (S → ℕ) → Table → Vec (UnmetConflict S) A → Type 0
AreAllConflicts index table = λ conflicts. unmet_in index conflicts.items ≡ table_conflicts table

-- two conflicts are at the same token, with the same moves
abbrev pub AreLike : {S : Type 0} → (S → ℕ) → UnmetConflict S → UnmetConflict S → Type 0
AreLike index one other = AreAlike (unmet_of index one) (unmet_of index other)

-- a conflict with its counterexample
pub record ConflictExampleOf : Type 0 where
  pub conflict : ConflictOf
  pub example : ExampleOf

-- a conflict of the code with this counterexample
abbrev pub with_example : {S : Type 0} → (S → ℕ) → UnmetConflict S → ExampleOf → ConflictExampleOf
with_example index conflict x = record { conflict = unmet_of index conflict; example = x }

-- the counterexample is one of the conflict, and its search had this bound
abbrev pub IsCounterexample : Grammar → Graph → ℕ → ConflictOf → ExampleOf → Type 0
IsCounterexample g graph bound c x = IsExample g graph c.state c.token c.first c.second x × (x.bound ≡ bound) × HasSearched bound x

abbrev pub IsExampleOf : Grammar → Graph → ℕ → ConflictExampleOf → Type 0
IsExampleOf g graph bound x = IsCounterexample g graph bound x.conflict x.example

-- a counterexample of each conflict, in order
pub record AreExamplesOf (g : Grammar) (graph : Graph) (bound : ℕ) (conflicts : List ConflictOf) (examples : List ConflictExampleOf) : Type 0 where
  pub conflicts_are : map (λ (x : ConflictExampleOf). x.conflict) examples ≡ conflicts
  pub each : AllByRecursion (IsExampleOf g graph bound) examples

-- both derivations of each counterexample have one text; or the search for two that have has tried as much as the bound allows, or all that
-- it came to
abbrev pub HaveSearched : ℕ → List ConflictExampleOf → Type 0
HaveSearched bound examples = AllByRecursion (λ (x : ConflictExampleOf). HasSearched bound x.example) examples

-- the searches for the counterexamples in the vector have gone on as long as the bound allows
abbrev pub AllSearched : {A : Type 0} → ℕ → Vec ConflictExampleOf A → Type 0
AllSearched bound = λ examples. HaveSearched bound examples.items

-- a counterexample of each of the code's conflicts, in order
abbrev pub HasExamples : {S A : Type 0} → (S → ℕ) → Grammar → Graph → ℕ → List (UnmetConflict S) → Vec ConflictExampleOf A → Type 0
HasExamples index g graph bound conflicts = λ examples. AreExamplesOf g graph bound (unmet_in index conflicts) examples.items

-- a counterexample of each conflict that the table lists, in order
abbrev pub HasExamplesOf : {A : Type 0} → Grammar → Graph → Table → ℕ → Vec ConflictExampleOf A → Type 0
HasExamplesOf g graph table bound = λ examples. AreExamplesOf g graph bound (table_conflicts table) examples.items

-- a table that was built of the grammar, and what counterexamples of its conflicts need
pub record IsReady (g : Grammar) (graph : Graph) (table : Table) (largest : ℕ) (shared : ExamplesOf) : Type 0 where
  pub built : IsBuilt g graph table
  pub made : AreExamplesFor g graph table largest shared
