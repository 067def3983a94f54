-- Counterexamples of the conflicts of a table with merged item sets. They are those of canonical conflicts that lie in them.
use Rattle.std.specs.Prelude.{◌≡◌, ◌≤◌, ◌&&◌, ◌==◌, ℕ, Bool, false, List, [], ◌∷◌, ◌++◌, Contains, IsPermutation, Option, Some, None, map, option_map}
use Rattle.std.specs.List.{AllByRecursion, find}
use Rattle.lrpar_grammar.specs.Grammar.{Grammar}
use Rattle.lrpar_table_precedence.specs.Precedence.{PrecedenceLists}
use Rattle.lrpar_table_rows.specs.Graph.{Graph, graph_len}
use Rattle.lrpar_table_rows.specs.Table.{Table}
use Rattle.lrpar_table_build.specs.Built.{IsBuilt}
use Rattle.lrpar_table_sentences.specs.Moves.{MoveOf, Makes, Takes}
use Rattle.lrpar_table_sentences.specs.Reachable.{is_marked}
use Rattle.lrpar_conflict_examples.specs.Conflicts.{AreAlike, ConflictExampleOf, ConflictOf, HaveSearched, IsCounterexample, IsReady, table_conflicts, unmet_in, unmet_of}
use Rattle.lrpar_conflict_examples.specs.Met.{AreMet, IsMet}
use Rattle.lrpar_conflict_examples.specs.Pairs.{ArePaired, HasAllPairs, HasSomePair, has_pair, rows_in}
use Rattle.lrpar_conflict_examples.specs.declared.merged.Canonical.{Canonical}
use Rattle.lrpar_conflict_examples.specs.declared.merged.MergedConflicts.{MergedConflicts}
use Rattle.lrpar_conflict_examples.specs.declared.unresolved.UnmetConflict.{UnmetConflict}

-- the conflicts of all three lists
abbrev pub conflicts_of : {S : Type 0} → (S → ℕ) → MergedConflicts S → List ConflictOf
conflicts_of index found =
    map (λ (x : ConflictExampleOf). x.conflict) found.examples.items ++ (unmet_in index found.unmet.items ++ unmet_in index found.merged.items)

-- the conflict was added to one of the three lists
abbrev pub AddsConflict : {S : Type 0} → (S → ℕ) → ConflictOf → MergedConflicts S → MergedConflicts S → Type 0
AddsConflict index conflict old new = IsPermutation (conflict ∷ conflicts_of index old) (conflicts_of index new)

-- the searches for the counterexamples have gone on as long as the bound allows
abbrev pub MergedSearched : {S : Type 0} → ℕ → MergedConflicts S → Type 0
MergedSearched bound = λ found. HaveSearched bound found.examples.items

-- the counterexamples are as before
abbrev pub KeepsExamples : {S : Type 0} → MergedConflicts S → MergedConflicts S → Type 0
KeepsExamples old new = new.examples ≡ old.examples

-- this conflict with its counterexample was added to the counterexamples, and nothing to the other lists
pub record AddsExample {S : Type 0} (x : ConflictExampleOf) (old new : MergedConflicts S) : Type 0 where
  pub examples : new.examples.items ≡ old.examples.items ++ x ∷ []
  pub unmet : new.unmet ≡ old.unmet
  pub merged : new.merged ≡ old.merged

-- the canonical table of the grammar, its conflicts, and what their counterexamples need
pub record IsCanonicalOf {S : Type 0} (index : S → ℕ) (g : Grammar) (largest : ℕ) (canonical : Canonical S) : Type 0 where
  pub ready : IsReady g canonical.sgraph canonical.stable largest canonical.shared
  pub listed : unmet_in index canonical.listed.items ≡ table_conflicts canonical.stable

-- the canonical table has at most this number of states
abbrev pub HasRoom : {S : Type 0} → ℕ → Canonical S → Type 0
HasRoom most = λ canonical. graph_len canonical.sgraph ≤ most

-- the states of the canonical table that can be met, and their pairs with those of the table with merged item sets
pub record IsComparedTo {S : Type 0} (precedences : PrecedenceLists) (merged : Table) (canonical : Canonical S) : Type 0 where
  pub met : AreMet precedences canonical.stable canonical.marks.items
  pub pairs : HasAllPairs canonical.stable merged canonical.pairs

-- whether two moves are the same
abbrev pub same_move : MoveOf → MoveOf → Bool
same_move (Takes t) (Takes u) = t == u
same_move (Takes t) (Makes q) = false
same_move (Makes p) (Takes u) = false
same_move (Makes p) (Makes q) = p == q

-- whether two conflicts are at the same token, with the same moves
abbrev pub are_alike : ConflictOf → ConflictOf → Bool
are_alike one other = one.token == other.token && same_move one.first other.first && same_move one.second other.second

-- whether the canonical conflict lies in the other one, by marks of canonical states and the rows of their pairs
abbrev pub lies_in : List Bool → List (List ℕ) → ConflictOf → ConflictOf → Bool
lies_in marks rows conflict own = are_alike own conflict && is_marked marks own.state && has_pair rows own.state conflict.state

-- whether the canonical conflict lies in the other one, by what the code keeps of the canonical table
abbrev pub lies_by : {S : Type 0} → Canonical S → ConflictOf → ConflictOf → Bool
lies_by canonical conflict own = lies_in canonical.marks.items (rows_in canonical.pairs) conflict own

abbrev pub SaysWhetherLies : {S : Type 0} → (S → ℕ) → Canonical S → UnmetConflict S → UnmetConflict S → Bool → Type 0
SaysWhetherLies index canonical conflict own result = result ≡ lies_by canonical (unmet_of index conflict) (unmet_of index own)

-- the first canonical conflict that lies in this one
abbrev pub first_in : {S : Type 0} → (S → ℕ) → Canonical S → UnmetConflict S → Option ConflictOf
first_in index canonical conflict = find (lies_by canonical (unmet_of index conflict)) (unmet_in index canonical.listed.items)

abbrev pub IsFirstOf : {S : Type 0} → (S → ℕ) → Canonical S → UnmetConflict S → Option (UnmetConflict S) → Type 0
IsFirstOf index canonical conflict result = option_map (unmet_of index) result ≡ first_in index canonical conflict

-- a conflict without a counterexample was added: to those of the merging if its state is in a pair, otherwise to those that no parse meets
pub data IsSetApart {S : Type 0} (canonical : Canonical S) (conflict : UnmetConflict S) (s : ℕ) (old new : MergedConflicts S) : Type 0 where
  ToUnmet : ¬ (HasSomePair (rows_in canonical.pairs) s) → new.unmet.items ≡ old.unmet.items ++ conflict ∷ [] → new.merged ≡ old.merged
      → KeepsExamples old new → IsSetApart canonical conflict s old new
  ToMerged : HasSomePair (rows_in canonical.pairs) s → new.merged.items ≡ old.merged.items ++ conflict ∷ [] → new.unmet ≡ old.unmet
      → KeepsExamples old new → IsSetApart canonical conflict s old new

-- a conflict was added: with a counterexample of the first canonical conflict that lies in it, or apart if there is none
pub data IsDealt {S : Type 0} (index : S → ℕ) (g : Grammar) (canonical : Canonical S) (bound : ℕ) (conflict : UnmetConflict S) (old new : MergedConflicts S) : Type 0 where
  WithExample : (own : ConflictOf) (x : ConflictExampleOf) → first_in index canonical conflict ≡ Some own → x.conflict ≡ unmet_of index conflict
      → IsCounterexample g canonical.sgraph bound own x.example → AddsExample x old new → IsDealt index g canonical bound conflict old new
  Apart : first_in index canonical conflict ≡ None → IsSetApart canonical conflict (index conflict.state.0) old new
      → IsDealt index g canonical bound conflict old new

-- precedences, the canonical table, and a table with merged item sets that was built with these precedences, so that its paths have no shift
-- that they take away
pub record TwoTables : Type 0 where
  pub precedences : PrecedenceLists
  pub canonical : Table
  pub merged : Table

-- A canonical conflict lies in a conflict of the other table: it is at the same token, with the same moves; a parse can meet its state; and a
-- path leads to its state that leads to the other's
pub record LiesIn (tables : TwoTables) (own conflict : ConflictOf) : Type 0 where
  pub alike : AreAlike own conflict
  pub met : IsMet tables.precedences tables.canonical own.state
  pub paired : ArePaired tables.canonical tables.merged own.state conflict.state

-- the first canonical conflict that lies in it
pub record IsFirstIn (tables : TwoTables) (conflict own : ConflictOf) : Type 0 where
  pub before : List ConflictOf
  pub after : List ConflictOf
  pub listed : table_conflicts tables.canonical ≡ before ++ own ∷ after
  pub lies : LiesIn tables own conflict
  pub first : (x : ConflictOf) → Contains before x → ¬ (LiesIn tables x conflict)

-- a conflict with the counterexample of the first canonical one that lies in it
pub record HasExampleOfFirst (g : Grammar) (graph : Graph) (tables : TwoTables) (bound : ℕ) (x : ConflictExampleOf) : Type 0 where
  pub own : ConflictOf
  pub is : IsFirstIn tables x.conflict own
  pub example : IsCounterexample g graph bound own x.example

-- no path leads to the conflict's state
abbrev pub IsUnmet : TwoTables → ConflictOf → Type 0
IsUnmet tables conflict = (s : ℕ) → ¬ (ArePaired tables.canonical tables.merged s conflict.state)

-- a path leads there, and no canonical conflict lies in it
pub record ComesOfMerging (tables : TwoTables) (conflict : ConflictOf) : Type 0 where
  pub state : ℕ
  pub paired : ArePaired tables.canonical tables.merged state conflict.state
  pub none : (own : ConflictOf) → Contains (table_conflicts tables.canonical) own → ¬ (LiesIn tables own conflict)

-- each conflict is in its list
pub record AreSorted {S : Type 0} (index : S → ℕ) (g : Grammar) (graph : Graph) (tables : TwoTables) (bound : ℕ) (found : MergedConflicts S) : Type 0 where
  pub examples : AllByRecursion (HasExampleOfFirst g graph tables bound) found.examples.items
  pub unmet : AllByRecursion (IsUnmet tables) (unmet_in index found.unmet.items)
  pub merged : AllByRecursion (ComesOfMerging tables) (unmet_in index found.merged.items)

-- each conflict is in its list, by a canonical table of the grammar with at most `most` states. If there are no conflicts, none is needed
pub data AreSortedBy {S : Type 0} (index : S → ℕ) (g : Grammar) (precedences : PrecedenceLists) (merged : Table) (most bound : ℕ) (found : MergedConflicts S) : Type 0 where
  WithoutConflicts : merged.conflicts ≡ None → AreSortedBy index g precedences merged most bound found
  ByCanonical : (graph : Graph) (canonical : Table) → IsBuilt g graph canonical → graph_len graph ≤ most
      → AreSorted index g graph (record { precedences = precedences; canonical = canonical; merged = merged }) bound found
      → AreSortedBy index g precedences merged most bound found
