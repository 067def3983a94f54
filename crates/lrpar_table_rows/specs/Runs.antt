-- Items by their LR(0) cores: each core with the run of its lookaheads.
use Rattle.std.specs.Prelude.{◌≡◌, ◌<◌, ℕ, All, List, [], ◌∷◌, ◌++◌, MatchOption, Option, zero, suc, drop, length, map, slice_index_or}
use Rattle.std.specs.List.{AllZip, Contains, flat_map}
use Rattle.std.specs.List.Sorted.{IsStrictlySortedBy}
use Rattle.std.specs.Ordering.{nat_cmp}
use Rattle.std.specs.declared.vec.Vec.{Vec}
use Rattle.lrpar_grammar_places.specs.declared.span.PIdx.{PIdx}
use Rattle.lrpar_grammar_places.specs.declared.span.TIdx.{TIdx}
use Rattle.lrpar_table_rows.specs.Ascending.{HaveSame}
use Rattle.lrpar_table_rows.specs.Graph.{ItemOf, item_cmp}
use Rattle.lrpar_table_rows.specs.PlainItems.{AreBegunOf, AreCoresOf, item_of}

-- the item with this core and this lookahead
abbrev pub with_core : {S : Type 0} → PIdx S × ℕ → TIdx S → PIdx S × ℕ × TIdx S
with_core core token = (core.0, core.1, token)

-- the items with this core and these lookaheads
abbrev pub core_items : {S : Type 0} → PIdx S × ℕ → List (TIdx S) → List (PIdx S × ℕ × TIdx S)
core_items core tokens = map (with_core core) tokens

-- the items of cores, each with its run of lookaheads
abbrev pub run_items : {S : Type 0} → List (PIdx S × ℕ) → List (List (TIdx S)) → List (PIdx S × ℕ × TIdx S)
run_items [] runs = []
run_items (core ∷ cores) [] = []
run_items (core ∷ cores) (run ∷ runs) = core_items core run ++ run_items cores runs

-- the items of cores that are left from a core on, by its index, and from one of its lookaheads on
abbrev pub items_left : {S : Type 0} → List (PIdx S × ℕ) → List (List (TIdx S)) → ℕ → ℕ → List (PIdx S × ℕ × TIdx S)
items_left [] runs place token = []
items_left (core ∷ cores) [] place token = []
items_left (core ∷ cores) (run ∷ runs) zero token = core_items core (drop token run) ++ run_items cores runs
items_left (core ∷ cores) (run ∷ runs) (suc place) token = items_left cores runs place token

-- the lists of lookaheads; Z is the allocator of a Vec
abbrev pub tokens_of : {S Z : Type 0} → List (Vec (TIdx S) Z) → List (List (TIdx S))
tokens_of runs = map (λ run. run.items) runs

-- the items of rows, each a core with lookaheads
abbrev pub items_of_rows : {S Z : Type 0} → List (PIdx S × ℕ × Vec (TIdx S) Z) → List (PIdx S × ℕ × TIdx S)
items_of_rows rows = flat_map (λ row. core_items (row.0, row.1) row.2.items) rows

-- the items of rows, each a core with lookaheads, by their numbers
abbrev pub set_of_rows : {S Z : Type 0} → (S → ℕ) → List (PIdx S × ℕ × Vec (TIdx S) Z) → List ItemOf
set_of_rows index rows = map (item_of index) (items_of_rows rows)

-- the items of cores, each with its run of lookaheads, by their numbers
abbrev pub set_of_runs : {S : Type 0} → (S → ℕ) → List (PIdx S × ℕ) → List (List (TIdx S)) → List ItemOf
set_of_runs index cores runs = map (item_of index) (run_items cores runs)

-- there is a run for each core, the cores are those of the items, the items ascend, and these are the cores of kernel items
pub record IsSet {S : Type 0} (index : S → ℕ) (cores : List (PIdx S × ℕ)) (runs : List (List (TIdx S))) (begun : List (PIdx S × ℕ)) : Type 0 where
  pub paired : length runs ≡ length cores
  pub exact : AreCoresOf (run_items cores runs) cores
  pub ascending : IsStrictlySortedBy item_cmp (map (item_of index) (run_items cores runs))
  pub kernel : AreBegunOf cores begun

-- the place of a run and of one of its lookaheads from which on the same items are left
pub record IsNextItemAt {S : Type 0} (cores : List (PIdx S × ℕ)) (runs : List (List (TIdx S))) (place token : ℕ) (at : ℕ × ℕ) : Type 0 where
  pub same : items_left cores runs at.0 at.1 ≡ items_left cores runs place token
  pub within : at.0 < length runs
  pub below : at.1 < length (slice_index_or runs at.0 [])

-- the next item's run and lookahead; none if no items are left
abbrev pub FindsNextItem : {S : Type 0} → List (PIdx S × ℕ) → List (List (TIdx S)) → ℕ → ℕ → Option (ℕ × ℕ) → Type 0
FindsNextItem cores runs place token found = MatchOption found (items_left cores runs place token ≡ []) (IsNextItemAt cores runs place token)

-- the tokens ascend, each once
abbrev pub TokensAscend : {S : Type 0} → (S → ℕ) → List (TIdx S) → Type 0
TokensAscend index tokens = IsStrictlySortedBy nat_cmp (map (λ token. index token.0) tokens)

-- the tokens of each run ascend, each once
abbrev pub RunsAscend : {S Z : Type 0} → (S → ℕ) → Vec (List (TIdx S)) Z → Type 0
RunsAscend index runs = All (λ run. TokensAscend index run) runs.items

-- there is a run for each core
abbrev pub ArePaired : {A B Z : Type 0} → List A → Vec B Z → Type 0
ArePaired cores runs = length runs.items ≡ length cores

-- the items of these cores and runs are these, and no others
abbrev pub AreRunsOf : {S Z : Type 0} → List (PIdx S × ℕ) → List (PIdx S × ℕ × TIdx S) → Vec (List (TIdx S)) Z → Type 0
AreRunsOf cores items runs = HaveSame (run_items cores runs.items) items

-- the runs have no lookaheads
abbrev pub AreEmptyRuns : {S Z Y : Type 0} → List (PIdx S × ℕ) → Vec (Vec (TIdx S) Z) Y → Type 0
AreEmptyRuns {S} cores runs = (x : PIdx S × ℕ × TIdx S) → ¬ (Contains (run_items cores (tokens_of runs.items)) x)

-- these items were added
abbrev pub AddsItems : {S Z Y : Type 0} → List (PIdx S × ℕ) → List (PIdx S × ℕ × TIdx S) → Vec (Vec (TIdx S) Z) Y → Vec (Vec (TIdx S) Z) Y → Type 0
AddsItems cores items old new = HaveSame (run_items cores (tokens_of new.items)) (run_items cores (tokens_of old.items) ++ items)

-- each run has the tokens that it had
abbrev pub HaveSameTokens : {S Z Y X : Type 0} → Vec (Vec (TIdx S) Z) Y → Vec (List (TIdx S)) X → Type 0
HaveSameTokens runs made = AllZip HaveSame made.items (tokens_of runs.items)
