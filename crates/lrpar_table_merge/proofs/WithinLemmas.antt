-- Each canonical item set is within a merged one: a path of symbols leads to a state whose set has all items that gotos reach by the path.
-- So what a canonical set calls for, this merged set calls for, too; and if the merged sets have no conflicts, or precedences resolve all
-- of them, so it is with the canonical ones.
use Rattle.std.proofs.Common.{◌≡◌, ◌<◌, refl, sym, subst, arith, ℕ, List, [], ◌∷◌, None, Option}
use Rattle.lrpar_grammar.specs.Grammar.{Grammar, GrammarSymbol, IsWellFormed, Terminal}
use Rattle.lrpar_table_precedence.specs.Precedence.{PrecedenceLists, no_precedences}
use Rattle.lrpar_table_rows.specs.Graph.{Graph, ItemOf, graph_len}
use Rattle.lrpar_table_rows.specs.Table.{ConflictLists, ReduceReduce, ShiftReduce}
use Rattle.lrpar_table_items.specs.Canonical.{HasAfterDot, HasReduce, IsCanonical, IsReduceConflict, IsUnresolvedConflict, sets_of}
use Rattle.lrpar_table_items.specs.ItemSets.{Added, IsAdvanced, IsInClosure, IsReachedBy, IsStartItem, Own}
use Rattle.lrpar_table_build.specs.BuilderLaws.{AreConflictsBy}
use Rattle.lrpar_table_merge.specs.Held.{Closes, IsHeld, Starts, Steps}
use Rattle.lrpar_table_merge.specs.Merged.{Along, AreMerged, IsWithin, LeadsAlong}
use Rattle.lrpar_table_merge.specs.MergedLaws.{CanonicalSetsAreWithinMerged, NoMergedConflictsAreNoCanonical}
use Rattle.lrpar_table_merge.specs.MergedByLaws.{NoMergedConflictsByAreNoCanonical}
use Rattle.lrpar_table_merge.proofs.MergedByNoneLemmas.{conflicts_with, none_decide}
use Rattle.lrpar_table_merge.proofs.MergedConflictLemmas.{no_shift_conflict, none_listed, only_reduction}

-- a closure that has an item comes from an item
pub closure_root : (g : Grammar) (items : ItemOf → Type 0) (x : ItemOf) → IsInClosure g items x → (y : ItemOf) × items y
closure_root g items x (Own y h) = (y, h)
closure_root g items x (Added y z h adds) = closure_root g items y h

-- a state that holds some items holds their closure
pub closure_held : (g : Grammar) (goes : ℕ → GrammarSymbol → ℕ → Type 0) (s : ℕ) (items : ItemOf → Type 0)
    → ((x : ItemOf) → items x → IsHeld g goes s x) → (x : ItemOf) → IsInClosure g items x → IsHeld g goes s x
closure_held g goes s items own x (Own y h) = own y h
closure_held g goes s items own x (Added y z h adds) = Closes s y z (closure_held g goes s items own y h) adds

module _ (g : Grammar) (len : ℕ) (sets : ℕ → ItemOf → Type 0) (goes : ℕ → GrammarSymbol → ℕ → Type 0)
    (merged : AreMerged g len sets goes) where
  -- a state has what it holds
  within_of : (path : List GrammarSymbol) (s : ℕ) → s < len → LeadsAlong goes path s → ((x : ItemOf) → IsReachedBy g path x → IsHeld g goes s x)
      → IsWithin g len sets goes path s
  within_of path s low along holds = record { low = low; along = along; items = λ x h. (merged.held s low x).1 (holds x h) }

  pub within_merged : (path : List GrammarSymbol) (y : ItemOf) → IsReachedBy g path y → (s : ℕ) × IsWithin g len sets goes path s
  within_merged [] y h = (0, within_of [] 0 merged.start refl (closure_held g goes 0 (IsStartItem g) (λ x is. Starts x is)))
  within_merged (X ∷ path) y h =
      let root = closure_root g (IsAdvanced g (IsReachedBy g path) X) y h in
      let from = root.1 in
      let before = within_merged path from.0 from.1 in
      let r = before.0 in
      let after : HasAfterDot g sets r X = (from.0, before.1.items from.0 from.1, from.2) in
      let to = merged.next r X before.1.low after in
      let advanced : (x : ItemOf) → IsAdvanced g (IsReachedBy g path) X x → IsHeld g goes to.0 x =
      λ x own.
      let z = own.0 in
      subst (IsHeld g goes to.0) (sym own.3)
      (Steps r to.0 X z to.1 ((merged.held r before.1.low z).0 (before.1.items z own.1)) own.2) in (
        to.0,
        within_of (X ∷ path) to.0 (merged.step r X to.0 before.1.low to.1).within (r, before.1.along, to.1)
            (closure_held g goes to.0 (IsAdvanced g (IsReachedBy g path) X) advanced),
      )

pub canonical_sets_are_within_merged : CanonicalSetsAreWithinMerged
canonical_sets_are_within_merged g graph steps merged path y h =
    within_merged g (graph_len graph) (sets_of graph) (Along steps) merged path y h

module _ (g : Grammar) (graph other : Graph) (goes : ℕ → GrammarSymbol → ℕ → Type 0) (well : IsWellFormed g)
    (merged : AreMerged g (graph_len graph) (sets_of graph) goes) (canonical : IsCanonical g other) where
  -- each set of the canonical collection is within a merged one
  holder : (c : ℕ) → c < graph_len other → (s : ℕ) × (s < graph_len graph) × ((x : ItemOf) → sets_of other c x → sets_of graph s x)
  holder c below =
      let reached = canonical.reached c below in
      let some = canonical.some c below in
      let within = within_merged g (graph_len graph) (sets_of graph) goes merged reached.0 some.0 ((reached.1 some.0).0 some.1) in
      (within.0, within.1.low, λ x h. within.1.items x ((reached.1 x).0 h))

  module _ (lists : PrecedenceLists) (conflicts : Option ConflictLists) (are : AreConflictsBy g lists graph conflicts)
      (none : conflicts ≡ None) where
    no_reduce : (x : ReduceReduce) → x.state < graph_len other → IsReduceConflict g (sets_of other) x → ⊥
    no_reduce x below conflict =
        let in_merged = holder x.state below in
        let s = in_merged.0 in
        let first : HasReduce g (sets_of graph) s x.token x.first = (conflict.0.0.0, in_merged.2 _ conflict.0.0.1) in
        let second : HasReduce g (sets_of graph) s x.token x.second = (conflict.1.0, in_merged.2 _ conflict.1.1) in
        let least = only_reduction g graph goes well merged lists conflicts are none s x.token x.second in_merged.1 second in
        let low = least.1 x.first first in
        let less : x.first < x.second = conflict.2 in omega (arith, low, less)

    -- the merged set has the same reduction, so the precedences decide
    no_shift : (x : ShiftReduce) → x.state < graph_len other → IsUnresolvedConflict g lists (sets_of other) x → ⊥
    no_shift x below conflict =
        let in_merged = holder x.state below in
        let s = in_merged.0 in
        let shift = conflict.0.0 in
        let reduce = conflict.0.1.0 in
        let before : HasAfterDot g (sets_of graph) s (Terminal x.token) = (shift.0, in_merged.2 shift.0 shift.1, shift.2) in
        let reduction : HasReduce g (sets_of graph) s x.token x.prod = (reduce.0, in_merged.2 _ reduce.1) in
        no_shift_conflict g graph goes well merged lists conflicts are none s x.token x.prod in_merged.1 before reduction conflict.1

    none_there : (others : Option ConflictLists) → AreConflictsBy g lists other others → others ≡ None
    none_there others those =
        none_listed others those.some (λ x there. let conflict = (those.reduce_reduce x).0 there in no_reduce x conflict.0 conflict.2)
        (λ x there. let conflict = (those.shift_reduce x).0 there in no_shift x conflict.0 conflict.2)

pub no_merged_conflicts_by_are_no_canonical : NoMergedConflictsByAreNoCanonical
no_merged_conflicts_by_are_no_canonical g lists graph table other other_table well is none built =
    none_there g graph other (Along is.steps) well is.merged built.canonical lists table.conflicts is.conflicts none other_table.conflicts built.conflicts

-- without precedences, the same by none
pub no_merged_conflicts_are_no_canonical : NoMergedConflictsAreNoCanonical
no_merged_conflicts_are_no_canonical g graph table other other_table well is none built =
    none_there g graph other (Along is.steps) well is.merged built.canonical no_precedences table.conflicts
    (conflicts_with g no_precedences none_decide graph table.conflicts is.conflicts) none other_table.conflicts
    (conflicts_with g no_precedences none_decide other other_table.conflicts built.conflicts)
