-- The conflicts that values of code represent, by the numbers of their indexes.
use Rattle.std.specs.Prelude.{◌≡◌, ℕ, List, map}
use Rattle.lrpar_grammar_places.specs.declared.span.TIdx.{TIdx}
use Rattle.lrpar_grammar_places.specs.declared.span.PIdx.{PIdx}
use Rattle.lrpar_grammar_places.specs.declared.span.StIdx.{StIdx}
use Rattle.std.specs.declared.vec.Vec.{Vec}
use Rattle.lrpar_table_precedence.specs.declared.precedence.Resolution.{Resolution}
use Rattle.lrpar_table_rows.specs.Table.{ConflictLists, ReduceReduce, ResolvedOf, ShiftReduce}

-- a reduce/reduce conflict: the token, the two productions and the state
abbrev pub reduce_reduce_of : {S : Type 0} → (S → ℕ) → TIdx S × PIdx S × PIdx S × StIdx S → ReduceReduce
reduce_reduce_of index x = record { token = index x.0.0; first = index x.1.0; second = index x.2.0; state = index x.3.0 }

-- all reduce/reduce conflicts, by their numbers
abbrev pub reductions_of : {S : Type 0} → (S → ℕ) → List (TIdx S × PIdx S × PIdx S × StIdx S) → List ReduceReduce
reductions_of index xs = map (reduce_reduce_of index) xs

-- these are the reduce/reduce conflicts
abbrev pub AreReductions : {S : Type 0} → (S → ℕ) → ConflictLists → List (TIdx S × PIdx S × PIdx S × StIdx S) → Type 0
AreReductions index conflicts rr = reductions_of index rr ≡ conflicts.reduce_reduce

-- a resolved conflict: the token, the production, the state, and how it was resolved
abbrev pub resolved_conflict_of : {S : Type 0} → (S → ℕ) → TIdx S × PIdx S × StIdx S × Resolution → ResolvedOf
resolved_conflict_of index x = record { conflict = record { token = index x.0.0; prod = index x.1.0; state = index x.2.0 }; by = x.3 }

-- all resolved conflicts, by their numbers
abbrev pub resolved_of : {S : Type 0} → (S → ℕ) → List (TIdx S × PIdx S × StIdx S × Resolution) → List ResolvedOf
resolved_of index xs = map (resolved_conflict_of index) xs

-- these are the resolved conflicts; Z is the allocator of the Vec
abbrev pub AreResolved : {S Z : Type 0} → (S → ℕ) → Vec (TIdx S × PIdx S × StIdx S × Resolution) Z → List ResolvedOf → Type 0
AreResolved index conflicts resolved = resolved ≡ resolved_of index conflicts.items

-- a shift/reduce conflict: the token, the production and the state
abbrev pub shift_reduce_of : {S : Type 0} → (S → ℕ) → TIdx S × PIdx S × StIdx S → ShiftReduce
shift_reduce_of index x = record { token = index x.0.0; prod = index x.1.0; state = index x.2.0 }

-- all shift/reduce conflicts, by their numbers
abbrev pub shifts_of : {S : Type 0} → (S → ℕ) → List (TIdx S × PIdx S × StIdx S) → List ShiftReduce
shifts_of index xs = map (shift_reduce_of index) xs

-- these are the shift/reduce conflicts
abbrev pub AreShifts : {S : Type 0} → (S → ℕ) → ConflictLists → List (TIdx S × PIdx S × StIdx S) → Type 0
AreShifts index conflicts sr = shifts_of index sr ≡ conflicts.shift_reduce
