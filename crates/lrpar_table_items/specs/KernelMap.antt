-- Kernels and their numbers, and a map from kernels to numbers. The map has its own order of kernels.
use Rattle.std.specs.Prelude.{◌≡◌, ◌≢◌, ◌<◌, ℕ, List, Some, length, map}
use Rattle.std.specs.BTreeMap.{BTreeMap, get_by}
use Rattle.std.specs.Cmp.Lexicographic.{slice_cmp}
use Rattle.std.specs.Option.{option_map}
use Rattle.std.specs.Ordering.{bool_cmp, nat_cmp, ordering_then}
use Rattle.std.specs.declared.cmp.Ordering.{Ordering}
use Rattle.std.specs.declared.vec.Vec.{Vec}
use Rattle.lrpar_grammar_places.specs.declared.span.StIdx.{StIdx}
use Rattle.lrpar_table_items.specs.Cores.{CoreSet, core_set}
use Rattle.lrpar_table_items.specs.Next.{kernel_at}
use Rattle.lrpar_table_items.specs.declared.cores.CoreItems.{CoreItems}

-- the kernel has this number
pub record IsFound (kernels : List (List CoreSet)) (kernel : List CoreSet) (number : ℕ) : Type 0 where
  pub within : number < length kernels
  pub is : kernel_at kernels number ≡ kernel

-- the kernel has no number
abbrev pub IsFresh : List (List CoreSet) → List CoreSet → Type 0
IsFresh kernels kernel = (s : ℕ) → s < length kernels → kernel_at kernels s ≢ kernel

-- cores are in the order of their productions, then of their dots, then of their lookaheads
abbrev pub core_cmp : CoreSet → CoreSet → Ordering
core_cmp a b = ordering_then (nat_cmp a.prod b.prod) (ordering_then (nat_cmp a.dot b.dot) (slice_cmp bool_cmp a.tokens b.tokens))

-- this kernel compared with a key of the map
abbrev pub key_cmp : {S A : Type 0} → (S → ℕ) → List CoreSet → Vec (CoreItems S) A → Ordering
key_cmp index kernel key = slice_cmp core_cmp kernel (map (core_set index) key.items)

-- the map has the number of each kernel
abbrev pub NumbersKernels : {S A : Type 0} → (S → ℕ) → List (List CoreSet) → BTreeMap (Vec (CoreItems S) A) (StIdx S) → Type 0
NumbersKernels index kernels numbers =
    (s : ℕ) → s < length kernels → option_map (λ state. index state.0) (get_by (key_cmp index (kernel_at kernels s)) numbers) ≡ Some s
