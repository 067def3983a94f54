-- Why the items of a state can't be passed on.
use Rattle.std.specs.Prelude.{◌≡◌, ◌<◌, ◌⊎◌, ℕ, List, Option, Some, length}
use Rattle.lrpar_grammar.specs.Grammar.{Grammar, GrammarSymbol}
use Rattle.lrpar_table_rows.specs.Graph.{ItemOf}
use Rattle.lrpar_table_items.specs.Canonical.{AreSame}
use Rattle.lrpar_table_items.specs.CoreOrder.{IsKernel}
use Rattle.lrpar_table_items.specs.Cores.{CoreSet, IsAmong}
use Rattle.lrpar_table_items.specs.ItemSets.{IsStartItem}
use Rattle.lrpar_table_items.specs.Next.{kernel_at}
use Rattle.lrpar_table_merge.specs.Held.{GoesBy, IsHeld, TransitionsOf, next_of, transitions_at}
use Rattle.lrpar_table_merge.specs.PassedOn.{IsMisfit}
use Rattle.lrpar_table_merge.specs.Propagated.{AreAlike, PassesOn, step_at}
use Rattle.lrpar_table_merge.specs.declared.held.HeldFault.{HeldFault}
use Rattle.lrpar_table_merge.specs.declared.held.HeldFault.TheVariants.{Misfit}

-- one of the kernels of a row has cores, and can't be passed on along its step
pub record HasMisfitIn (kernels : List (List CoreSet)) (row : List (Option ℕ)) (nexts : List (List CoreSet)) : Type 0 where
  pub place : ℕ
  pub low : place < length nexts
  pub some : 0 < length (kernel_at nexts place)
  pub misfit : IsMisfit kernels (step_at row place) (kernel_at nexts place)

-- state s can't be passed on by the symbol: what it passes on by it is a kernel, but no transition goes by the symbol, or one goes to no
-- state, or to a state with other LR(0) cores
pub record IsStuckAt (g : Grammar) (all : List TransitionsOf) (kernels : List (List CoreSet)) (s : ℕ) (symbol : GrammarSymbol) : Type 0 where
  pub kernel : IsKernel g (kernel_at kernels s)
  pub next : List CoreSet
  pub next_kernel : IsKernel g next
  pub items : AreSame (IsAmong next) (PassesOn g kernels s symbol)
  pub misfit : IsMisfit kernels (next_of (transitions_at all s) symbol) next

-- with these LR(0) cores, a state with items that it holds can't be passed on by a symbol
pub record IsStuck (g : Grammar) (all : List TransitionsOf) (kernels : List (List CoreSet)) : Type 0 where
  pub reached : List (List CoreSet)
  pub alike : AreAlike kernels reached
  pub held : (s : ℕ) (x : ItemOf) → IsAmong (kernel_at reached s) x → IsHeld g (GoesBy all) s x
  pub state : ℕ
  pub symbol : GrammarSymbol
  pub stuck : IsStuckAt g all reached state symbol

-- the kernel of the start item isn't that of state 0, or there is no state
pub record HasNoStart (g : Grammar) (kernels : List (List CoreSet)) : Type 0 where
  pub next : List CoreSet
  pub next_kernel : IsKernel g next
  pub items : AreSame (IsAmong next) (IsStartItem g)
  pub misfit : IsMisfit kernels (Some 0) next

-- a misfit is one of these
abbrev pub IsFaultOfHeld : Grammar → List TransitionsOf → List (List CoreSet) → HeldFault → Type 0
IsFaultOfHeld g all kernels fault = fault ≡ Misfit → HasNoStart g kernels ⊎ IsStuck g all kernels
