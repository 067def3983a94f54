-- The stacks of a run during reductions, as contracts see them.
use Rattle.std.specs.Prelude.{ℕ}
use Rattle.lrpar_table_stacks.specs.declared.state_stack.Reduction.{Reduction}
use Rattle.lrpar_parse_run.specs.Building.{Building}
use Rattle.lrpar_parse_run.specs.Reducing.{Builds, Built, CanBuild}
use Rattle.lrpar_parse_run.specs.declared.reducing.Reducing.{Reducing}

-- the fields of the struct, as contracts see them
abbrev pub built : {S X B E C : Type 0} → Reducing S X B E C → Built B E
built s = record { grammar = s.grm.now; build = s.build.now; stack = s.stack.now; lender = s.stack.ghost_name }

-- `index` gives the number of a value of the storage type, and `builds` says what a builder builds
module _ {S X B E C : Type 0} (index : S → ℕ) (builds : B → Building X E) where
  -- the entry of the reduction can be built from the top entries
  abbrev pub CanBuildBy : Reducing S X B E C → Reduction S → Type 0
  CanBuildBy s by = CanBuild builds (built s) (index by.prod.0) (index by.rule.0) by.symbols

  -- the entries are reduced by the reduction, and nothing else changes
  abbrev pub BuildsBy : Reducing S X B E C → Reduction S → Reducing S X B E C → Type 0
  BuildsBy old by new = Builds builds (built old) (index by.prod.0) (index by.rule.0) by.symbols (built new)
