-- The conditions of completeness by their numbers; and the list of them has them all.
use Rattle.std.specs.Prelude.{◌++◌, ℕ, List, codes}
use Rattle.std.specs.Fmt.{decimal}
use Rattle.std.specs.List.{Contains}
use Rattle.std.proofs.Common.{arith, refl}
use Rattle.lrpar_table_conditions.specs.declared.completeness.CompletenessCondition.{CompletenessCondition}
use Rattle.lrpar_table_conditions.specs.declared.completeness.CompletenessCondition.TheVariants.{C1, C2, C3, C4, C5}
use Rattle.lrpar_table_conditions.specs.declared.completeness.TheConstants.CompletenessCondition.{ALL}

-- the number of a condition
abbrev pub condition_number : CompletenessCondition → ℕ
condition_number C1 = 1
condition_number C2 = 2
condition_number C3 = 3
condition_number C4 = 4
condition_number C5 = 5

-- `C` and the condition's number
abbrev pub condition_text : CompletenessCondition → List ℕ
condition_text condition = codes "C" ++ decimal (condition_number condition)

-- each condition is in the list
pub is_among_all : (condition : CompletenessCondition) → Contains ALL condition
is_among_all C1 = (0, omega arith, refl)
is_among_all C2 = (1, omega arith, refl)
is_among_all C3 = (2, omega arith, refl)
is_among_all C4 = (3, omega arith, refl)
is_among_all C5 = (4, omega arith, refl)
