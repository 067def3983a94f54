-- The safety conditions by their numbers; and the list of them has them all.
use Rattle.std.specs.Prelude.{◌++◌, ℕ, List, codes}
use Rattle.std.specs.Fmt.{decimal}
use Rattle.std.specs.List.{Contains}
use Rattle.std.proofs.Common.{arith, refl}
use Rattle.lrpar_table_rows.specs.declared.condition.SafetyCondition.{SafetyCondition}
use Rattle.lrpar_table_rows.specs.declared.condition.SafetyCondition.TheVariants.{S2, S3, S4, S5, S6, S7, S8}
use Rattle.lrpar_table_rows.specs.declared.condition.TheConstants.SafetyCondition.{ALL}

-- the number of a condition
abbrev pub condition_number : SafetyCondition → ℕ
condition_number S2 = 2
condition_number S3 = 3
condition_number S4 = 4
condition_number S5 = 5
condition_number S6 = 6
condition_number S7 = 7
condition_number S8 = 8

-- `S` and the condition's number
abbrev pub condition_text : SafetyCondition → List ℕ
condition_text condition = codes "S" ++ decimal (condition_number condition)

-- each condition is in the list
pub is_among_all : (condition : SafetyCondition) → Contains ALL condition
is_among_all S2 = (0, omega arith, refl)
is_among_all S3 = (1, omega arith, refl)
is_among_all S4 = (2, omega arith, refl)
is_among_all S5 = (3, omega arith, refl)
is_among_all S6 = (4, omega arith, refl)
is_among_all S7 = (5, omega arith, refl)
is_among_all S8 = (6, omega arith, refl)
