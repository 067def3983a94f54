-- Options of the table builder.
use Rattle.std.specs.Prelude.{ℕ, Option, option_copied, unwrap_or}
use Rattle.std.specs.Borrow.{Bor}
use Rattle.lrpar_table_precedence.specs.Precedence.{PrecedenceLists, no_precedences}
use Rattle.lrpar_table_merge.specs.declared.build.Minimiser.{Minimiser}
use Rattle.lrpar_table_merge.specs.declared.build.Minimiser.TheVariants.{Canonical}
use Rattle.lrpar_table_options.specs.declared.options.TheConstants.TableOptions.{DEFAULT_CAP, DEFAULT_MAX_STATES}

-- the precedences that resolve conflicts, whether item sets are merged, the most states that a table may have, and the most reductions
-- that a chain may make
pub record Options : Type 0 where
  pub precedences : PrecedenceLists
  pub minimiser : Minimiser
  pub max_states : ℕ
  pub cap : ℕ

-- the options if nothing is set: no precedences, canonical item sets, and the limits by default
abbrev pub default_options : Options
default_options = record { precedences = no_precedences; minimiser = Canonical; max_states = DEFAULT_MAX_STATES; cap = DEFAULT_CAP }

-- the precedences that are given, or none
abbrev pub given_precedences : Option (Bor PrecedenceLists) → PrecedenceLists
given_precedences precedences = unwrap_or (option_copied precedences) no_precedences
