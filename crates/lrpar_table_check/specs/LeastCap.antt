-- The least cap with which a table passes.
use Rattle.std.specs.Prelude.{◌<◌, ◌≤◌, ℕ}
use Rattle.lrpar_grammar.specs.Grammar.{Grammar}
use Rattle.lrpar_table_stacks.specs.Chain.{AreChainsShort, IsLongChain}
use Rattle.lrpar_table_rows.specs.Table.{Table}
use Rattle.lrpar_table_check.specs.Checked.{Checked, IsChecked}

-- no chain of state s makes more than `cap` reductions, whatever its token
abbrev pub AreShortAt : Grammar → Table → ℕ → ℕ → Type 0
AreShortAt g table cap s = (t : ℕ) → t < table.tokens → ¬ (IsLongChain g table cap s t)

-- the least cap from `from` on that no chain of state s exceeds
pub record IsLeastAt (g : Grammar) (table : Table) (s from cap : ℕ) : Type 0 where
  pub above : from ≤ cap
  pub passes : AreShortAt g table cap s
  pub least : (smaller : ℕ) → from ≤ smaller → smaller < cap → ¬ (AreShortAt g table smaller s)

-- no chain makes more reductions than the cap, and some chain makes more than each smaller cap
pub record IsLeastCap (g : Grammar) (table : Table) (cap : ℕ) : Type 0 where
  pub passes : AreChainsShort g table cap
  pub least : (smaller : ℕ) → smaller < cap → ¬ (AreChainsShort g table smaller)

-- what is kept of a check: that it passed, and the least cap with which it passes
pub record IsMeasured (d : Checked) (least : ℕ) : Type 0 where
  pub checked : IsChecked d
  pub measure : IsLeastCap d.grammar d.table least

-- the least cap with which the checked table passes
abbrev pub IsLeastCapOf : Checked → ℕ → Type 0
IsLeastCapOf d cap = IsLeastCap d.grammar d.table cap
