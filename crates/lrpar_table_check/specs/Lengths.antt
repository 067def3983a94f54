-- How many reductions chains make.
use Rattle.std.specs.Prelude.{◌<◌, ◌≤◌, ◌+◌, ℕ, List, Option, Some, None}
use Rattle.lrpar_grammar.specs.Grammar.{Grammar}
use Rattle.lrpar_table_stacks.specs.Chain.{HasReductions}
use Rattle.lrpar_table_rows.specs.Table.{Table}

module _ (g : Grammar) (table : Table) (cap : ℕ) where
  -- at the token the chain from these states makes `made` reductions, and no more
  pub record IsLength (t : ℕ) (st : List ℕ) (made : ℕ) : Type 0 where
    pub within : made ≤ cap
    pub makes : HasReductions g table t st made
    pub no_more : ¬ (HasReductions g table t st (made + 1))

  -- at the token the chain from these states makes this number of reductions, or more than the cap
  abbrev pub IsCounted : ℕ → List ℕ → Option ℕ → Type 0
  IsCounted t st None = HasReductions g table t st (cap + 1)
  IsCounted t st (Some made) = IsLength t st made

  -- the greatest of `from` and of what the chain from these states makes, whatever its token
  pub record IsLongest (st : List ℕ) (from longest : ℕ) : Type 0 where
    pub within : longest ≤ cap
    pub above : from ≤ longest
    pub passes : (t : ℕ) → ¬ (HasReductions g table t st (longest + 1))
    pub reached : from < longest → (t : ℕ) × (t < table.tokens) × HasReductions g table t st longest

  -- the number is the greatest, or at some token the chain makes more reductions than the cap
  abbrev pub IsLongestWithin : List ℕ → ℕ → Option ℕ → Type 0
  IsLongestWithin st from None = (t : ℕ) × (t < table.tokens) × HasReductions g table t st (cap + 1)
  IsLongestWithin st from (Some longest) = IsLongest st from longest
