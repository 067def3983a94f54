-- What the lists of the check of chains hold while the chains of one state are counted.
use Rattle.std.specs.Prelude.{◌≡◌, ◌≢◌, ◌<◌, ◌≤◌, ◌+◌, ◌⊎◌, ℕ, List, [], ◌∷◌, Some, Vec, length, slice_index, slice_index_or}
use Rattle.lrpar_grammar.specs.Grammar.{Grammar}
use Rattle.lrpar_table_stacks.specs.Chain.{HasReductions, IsChainStart}
use Rattle.lrpar_table_rows.specs.Table.{Table, goto_of}
use Rattle.lrpar_table_check.specs.Lengths.{IsLength}

-- a row for each rule, and one more row with a number for each token
pub record HasRoom {A : Type 0} (table : Table) (rows : List (Vec ℕ A)) (row : List ℕ) : Type 0 where
  pub rules : length rows ≡ table.rules
  pub tokens : length row ≡ table.tokens

-- the rows at all places but this one are the same
abbrev pub AreOthersSame : {A : Type 0} → List (Vec ℕ A) → ℕ → List (Vec ℕ A) → Type 0
AreOthersSame {A} old place new = (r : ℕ) (d : Vec ℕ A) → r ≢ place → slice_index_or new r d ≡ slice_index_or old r d

-- state s has this goto by rule r
pub record IsGoto (table : Table) (s r next : ℕ) : Type 0 where
  pub rule : r < table.rules
  pub goes : goto_of table s r ≡ Some next

module _ (g : Grammar) (table : Table) (cap : ℕ) where
  -- at each token the chain from these states makes as many reductions as the row says, and no more than the cap
  abbrev pub AreLengths : List ℕ → List ℕ → Type 0
  AreLengths st row = (t : ℕ) → IsLength g table cap t st (slice_index row t)

  -- the row of rule r is empty, or it says how many reductions the chain makes that begins with s and its goto by the rule
  abbrev pub IsRowCounted : ℕ → ℕ → List ℕ → Type 0
  IsRowCounted s r row = (row ≡ []) ⊎ ((next : ℕ) × (goto_of table s r ≡ Some next) × AreLengths (s ∷ next ∷ []) row)

  -- each row is empty, or counted
  abbrev pub AreRowsCounted : {A : Type 0} → ℕ → List (Vec ℕ A) → Type 0
  AreRowsCounted {A} s rows = (r : ℕ) (d : Vec ℕ A) → r < length rows → IsRowCounted s r (slice_index_or rows r d).items

  -- the rows of state s are counted or empty, and there is room for one more
  pub record AreCounts {A : Type 0} (s : ℕ) (rows : List (Vec ℕ A)) (row : List ℕ) : Type 0 where
    pub room : HasRoom table rows row
    pub counted : AreRowsCounted s rows

  -- the greatest of `from` and of what some chains of state s make, among them the one that begins with s and `next`
  pub record IsLongestWith (s next from longest : ℕ) : Type 0 where
    pub within : longest ≤ cap
    pub above : from ≤ longest
    pub passes : (t : ℕ) → ¬ (HasReductions g table t (s ∷ next ∷ []) (longest + 1))
    pub reached : from < longest → (t : ℕ) × (st : List ℕ) × (t < table.tokens) × IsChainStart table s st × HasReductions g table t st longest
