-- Sets of tokens as lists of bits: bit t says whether token t is in the set.
use Rattle.std.specs.Prelude.{◌≡◌, ◌==◌, ◌&&◌, ◌||◌, ℕ, Bool, IsTrue, false, not, List, count_by, nat_lt, slice_index_or}

-- whether token t is in the set; no token out of range is
abbrev pub has : List Bool → ℕ → Bool
has bits t = slice_index_or bits t false

-- the number of tokens in range that aren't in the set
abbrev pub missing : List Bool → ℕ
missing bits = count_by not bits

-- the set has no token
abbrev pub IsEmptySet : List Bool → Type 0
IsEmptySet bits = (t : ℕ) → has bits t ≡ false

-- the token was put into the set
abbrev pub PutsToken : List Bool → List Bool → ℕ → Type 0
PutsToken old new token = (t : ℕ) → has new t ≡ (has old t || t == token)

-- the tokens of the other set below `end` were put into the set
abbrev pub UnitesBelow : List Bool → List Bool → List Bool → ℕ → Type 0
UnitesBelow old new other end = (t : ℕ) → has new t ≡ (has old t || (nat_lt t end && has other t))

-- all tokens of the other set are in this one
abbrev pub CoversAll : List Bool → List Bool → Type 0
CoversAll bits other = (t : ℕ) → IsTrue (has other t) → IsTrue (has bits t)

-- a token is in both sets
abbrev pub HaveCommon : List Bool → List Bool → Type 0
HaveCommon bits other = (t : ℕ) × IsTrue (has bits t) × IsTrue (has other t)
