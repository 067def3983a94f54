-- Configurations by numbers, those of lesser distance first: which distances they have.
use Rattle.std.specs.Prelude.{◌≡◌, ◌<◌, ◌≤◌, ◌+◌, ℕ, List, slice_index_or}

-- the number of the first configuration that is at least as far as d; `firsts` has these by distances, and there are `count` configurations
abbrev pub first_of : List ℕ → ℕ → ℕ → ℕ
first_of firsts count d = slice_index_or firsts d count

-- the configuration with number n is at distance d
pub record IsAt (firsts : List ℕ) (count d n : ℕ) : Type 0 where
  pub low : first_of firsts count d ≤ n
  pub high : n < first_of firsts count (d + 1)

-- the first numbers of distances: that of 0 is 0, and they don't fall
pub record AreLevels (firsts : List ℕ) (count : ℕ) : Type 0 where
  pub zero : first_of firsts count 0 ≡ 0
  pub rising : (d : ℕ) → first_of firsts count d ≤ first_of firsts count (d + 1)
