-- The union of two kernels with the same LR(0) cores.
use Rattle.std.specs.Prelude.{◌≡◌, ◌||◌, ℕ, List, length, map}
use Rattle.lrpar_grammar.specs.Tokens.{has}
use Rattle.lrpar_table_items.specs.Cores.{CoreSet}
use Rattle.lrpar_table_merge.specs.Compatible.{HaveSameCores, lookaheads_at}

-- how many tokens the set of each core has room for
abbrev pub rooms_of : List CoreSet → List ℕ
rooms_of cores = map (λ core. length core.tokens) cores

-- the cores stay, and the lookaheads of each are those that it had and those that it has in the other kernel
pub record AreUnited (before other after : List CoreSet) : Type 0 where
  pub same : HaveSameCores after before
  pub room : rooms_of after ≡ rooms_of before
  pub tokens : (i t : ℕ) → has (lookaheads_at after i) t ≡ (has (lookaheads_at before i) t || has (lookaheads_at other i) t)
