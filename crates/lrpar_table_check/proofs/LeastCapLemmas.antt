-- The least cap, found state by state: what passes with a cap passes with each larger one.
use Rattle.std.proofs.Common.{◌<◌, ◌≤◌, ◌≡◌, ◌+◌, ◌-◌, inl, inr, arith, below_more, ℕ, List}
use Rattle.std.proofs.lemmas.Bool.{cases_lt}
use Rattle.lrpar_grammar.specs.Grammar.{Grammar}
use Rattle.lrpar_table_stacks.specs.Chain.{AreChainsShort, HasReductions}
use Rattle.lrpar_table_stacks.proofs.ChainLemmas.{less}
use Rattle.lrpar_table_rows.specs.Table.{Table, states_len}
use Rattle.lrpar_table_check.specs.LeastCap.{AreShortAt, IsLeastAt, IsLeastCap}

-- a chain that makes `many` reductions makes fewer, and one that doesn't make `few` makes no more
pub fewer : (g : Grammar) (table : Table) (t few many : ℕ) (st : List ℕ) → few ≤ many → HasReductions g table t st many → HasReductions g table t st few
fewer g table t few many st below h =
    let e : many ≡ (many - few) + few = omega (arith, below) in less g table t (many - few) few st (rw e at h)

pub fewer_not : (g : Grammar) (table : Table) (t few many : ℕ) (st : List ℕ) → few ≤ many → ¬ (HasReductions g table t st few)
    → ¬ (HasReductions g table t st many)
fewer_not g table t few many st below none h = none (fewer g table t few many st below h)

-- the chains of a state that a cap allows a larger one allows
pub short_above : (g : Grammar) (table : Table) (s low high : ℕ) → low ≤ high → AreShortAt g table low s → AreShortAt g table high s
short_above g table s low high above short t token long =
    short t token (long.0, long.1, fewer g table t (low + 1) (high + 1) long.0 (omega (arith, above)) long.2)

-- the least cap of this number of states, the first ones
pub record IsLeastOf (g : Grammar) (table : Table) (cap states found : ℕ) : Type 0 where
  pub within : found ≤ cap
  pub passes : (s : ℕ) → s < states → AreShortAt g table found s
  pub least : (smaller : ℕ) → smaller < found → ¬ (AreChainsShort g table smaller)

pub least_of_none : (g : Grammar) (table : Table) (cap : ℕ) → IsLeastOf g table cap 0 0
least_of_none g table cap = record {
  within = omega arith;
  passes = λ s none. absurd (omega (arith, none));
  least = λ smaller none. absurd (omega (arith, none));
}

-- one state more
pub least_of_more : (g : Grammar) (table : Table) (cap s before after : ℕ) → s < states_len table → after ≤ cap → IsLeastOf g table cap s before
    → IsLeastAt g table s before after → IsLeastOf g table cap (s + 1) after
least_of_more g table cap s before after state within so_far here = record {
  within = within;
  passes = below_more (AreShortAt g table after) s (λ k low. short_above g table k before after here.above (so_far.passes k low)) here.passes;
  least = λ smaller below.
      elim (cases_lt smaller before) as (λ _. ¬ (AreChainsShort g table smaller)) [
        | inl lower ↦ so_far.least smaller lower
        | inr from_on ↦ λ all. here.least smaller from_on below (λ t token. all s t state token)
      ];
}

-- that of all states is that of the table
pub least_of_all : (g : Grammar) (table : Table) (cap states found : ℕ) → states_len table ≤ states → IsLeastOf g table cap states found
    → IsLeastCap g table found
least_of_all g table cap states found all is = record {
  passes = λ s t state token. is.passes s (omega (arith, state, all)) t token;
  least = is.least;
}

-- and with the cap of the check it passes, too
pub short_of_all : (g : Grammar) (table : Table) (cap states found : ℕ) → states_len table ≤ states → IsLeastOf g table cap states found
    → AreChainsShort g table cap
short_of_all g table cap states found all is s t state token =
    short_above g table s found cap is.within (is.passes s (omega (arith, state, all))) t token
