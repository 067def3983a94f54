-- The chains of a table, with a cap, as the check of them has them: how a chain begins, and what is found of it.
use Rattle.std.specs.Prelude.{◌≡◌, ◌<◌, ◌≤◌, ◌+◌, ◌∷◌, [], ℕ, List, Option, IfSome, MatchOption, Vec}
use Rattle.std.specs.Option.{option_to_list}
use Rattle.lrpar_grammar_places.specs.declared.span.PIdx.{PIdx}
use Rattle.lrpar_grammar_places.specs.declared.span.RIdx.{RIdx}
use Rattle.lrpar_grammar_places.specs.declared.span.StIdx.{StIdx}
use Rattle.lrpar_grammar_places.specs.declared.span.TIdx.{TIdx}
use Rattle.lrpar_table_rows.specs.PlainRows.{plain_goto}
use Rattle.lrpar_table_rows.specs.Table.{IsClosed, IsGotoWithin, ReduceBy, states_len}
use Rattle.lrpar_table_stacks.specs.Chain.{HasReductions, IsLongChain, IsShortUntil}
use Rattle.lrpar_table_stacks.specs.Reduction.{top_action}
use Rattle.lrpar_table_stacks.specs.ReductionStep.{FitsGrammar}
use Rattle.lrpar_table_stacks.specs.Stack.{AreSomeStatesOf, states_of}
use Rattle.lrpar_table_check.specs.Counts.{AreCounts, AreLengths, AreRowsCounted, HasRoom, IsGoto, IsLongestWith}
use Rattle.lrpar_table_check.specs.LeastCap.{AreShortAt, IsLeastAt}
use Rattle.lrpar_table_check.specs.Lengths.{IsCounted, IsLongest, IsLongestWithin}
use Rattle.lrpar_table_check.specs.declared.chains.Chains.{Chains}
use Rattle.lrpar_table_check.specs.declared.longest.Counts.{Counts}

-- the states with which a chain begins: a state, and the one above it, if there is one
abbrev pub start_of : {S : Type 0} → (S → ℕ) → StIdx S → Option (StIdx S) → List ℕ
start_of index s above = index s.0 ∷ option_to_list (plain_goto index above)

-- the table fits its grammar, and leads to its own states
pub record IsSound {S : Type 0} (d : Chains S) : Type 0 where
  pub fits : FitsGrammar d.grm.now d.stable.now
  pub closed : IsClosed d.stable.now

-- the lists have a row for each rule, and one more row with a number for each token
abbrev pub HaveRoom : {S : Type 0} → Chains S → Counts S → Type 0
HaveRoom d counts = HasRoom d.stable.now counts.rows.items counts.row.items

module _ {S : Type 0} (index : S → ℕ) (d : Chains S) where
  -- s is a state of the table
  abbrev pub IsState : StIdx S → Type 0
  IsState s = index s.0 < states_len d.stable.now

  -- the state above, if there is one, is a state of the table
  abbrev pub IsAbove : Option (StIdx S) → Type 0
  IsAbove above = IsGotoWithin (states_len d.stable.now) (plain_goto index above)

  -- state s has this goto, of a rule and a state
  abbrev pub HasGoto : StIdx S → RIdx S × StIdx S → Type 0
  HasGoto s goto = IsGoto d.stable.now (index s.0) (index goto.0.0) (index goto.1.0)

  -- states of the table, at least one
  abbrev pub AreSomeStates : List (StIdx S) → Type 0
  AreSomeStates states = AreSomeStatesOf d.stable.now (states_of index states)

  -- at the token the chain from these states makes this number of reductions; without a number, more than the cap
  abbrev pub MakesFrom : TIdx S → List (StIdx S) → Option ℕ → Type 0
  MakesFrom t states made = IsCounted d.grm.now d.stable.now d.cap (index t.0) (states_of index states) made

  -- the chain that begins with s, and with the state above, if there is one
  module _ (s : StIdx S) (above : Option (StIdx S)) where
    -- at the token the chain makes this number of reductions; without a number, more than the cap
    abbrev pub Makes : TIdx S → Option ℕ → Type 0
    Makes t made = IsCounted d.grm.now d.stable.now d.cap (index t.0) (start_of index s above) made

    -- at the token the chain makes more reductions than the cap
    abbrev pub IsTooLong : TIdx S → Type 0
    IsTooLong t = HasReductions d.grm.now d.stable.now (index t.0) (start_of index s above) (d.cap + 1)

    -- the chain's first reduction at the token is by this production
    abbrev pub BeginsBy : TIdx S → PIdx S → Type 0
    BeginsBy t prod = top_action d.stable.now (index t.0) (start_of index s above) ≡ ReduceBy (index prod.0)

    -- the first token below `end` at which the chain is too long; or `end`
    abbrev pub IsFirstTooLong : ℕ → ℕ → Type 0
    IsFirstTooLong end found = IsShortUntil d.grm.now d.stable.now d.cap (start_of index s above) end found

    -- the greatest of `from` and of what the chain makes at any token; without a number, that is more than the cap
    abbrev pub IsLongestOfChain : ℕ → Option ℕ → Type 0
    IsLongestOfChain from found = IsLongestWithin d.grm.now d.stable.now d.cap (start_of index s above) from found

    -- the row has for each token what the chain makes there, none of it more than was found
    abbrev pub IsRowOf : List ℕ → Option ℕ → Type 0
    IsRowOf row found = IfSome found (λ longest. AreLengths d.grm.now d.stable.now longest (start_of index s above) row)

  -- the chains of state s
  module _ (s : StIdx S) where
    -- the first token at which a chain of the state is too long, if there is one
    abbrev pub IsFirstOfState : Option ℕ → Type 0
    IsFirstOfState found = MatchOption found (AreShortAt d.grm.now d.stable.now d.cap (index s.0))
        (λ t. (t < d.stable.now.tokens) × IsLongChain d.grm.now d.stable.now d.cap (index s.0) t
        × ((k : ℕ) → k < t → ¬ (IsLongChain d.grm.now d.stable.now d.cap (index s.0) k)))

    -- a number that is right; or none, since a chain of the state is too long
    abbrev pub IsUnlessTooLong : (ℕ → Type 0) → Option ℕ → Type 0
    IsUnlessTooLong Right found = MatchOption found (¬ (AreShortAt d.grm.now d.stable.now d.cap (index s.0))) Right

    -- the least cap from `from` on that no chain of the state exceeds
    abbrev pub IsLeastOfState : ℕ → Option ℕ → Type 0
    IsLeastOfState from found = IsUnlessTooLong (λ longest. IsLeastAt d.grm.now d.stable.now (index s.0) from longest × (longest ≤ d.cap)) found

    -- the greatest of `from` and of what some chains of the state make, among them the one that begins with s and `next`
    abbrev pub IsLongestThrough : StIdx S → ℕ → Option ℕ → Type 0
    IsLongestThrough next from found =
        IsUnlessTooLong (λ longest. IsLongestWith d.grm.now d.stable.now d.cap (index s.0) (index next.0) from longest) found

    -- the greatest of `from` and of what the chain makes that begins with s and `next`
    abbrev pub IsLongestFrom : StIdx S → ℕ → Option ℕ → Type 0
    IsLongestFrom next from found =
        IsUnlessTooLong (λ longest. IsLongest d.grm.now d.stable.now d.cap (index s.0 ∷ index next.0 ∷ []) from longest) found

    -- each row, one for a rule, is empty or counts the reductions of the chain by the rule's goto, within the cap
    abbrev pub AreRowsOf : {A : Type 0} → List (Vec ℕ A) → Type 0
    AreRowsOf rows = AreRowsCounted d.grm.now d.stable.now d.cap (index s.0) rows

    -- each row is empty or counts the reductions of a chain, with no number above `most`; and there is room for one more row
    abbrev pub AreCountsIn : {A : Type 0} → ℕ → List (Vec ℕ A) → List ℕ → Type 0
    AreCountsIn most rows row = AreCounts d.grm.now d.stable.now most (index s.0) rows row

    -- each row of the check's lists is empty or counts the reductions of a chain, with no number above `most`; and there is room for one
    -- more row
    abbrev pub AreCountsOf : ℕ → Counts S → Type 0
    AreCountsOf most counts = AreCountsIn most counts.rows.items counts.row.items

    -- each row of the check's lists is empty or counts the reductions of a chain, with no number above the one that was found, if one was
    abbrev pub AreCountsFound : Counts S → Option ℕ → Type 0
    AreCountsFound counts found = IfSome found (λ most. AreCountsOf most counts)
