use Rattle.std.proofs.Common.{◌≡◌, ◌<◌, ◌^◌, ◌-◌, ℕ}
use Rattle.std.specs.Bool.{OnFalse, OnTrue}
use Rattle.lrpar_table_sentences.specs.Choices.{choices_of}
use Rattle.lrpar_table_sentences.specs.Starts.{AreStarts, CanStart, starts_of, starts_open}
use Rattle.lrpar_table_sentences.proofs.begins.grow_all.Given as goal

-- either fewer rules can't begin, or all is as before and nothing is missing of the productions so far
abbrev pub invariant-loop-prod : goal.invariant-loop-prod
invariant-loop-prod g l =
    let index = g.StorageT.StorageIndex.index in
    let choices = choices_of index l.choices in
    let first = index l.first.0 in
    AreStarts l.grm choices first (starts_of index l.starts)
    × OnTrue l.grown (starts_open (starts_of index l.starts) < starts_open (starts_of index l.initial.starts))
    × OnFalse l.grown ((l.starts ≡ l.initial.starts) × ((p : ℕ) → p < l.prod → CanStart l.grm (2 ^ 64 - 1) choices first (starts_of index l.starts) p))
