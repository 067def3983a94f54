use Rattle.std.proofs.Common.{◌≤◌, ◌+◌, length}
use Rattle.lrpar_table_shared_stacks.specs.SharedStacks.{Extends}
use Rattle.lrpar_parse_suggestions.specs.TrialView.{ListsFrom}
use Rattle.lrpar_parse_suggestions.proofs.trial.Trials.add_all.Given as goal

-- the suggestions from this place on are listed
abbrev pub invariant-places : goal.invariant-places
invariant-places g l =
    record {
      few : l.left ≤ length l.numbers;
      listed : ListsFrom g.StorageT.StorageIndex.index l.self (l.first + l.left) l.suggestions.items;
      extends : Extends l.fn.stacks l.stacks;
    }

abbrev pub decreases-places : goal.decreases-places
decreases-places g l = l.left
