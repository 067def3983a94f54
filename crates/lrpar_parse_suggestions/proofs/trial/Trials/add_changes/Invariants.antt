use Rattle.lrpar_table_shared_stacks.specs.SharedStacks.{Extends}
use Rattle.lrpar_parse_suggestions.specs.TrialView.{ListsAhead}
use Rattle.lrpar_parse_suggestions.proofs.trial.Trials.add_changes.Given as goal

-- the suggestions of the changes so far are listed
abbrev pub invariant-changes : goal.invariant-changes
invariant-changes g l =
    record {
      listed : ListsAhead g.StorageT.StorageIndex.index l.self l.place l.number l.suggestions.items;
      extends : Extends l.fn.stacks l.stacks;
    }
