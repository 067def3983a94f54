use Rattle.lrpar_table_shared_stacks.specs.SharedStacks.{current_stack}
use Rattle.lrpar_parse_suggestions.specs.TrialView.{AreNumberedBefore, FeedsBefore, HasStack}
use Rattle.lrpar_parse_suggestions.proofs.trial.Trials.number_stacks.Given as goal

-- the tokens before this place are fed, and the stacks before each earlier place that is tried have their numbers
abbrev pub invariant-places : goal.invariant-places
invariant-places g l =
    let index = g.StorageT.StorageIndex.index in
    record {
      fed : FeedsBefore index l.self l.at (current_stack l.stacks);
      stack : HasStack l.self l.stacks;
      numbered : AreNumberedBefore index l.self l.stacks l.at l.numbers.items;
    }
