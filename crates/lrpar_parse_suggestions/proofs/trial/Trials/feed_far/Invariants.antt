use Rattle.std.proofs.Common.{take}
use Rattle.lrpar_table_shared_stacks.specs.SharedStacks.{Extends, current_stack}
use Rattle.lrpar_parse_suggestions.specs.Changed.{changed}
use Rattle.lrpar_parse_suggestions.specs.PlainSuggestions.{plain_change}
use Rattle.lrpar_parse_suggestions.specs.Suggestions.{FeedsTokens}
use Rattle.lrpar_parse_suggestions.specs.TrialView.{HasStack, tokens_in}
use Rattle.lrpar_parse_suggestions.proofs.trial.Trials.feed_far.Given as goal

-- the tokens before this place, changed, are fed
abbrev pub invariant-feeding : goal.invariant-feeding
invariant-feeding g l =
    let index = g.StorageT.StorageIndex.index in
    let d = l.self.data.now in
    record {
      fed : FeedsTokens d.grammar d.table (changed (take l.at (tokens_in index l.self)) l.place (plain_change index l.fn.change)) (current_stack l.stacks);
      stack : HasStack l.self l.stacks;
      extends : Extends l.fn.stacks l.stacks;
    }
