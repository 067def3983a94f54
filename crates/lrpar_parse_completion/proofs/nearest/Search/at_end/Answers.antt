use Rattle.std.proofs.Common.{◌∙◌, ap}
use Rattle.lrpar_table_stacks.specs.Stack.{states_of}
use Rattle.lrpar_parse_completion.proofs.nearest.Search.at_end.Goals as goal

pub feed_to_end-requires : goal.feed_to_end-requires
feed_to_end-requires g c =
    record { stack = ap (states_of g.StorageT.StorageIndex.index) c.in_ok-stack.ensures.items ∙ c.stack.ensures.stack }
