use Rattle.std.proofs.Common.{◌≡◌, ◌-◌, take}
use Rattle.lrpar_table_stacks.specs.Expected.{tokens_of}
use Rattle.lrpar_parse_repair.specs.PlainSteps.{plain_steps}
use Rattle.lrpar_parse_completion.specs.Nearest.{inserts_deletes}
use Rattle.lrpar_parse_completion.proofs.nearest.Search.steps.Given as goal

-- the insertions so far
abbrev pub invariant-inserted : goal.invariant-inserted
invariant-inserted g l =
    let index = g.StorageT.StorageIndex.index in
    plain_steps index l.steps.items ≡ inserts_deletes (take l.token-index (tokens_of index l.self.tokens.now)) 0

-- all insertions, and the deletions so far
abbrev pub invariant-deleted : goal.invariant-deleted
invariant-deleted g l =
    let index = g.StorageT.StorageIndex.index in
    plain_steps index l.steps.items ≡ inserts_deletes (take l.fn.repair.inserted (tokens_of index l.self.tokens.now)) (l.counter - l.self.point.now.place)
