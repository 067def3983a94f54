use Rattle.lrpar_table_stacks.specs.Expected.{tokens_of}
use Rattle.lrpar_parse_completion.proofs.TakeLemmas.{AreTaken}
use Rattle.lrpar_parse_completion.proofs.completer.push_rest.Given as goal

-- the tokens of the moves so far were appended
abbrev pub invariant-loop-step : goal.invariant-loop-step
invariant-loop-step g l =
    let index = g.StorageT.StorageIndex.index in AreTaken index (tokens_of index l.fn.tokens.items) l.yielded l.tokens.items
