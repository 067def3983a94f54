use Rattle.std.proofs.Common.{map, arith}
use Rattle.std.proofs.lemmas.List.{length-map}
use Rattle.std.proofs.lemmas.Option.{slice_get_within}
use Rattle.lrpar_lexer.specs.Searches.{program_of}
use Rattle.lrpar_lexer.proofs.WinnerLemmas.{values_stay}
use Rattle.lrpar_lexer.proofs.matching.match_of.Goals as goal

pub returns-then-index-len-clause-same : goal.returns-then-index-len-clause-same
returns-then-index-len-clause-same c =
    values_stay program_of c.args.matchers.now.items c.args.index c.index_mut.result.now c.match_len.new.self (omega arith)
    c.index_mut.ensures.value c.match_len.ensures.same

pub returns-else-index-len-clause-found : goal.returns-else-index-len-clause-found
returns-else-index-len-clause-found c program pattern is finds =
    let items = c.args.matchers.now.items in
    absurd (omega (arith, slice_get_within (map program_of items) c.args.index program is, length-map items program_of))
