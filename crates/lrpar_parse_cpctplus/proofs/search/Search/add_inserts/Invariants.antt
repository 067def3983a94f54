use Rattle.std.proofs.Common.{map, take}
use Rattle.lrpar_grammar.specs.Grammar.{end_token}
use Rattle.lrpar_parse_cpctplus.specs.RoundView.{plain_attempts}
use Rattle.lrpar_parse_cpctplus.specs.SearchRound.{Adds, IsInsertOf}
use Rattle.lrpar_parse_cpctplus.proofs.search.Search.add_inserts.Given as goal

-- the Inserts of the tokens so far are added
abbrev pub invariant-loop-token : goal.invariant-loop-token
invariant-loop-token g l =
    let index = g.StorageT.StorageIndex.index in
    Adds (IsInsertOf l.self.terms.now.costs (end_token l.self.point.now.checked.grammar) (take l.token-index (map (λ t. index t.0) l.tokens)) l.from l.weight)
    (plain_attempts index l.fn.attempts.items) (plain_attempts index l.attempts.items)
