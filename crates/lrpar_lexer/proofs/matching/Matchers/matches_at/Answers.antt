use Rattle.std.proofs.Common.{option_map}
use Rattle.lrpar_lexer.specs.Matching.{tried_of}
use Rattle.lrpar_lexer.proofs.UnmatchedLemmas.{test_of_winner}
use Rattle.lrpar_lexer.proofs.matching.Matchers.matches_at.Goals as goal

pub returns-clause-matches : goal.returns-clause-matches
returns-clause-matches c patterns find all =
    test_of_winner (tried_of patterns (option_map (λ x. x.now) c.args.chosen)) c.args.text.now c.args.at c.range_from.result.now
    c.try_patterns.result c.is_some.result (c.is_char_boundary.ensures.test.0 c.if-not-is_char_boundary.false) c.range_from.ensures.value
    (c.try_patterns.ensures.winner patterns find all) c.is_some.ensures
