use Rattle.std.proofs.Common.{◌∙◌, ℕ, None, Some, Option, drop, inl, map, option_map}
use Rattle.lrpar_lexer.specs.Matching.{IsUnmatched, NoneMatches, Wins}
use Rattle.lrpar_lexer.specs.Rules.{pattern_of}
use Rattle.lrpar_lexer.proofs.LexingAllLemmas.{run_is_next, run_of_rules}
use Rattle.lrpar_lexer.proofs.LexingLemmas.{boundary_past, reads_winner, winner_of_rules, wins_within}
use Rattle.lrpar_lexer.proofs.lexing_all.next_lexeme.Goals as goal

pub returns-in_default : goal.returns-in_default
returns-in_default g c =
    let index = g.StorageT.StorageIndex.index in
    let rules = c.args.rules.now in
    let text = c.args.text.now in
    let at = c.args.at in
    let none : NoneMatches (map pattern_of rules) (drop at text) =
    winner_of_rules rules _ text c.range_from.result.now at None c.requires.programs c.range_from.ensures.value c.in_default.ensures.winner in
    let run : IsUnmatched (map pattern_of rules) text at c.measure_unmatched.result =
    run_of_rules rules _ text at c.measure_unmatched.result (c.find_winner.ensures.same ∙ c.requires.programs) none
    (λ patterns find. c.measure_unmatched.ensures.unmatched patterns find tt) in
    record {
      next = run_is_next index rules (index c.args.unmatched.0) text at c.measure_unmatched.result run;
      some = run.some;
      boundary = run.boundary;
      same = c.measure_unmatched.ensures.same ∙ c.find_winner.ensures.same;
    }

pub token_of-requires : goal.token_of-requires
token_of-requires g c =
    wins_within g.StorageT.StorageIndex.index c.args.rules.now c.args.text.now c.args.at c.in-Some.winner.rule c.in-Some.winner.len
    (winner_of_rules c.args.rules.now _ c.args.text.now c.range_from.result.now c.args.at (Some c.in-Some.winner)
    c.requires.programs c.range_from.ensures.value c.in-Some.ensures.winner)

pub returns : goal.returns
returns g c =
    let index = g.StorageT.StorageIndex.index in
    let rules = c.args.rules.now in
    let text = c.args.text.now in
    let at = c.args.at in
    let winner = c.in-Some.winner in
    let token : Option ℕ = option_map (λ token. index token.0) c.token_of.result in
    let wins : Wins (map pattern_of rules) (drop at text) winner.rule winner.len =
    winner_of_rules rules _ text c.range_from.result.now at (Some winner) c.requires.programs c.range_from.ensures.value c.in-Some.ensures.winner in
    record {
      next = inl (reads_winner index rules text at winner.rule winner.len token wins c.token_of.ensures);
      some = wins.matches.some;
      boundary = boundary_past text at winner.len c.requires.boundary.0 wins.matches.boundary;
      same = c.find_winner.ensures.same;
    }
