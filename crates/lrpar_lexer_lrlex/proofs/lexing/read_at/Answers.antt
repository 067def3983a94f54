use Rattle.std.proofs.Common.{None, Some, drop}
use Rattle.lrpar_lexer.specs.Matching.{NoneMatches, Wins}
use Rattle.lrpar_lexer_lrlex.specs.LexingIn.{patterns_in}
use Rattle.lrpar_lexer_lrlex.specs.StateRules.{plain_state_rules}
use Rattle.lrpar_lexer_lrlex.proofs.LexingInLemmas.{match_within, read_in, rule_known, winner_in, winner_place}
use Rattle.lrpar_lexer.specs.Matchers.{programs_of}
use Rattle.lrpar_lexer_lrlex.proofs.lexing.read_at.Goals as goal

pub returns-in_err-winner-clause-found : goal.returns-in_err-winner-clause-found
returns-in_err-winner-clause-found g c =
    let none : NoneMatches (patterns_in (plain_state_rules g.StorageT.StorageIndex.index c.args.rules.now) c.args.state) (drop c.args.at c.args.text.now) =
    winner_in g.StorageT.StorageIndex.index c.args.rules.now c.args.state (programs_of c.args.matchers.now) c.args.active.now c.args.text.now
    c.range_from.result.now c.args.at None c.requires.ready.programs c.requires.ready.active c.range_from.ensures.value c.in_err-winner.ensures.winner in
    rw c.from_residual.ensures none

pub rule_at-requires : goal.rule_at-requires
rule_at-requires g c =
    winner_place g.StorageT.StorageIndex.index c.args.rules.now c.args.state c.args.active.now c.args.text.now c.args.at
    c.in_ok-winner.winner.rule c.in_ok-winner.winner.len c.requires.ready.active
    (winner_in g.StorageT.StorageIndex.index c.args.rules.now c.args.state (programs_of c.args.matchers.now) c.args.active.now c.args.text.now
    c.range_from.result.now c.args.at (Some c.in_ok-winner.winner) c.requires.ready.programs c.requires.ready.active c.range_from.ensures.value
    c.in_ok-winner.ensures.winner)

pub returns-clause-found : goal.returns-clause-found
returns-clause-found g c =
    read_in g.StorageT.StorageIndex.index c.args.rules.now c.args.state c.args.active.now c.args.text.now c.args.at
    c.in_ok-winner.winner.rule c.in_ok-winner.winner.len c.rule_at.result c.requires.ready.active c.rule_at.ensures
    (winner_in g.StorageT.StorageIndex.index c.args.rules.now c.args.state (programs_of c.args.matchers.now) c.args.active.now c.args.text.now
    c.range_from.result.now c.args.at (Some c.in_ok-winner.winner) c.requires.ready.programs c.requires.ready.active c.range_from.ensures.value
    c.in_ok-winner.ensures.winner)

pub returns-clause-known : goal.returns-clause-known
returns-clause-known g c =
    rule_known g.StorageT.StorageIndex.index c.args.rules.now c.args.state c.args.active.now c.in_ok-winner.winner.rule c.rule_at.result
    c.requires.ready.active c.rule_at.ensures

pub returns-clause-some : goal.returns-clause-some
returns-clause-some g c =
    let wins : Wins (patterns_in (plain_state_rules g.StorageT.StorageIndex.index c.args.rules.now) c.args.state) (drop c.args.at c.args.text.now)
    c.in_ok-winner.winner.rule c.in_ok-winner.winner.len =
    winner_in g.StorageT.StorageIndex.index c.args.rules.now c.args.state (programs_of c.args.matchers.now) c.args.active.now c.args.text.now
    c.range_from.result.now c.args.at (Some c.in_ok-winner.winner) c.requires.ready.programs c.requires.ready.active c.range_from.ensures.value
    c.in_ok-winner.ensures.winner in
    wins.matches.some

pub returns-clause-boundary : goal.returns-clause-boundary
returns-clause-boundary g c =
    match_within g.StorageT.StorageIndex.index c.args.rules.now c.args.state c.args.text.now c.args.at c.in_ok-winner.winner.rule
    c.in_ok-winner.winner.len c.requires.boundary.0
    (winner_in g.StorageT.StorageIndex.index c.args.rules.now c.args.state (programs_of c.args.matchers.now) c.args.active.now c.args.text.now
    c.range_from.result.now c.args.at (Some c.in_ok-winner.winner) c.requires.ready.programs c.requires.ready.active c.range_from.ensures.value
    c.in_ok-winner.ensures.winner)
