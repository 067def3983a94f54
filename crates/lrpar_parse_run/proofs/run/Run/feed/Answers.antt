use Rattle.std.proofs.Common.{◌≡◌, arith}
use Rattle.lrpar_grammar.specs.Grammar.{tokens_len}
use Rattle.lrpar_parse_lexemes.specs.Views.{facts_by}
use Rattle.lrpar_parse_run.proofs.MovesLemmas.{feeds_not_sticks}
use Rattle.lrpar_parse_run.proofs.run.Run.feed.Goals as goal

pub feed_lexeme-requires-clause-lexeme : goal.feed_lexeme-requires-clause-lexeme
feed_lexeme-requires-clause-lexeme g c =
    let d = c.args.self.now.checked.now in
    let less = c.requires.feeds.token in
    let all : d.table.tokens ≡ tokens_len d.grammar = c.stable-lemma.ensures.checked.safe.shape.tokens in
    record { token = omega (arith, less, all); inner = λ same. omega (arith, less, same) }

pub unreachable-requires : goal.unreachable-requires
unreachable-requires g c =
    let facts = facts_by g.StorageT.StorageIndex.index g.LexemeT.Lexeme.parts in
    let d = c.args.self.now.checked.now in
    let builds = g.B.Build.builds c.args.self.now.build.now in
    feeds_not_sticks facts builds d (facts c.args.lexeme).token c.args.stack.now c.feed_lexeme.new.stack
    c.requires.feeds.works.0 c.requires.feeds.works.1 c.requires.feeds.works.2 (c.in_ok-feed_lexeme.ensures.sticks c.if-not-branch.true)

pub returns : goal.returns
returns g c = record { run_stack = c.in_ok-feed_lexeme.ensures.run_stack; shifts = c.in_ok-feed_lexeme.ensures.shifts c.if-not-branch.false }
