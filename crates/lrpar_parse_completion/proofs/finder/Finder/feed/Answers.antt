use Rattle.std.proofs.Common.{◌<◌, arith}
use Rattle.std.proofs.lemmas.Result.{IfOk-weaker}
use Rattle.lrpar_grammar.specs.Grammar.{end_token}
use Rattle.lrpar_parse_completion.proofs.FeedLemmas.{inserted_by}
use Rattle.lrpar_parse_completion.proofs.finder.Finder.feed.Goals as goal

pub returns-then-from : goal.returns-then-from
returns-then-from g c =
    let end = rw c.grm.ensures at c.eof_token_idx.ensures in
    record {
      fed = λ low. absurd (omega (arith, low, end, c.from.ensures, c.from-2.ensures, c.if-from.true));
      stack = c.requires;
    }

pub feed-requires-clause-token : goal.feed-requires-clause-token
feed-requires-clause-token g c =
    let end = rw c.grm.ensures at c.eof_token_idx.ensures in
    let many = c.stable-lemma.ensures.checked.safe.shape.tokens in
    omega (arith, many, end, c.from.ensures, c.from-2.ensures, c.if-from.false)

pub returns : goal.returns
returns g c =
    let index = g.StorageT.StorageIndex.index in
    let d = c.args.self.now.checked.now in
    let end = rw c.grm.ensures at c.eof_token_idx.ensures in
    let low : index c.args.token.0 < end_token d.grammar = omega (arith, end, c.from.ensures, c.from-2.ensures, c.if-from.false) in
    record {
      fed = IfOk-weaker c.feed.result _ _ (λ fed h. inserted_by d.grammar d.table d.cap (index c.args.token.0) _ fed _ low h) c.feed.ensures.fed;
      stack = c.feed.ensures.stack;
    }
