use Rattle.std.proofs.Common.{arith, sym, ◌∙◌}
use Rattle.lrpar_lexer_lrlex.proofs.LexingInLemmas.{token_is}
use Rattle.lrpar_lexer_lrlex.proofs.lexing.token_of.Goals as goal

pub returns : goal.returns
returns g c =
    sym c.token.ensures
    ∙ token_is g.StorageT.StorageIndex.index c.args.rules.now c.args.rule c.index.result.now (omega (arith, c.requires, c.args.rules.now.paired))
    c.index.ensures
