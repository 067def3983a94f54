use Rattle.lrpar_lexer_lrlex.proofs.LexingInLemmas.{target_is}
use Rattle.lrpar_lexer_lrlex.proofs.lexing.target_of.Goals as goal

pub returns : goal.returns
returns g c =
    target_is g.StorageT.StorageIndex.index c.args.rules.now c.args.rule c.index.result.now c.requires c.index.ensures
