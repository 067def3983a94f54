use Rattle.lrpar_table_levels.proofs.LevelLemmas.{beyond_test, within_test}
use Rattle.lrpar_table_levels.proofs.levels.are_within.Goals as goal

pub returns-then-all_tokens_within : goal.returns-then-all_tokens_within
returns-then-all_tokens_within g c =
    within_test g.StorageT.StorageIndex.index c.args.grm.now c.args.levels.now c.args.named.now c.tokens_len.result c.tokens_len.ensures.len c.prods_len.result
    c.all_named_within.result c.prods_len.ensures.len (c.all_tokens_within.ensures.0 c.if-all_tokens_within.true) c.all_named_within.ensures

pub returns-else-all_tokens_within : goal.returns-else-all_tokens_within
returns-else-all_tokens_within g c =
    beyond_test g.StorageT.StorageIndex.index c.args.grm.now c.args.levels.now c.args.named.now c.tokens_len.result c.tokens_len.ensures.len
    c.all_tokens_within.result c.if-all_tokens_within.false c.all_tokens_within.ensures
