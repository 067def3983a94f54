use Rattle.std.proofs.Common.{◌∙◌, ap, length, map}
use Rattle.lrpar_grammar.specs.Grammar.{tokens_len}
use Rattle.lrpar_table_levels.specs.Levels.{level_of, token_entries}
use Rattle.lrpar_table_levels.proofs.LevelLemmas.{entries_within, within_as}
use Rattle.lrpar_table_levels.proofs.precedences.token_slots.Goals as goal

pub fill-requires-clause-within : goal.fill-requires-clause-within
fill-requires-clause-within g c =
    let levels = map (level_of g.StorageT.StorageIndex.index) c.args.levels.now in
    let n = tokens_len c.args.grm.now in
    within_as c.deref.result.now (token_entries levels) n (length c.deref_mut.result.now) (c.deref.ensures.value ∙ c.in_ok-entries.ensures)
    (ap length c.deref_mut.ensures.value ∙ c.in_ok-slots.ensures.len ∙ c.tokens_len.ensures.len) (entries_within n levels c.requires)
