use Rattle.std.proofs.Common.{◌∙◌, ap, length, map}
use Rattle.lrpar_grammar.specs.Grammar.{prods_len}
use Rattle.lrpar_table_levels.specs.Levels.{level_of, named_of, prod_entries}
use Rattle.lrpar_table_levels.proofs.LevelLemmas.{known_levels, prods_within, within_as}
use Rattle.lrpar_table_levels.proofs.precedences.prod_slots.Goals as goal

pub entries_of_prods-requires : goal.entries_of_prods-requires
entries_of_prods-requires g c = known_levels g.StorageT.StorageIndex.index c.args.levels.now c.args.named.now c.requires.levels_known

pub fill-requires-clause-within : goal.fill-requires-clause-within
fill-requires-clause-within g c =
    let levels = map (level_of g.StorageT.StorageIndex.index) c.args.levels.now in
    let named = map (named_of g.StorageT.StorageIndex.index) c.args.named.now in
    let n = prods_len c.args.grm.now in
    within_as c.deref.result.now (prod_entries levels named) n (length c.deref_mut.result.now) (c.deref.ensures.value ∙ c.in_ok-entries.ensures)
    (ap length c.deref_mut.ensures.value ∙ c.in_ok-slots.ensures.len ∙ c.prods_len.ensures.len) (prods_within n levels named c.requires.prods)
