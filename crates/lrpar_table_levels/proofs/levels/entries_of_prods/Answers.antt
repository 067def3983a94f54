use Rattle.std.proofs.Common.{◌<◌, ◌∙◌, sym, ap, subst, length, map}
use Rattle.std.proofs.lemmas.List.{take_all}
use Rattle.lrpar_table_levels.specs.Levels.{level_of, named_of, prod_entries}
use Rattle.lrpar_table_levels.proofs.levels.entries_of_prods.Goals as goal

pub precedence_of-requires : goal.precedence_of-requires
precedence_of-requires g c =
    subst (λ e. e.1 < length c.args.levels.now) (sym c.entry-item.is) (c.requires c.loop-entry.entry-index c.entry-item.result c.loop-entry-test.true)

pub returns : goal.returns
returns g c =
    let index = g.StorageT.StorageIndex.index in
    c.loop-entry.invariant
    ∙ ap (λ s. prod_entries (map (level_of index) c.args.levels.now) (map (named_of index) s)) (take_all c.loop-entry.entry-index c.args.named.now c.loop-entry-test.false)
