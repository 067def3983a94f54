use Rattle.lrpar_table_pops.specs.StoredPops.{any_of}
use Rattle.lrpar_table_pops.proofs.SearchLemmas.{all_completable, on_ok_both}
use Rattle.lrpar_table_pops.proofs.check_completable.search_all.Goals as goal

pub returns-clause-completable : goal.returns-clause-completable
returns-clause-completable g c =
    let d = c.args.checked.now in
    let shape = c.stable-lemma.ensures.sound.safe.shape in
    on_ok_both c.search.result
    (λ are done. all_completable g.StorageT.StorageIndex.index d.grammar d.table (any_of c.args.pops.now) c.search.new.searched.stacks.items c.requires.part.pops.by_any are done
    (record { reduces = shape.reduces; rules = shape.rules }))
    c.search.ensures.stacks c.search.ensures.done
