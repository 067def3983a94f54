use Rattle.lrpar_conflict_derivations.proofs.SearchLemmas.{end_tried}
use Rattle.lrpar_conflict_derivations.proofs.search.Search.turn.Goals as goal

pub returns-in_ok-add_new : goal.returns-in_ok-add_new
returns-in_ok-add_new g c =
    end_tried g.StorageT.StorageIndex.index c.args.self.now c.turn.new.self c.add_new.new.queue c.if-is_path_first.ensures c.in_ok-level.ensures.tried
    c.in_ok-level.ensures.start c.add_new.ensures
