use Rattle.std.proofs.Common.{vec_capacity}
use Rattle.std.proofs.lemmas.List.{length-map}
use Rattle.std.proofs.lemmas.Result.{on_err_weaker}
use Rattle.lrpar_table_stacks.specs.Stack.{states_of}
use Rattle.lrpar_table_stacks.proofs.StackReductionLemmas.{list_feed_short_of_memory}
use Rattle.lrpar_table_check.proofs.check.ParserData.feed.Goals as goal

pub returns-clause-short_of_memory : goal.returns-clause-short_of_memory
returns-clause-short_of_memory g c =
    let index = g.StorageT.StorageIndex.index in
    let d = c.args.self.now in
    on_err_weaker c.feed_on.result
    (list_feed_short_of_memory (λ v. states_of index v.items) _ d.grammar d.table (index c.args.t.0) _ _ (λ v. vec_capacity v) (λ a p r n b h. h)
    (λ a n b h. (h.0, h.1, rw length-map h.2)) (λ a b h. (h.0, rw length-map h.1)) d.cap c.args.stack.now c.feed_on.new.stack)
    c.feed_on.ensures.short_of_memory
