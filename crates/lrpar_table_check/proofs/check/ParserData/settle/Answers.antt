use Rattle.std.proofs.Common.{vec_capacity}
use Rattle.std.proofs.lemmas.List.{length-map}
use Rattle.lrpar_table_stacks.specs.Stack.{states_of}
use Rattle.lrpar_table_stacks.proofs.SettleLemmas.{on_err_always}
use Rattle.lrpar_table_stacks.proofs.StackReductionLemmas.{list_short_of_memory}
use Rattle.lrpar_table_check.proofs.check.ParserData.settle.Goals as goal

pub returns-in_err-settle_on-clause-short_of_memory : goal.returns-in_err-settle_on-clause-short_of_memory
returns-in_err-settle_on-clause-short_of_memory g c =
    let index = g.StorageT.StorageIndex.index in
    let d = c.args.self.now in
    on_err_always c.from_residual.result _
    (list_short_of_memory (λ v. states_of index v.items) _ d.grammar d.table (index c.args.t.0) _ (λ _ _. ⊥) (λ v. vec_capacity v) (λ a p r n b h. h)
    (λ a n b h. (h.0, h.1, rw length-map h.2)) (λ a b h. absurd h) c.args.stack.now c.settle_on.new.stack c.in_err-settle_on.ensures.short_of_memory)
