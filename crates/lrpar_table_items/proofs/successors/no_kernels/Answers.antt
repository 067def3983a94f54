use Rattle.std.proofs.Common.{◌+◌, ◌∙◌, ap, length}
use Rattle.std.proofs.lemmas.List.{length_push}
use Rattle.lrpar_table_items.proofs.SuccessorLemmas.{none_more}
use Rattle.lrpar_table_items.proofs.successors.no_kernels.Goals as goal

pub loop-preserved : goal.loop-preserved
loop-preserved g c =
    let so_far = c.loop.invariant in
    let one = length_push c.loop.kernels.items c.new.result in (
      ap (λ xs. length xs) c.in_ok-push.ensures.items ∙ one ∙ ap (λ n. n + 1) so_far.0,
      none_more g.StorageT.StorageIndex.index c.loop.kernels.items c.push.new.self.items c.new.result c.in_ok-push.ensures.items c.new.ensures.items so_far.1,
    )
