use Rattle.std.proofs.Common.{rules}
use Rattle.std.proofs.lemmas.List.Sorted.{answers_always}
use Rattle.lrpar_parse_cpctplus.specs.LinkView.{comes_before}
use Rattle.lrpar_parse_cpctplus.proofs.NodeLemmas.{steps_order}
use Rattle.lrpar_parse_cpctplus.proofs.nodes.by_steps.Goals as goal

pub returns : goal.returns
returns g c =
    let index = g.StorageT.StorageIndex.index in
    record {
      same = c.in_ok-sort_by.ensures.permutation;
      rising = c.in_ok-sort_by.ensures.sorted (comes_before index) (steps_order index) (answers_always _ _ _ (λ f a r f' called. search rules));
      stable = c.sort_by.ensures.stable (comes_before index) (steps_order index) (answers_always _ _ _ (λ f a r f' called. search rules));
    }
