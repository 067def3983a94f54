use Rattle.std.proofs.Common.{◌∙◌}
use Rattle.std.proofs.lemmas.Result.{MatchResult-weaker}
use Rattle.lrpar_parse_repair.proofs.SequenceLemmas.{sequences_clone}
use Rattle.lrpar_parse_repair.proofs.repair.FixedRecovererRecoverer.recover.Goals as goal

pub returns : goal.returns
returns g c = record {
  allowed = MatchResult-weaker c.clone.result c.clone.ensures.cases
      (λ w h. sequences_clone g.StorageT.StorageIndex.index c.self.inside.sequences.items w.items h.0 ∙ c.self.view_is) (λ _ _. tt);
}
