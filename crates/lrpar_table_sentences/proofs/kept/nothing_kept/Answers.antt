use Rattle.std.proofs.Common.{◌∙◌, ap, [], ◌∷◌, ◌++◌, None}
use Rattle.std.proofs.lemmas.List.{replicate_more}
use Rattle.lrpar_table_sentences.proofs.kept.nothing_kept.Goals as goal

pub loop-preserved : goal.loop-preserved
loop-preserved g c = c.in_ok-push.ensures.items ∙ ap (λ xs. xs ++ None ∷ []) c.loop.invariant ∙ replicate_more c.loop.counter None
