use Rattle.std.proofs.lemmas.Result.{on_ok_weaker}
use Rattle.lrpar_table_check.proofs.SentenceLemmas.{checked_takes}
use Rattle.lrpar_table_check.proofs.check.ParserData.check_complete.Goals as goal

pub returns-clause-takes : goal.returns-clause-takes
returns-clause-takes g c =
    on_ok_weaker _ (λ complete. checked_takes (λ x. x.token) c.args.self.now c.grm.result.now c.sgraph.result.now c.stable.result.now c.stable.ensures.checked
    c.grm.ensures c.sgraph.ensures c.stable.ensures.table complete) c.check_complete.ensures.complete
