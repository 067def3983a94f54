use Rattle.std.proofs.lemmas.Result.{IfOk-weaker}
use Rattle.lrpar_parse_suggestions.proofs.StackLemmas.{fed_extends, on_ok, token_fed}
use Rattle.lrpar_parse_suggestions.proofs.trial.Trials.feed.Goals as goal

pub returns-clause-fed : goal.returns-clause-fed
returns-clause-fed g c =
    let trials = c.args.self.now in
    IfOk-weaker c.feed_on.result _ _
    (λ fed h. token_fed trials trials.data.now.cap (g.StorageT.StorageIndex.index c.args.token.0) c.args.stacks.now fed c.feed_on.new.stack h)
    c.feed_on.ensures.fed

pub returns-clause-extends : goal.returns-clause-extends
returns-clause-extends g c =
    let d = c.args.self.now.data.now in
    on_ok c.feed_on.result
    (λ fed h. fed_extends d.grammar d.table d.cap (g.StorageT.StorageIndex.index c.args.token.0) c.args.stacks.now fed c.feed_on.new.stack h)
    c.feed_on.ensures.fed
