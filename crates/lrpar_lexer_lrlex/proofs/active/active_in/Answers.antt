use Rattle.std.proofs.Common.{◌∙◌}
use Rattle.lrpar_lexer_lrlex.proofs.ActiveLemmas.{active_step}
use Rattle.lrpar_lexer_lrlex.proofs.active.active_in.Goals as goal

pub starts-preserved : goal.starts-preserved
starts-preserved c =
    active_step c.starts.index _ c.args.state c.args.starts.now c.starts.active.items c.push_active.new.active.items c.index-starts-index.result
    c.is_active.result c.starts-test.true c.index-starts-index.is c.is_active.ensures c.in_ok-push_active.ensures
    ∙ c.starts.invariant
