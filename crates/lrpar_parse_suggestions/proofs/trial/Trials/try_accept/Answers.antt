use Rattle.std.proofs.Common.{◌≡◌}
use Rattle.lrpar_grammar.specs.Grammar.{end_token}
use Rattle.lrpar_parse_suggestions.proofs.StackLemmas.{settled_extends, tells_accepts}
use Rattle.lrpar_parse_suggestions.proofs.trial.Trials.try_accept.Goals as goal

pub returns-clause-accepts : goal.returns-clause-accepts
returns-clause-accepts g c =
    let index = g.StorageT.StorageIndex.index in
    let d = c.args.self.now.data.now in
    let t = index c.eof_token_idx-end.result.0 in
    let end : t ≡ end_token d.grammar = rw c.grm.ensures at c.eof_token_idx-end.ensures in
    tells_accepts d.grammar d.table d.cap t index c.args.stacks.now _ c.settle_on.new.stack _ c.is_accept.result
    c.in_ok-settled.ensures.settled end c.in_ok-settled.ensures.action c.is_accept.ensures

pub returns-clause-extends : goal.returns-clause-extends
returns-clause-extends g c =
    let d = c.args.self.now.data.now in
    settled_extends d.grammar d.table d.cap (g.StorageT.StorageIndex.index c.eof_token_idx-end.result.0) c.args.stacks.now _ c.settle_on.new.stack
    c.in_ok-settled.ensures.settled
