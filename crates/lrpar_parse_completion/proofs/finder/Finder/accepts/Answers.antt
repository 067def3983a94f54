use Rattle.std.proofs.Common.{◌≡◌, ◌↔◌, List, subst}
use Rattle.std.specs.Prelude.{IsTrue}
use Rattle.lrpar_grammar.specs.Grammar.{end_token}
use Rattle.lrpar_table_stacks.specs.Expected.{AcceptsAtEnd}
use Rattle.lrpar_table_stacks.specs.Stack.{states_of}
use Rattle.lrpar_parse_repair.proofs.EngineLemmas.{stack_accepts}
use Rattle.lrpar_parse_completion.proofs.finder.Finder.accepts.Goals as goal

pub returns : goal.returns
returns g c =
    let index = g.StorageT.StorageIndex.index in
    let d = c.args.self.now.checked.now in
    let t = index c.eof_token_idx-end.result.0 in
    let end : t ≡ end_token d.grammar = rw c.grm.ensures at c.eof_token_idx-end.ensures in
    let says =
    stack_accepts _ _ (λ old new. Unit {0}) d.grammar d.table d.cap t index c.in_ok-copy.copy _ c.settle_on.new.stack _ c.is_accept.result
    c.in_ok-settled.ensures.settled end c.in_ok-settled.ensures.action c.is_accept.ensures in
    subst (λ (l : List _). IsTrue c.is_accept.result ↔ AcceptsAtEnd d.grammar d.table (states_of index l)) c.in_ok-copy.ensures.items says
