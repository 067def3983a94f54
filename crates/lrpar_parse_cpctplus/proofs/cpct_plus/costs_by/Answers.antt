use Rattle.std.proofs.Common.{◌≡◌, arith}
use Rattle.lrpar_parse_cpctplus.specs.Said.{said_by}
use Rattle.lrpar_parse_cpctplus.proofs.SaidLemmas.{said_all, said_more, said_none}
use Rattle.lrpar_parse_cpctplus.proofs.cpct_plus.costs_by.Goals as goal

pub loop-number-init : goal.loop-number-init
loop-number-init g c =
    said_none (said_by g.StorageT.StorageIndex.index (λ token cost. g.F.Fn.post c.args.cost.now (token, tt) cost)) c.in_ok-costs.costs.items c.in_ok-costs.ensures.items

pub loop-number-preserved : goal.loop-number-preserved
loop-number-preserved g c =
    let says = said_by g.StorageT.StorageIndex.index (λ token cost. g.F.Fn.post c.args.cost.now (token, tt) cost) in
    let number : g.StorageT.StorageIndex.index c.unwrap.result ≡ c.loop-number.number = rw c.unwrap.ensures at c.from_index.ensures.back in
    said_more says c.loop-number.number c.loop-number.costs.items c.push.new.self.items c.cost.result c.loop-number.invariant c.in_ok-push.ensures.items
    (_, number, c.cost.ensures)

pub returns : goal.returns
returns g c =
    let says = said_by g.StorageT.StorageIndex.index (λ token cost. g.F.Fn.post c.args.cost.now (token, tt) cost) in
    record {
      said = said_all says c.loop-number.number _ c.loop-number.costs.items c.loop-number.invariant
          (omega (arith, c.loop-number-test.false, c.loop-number.auto.number-end, c.tokens_len-number-end.ensures.len));
    }
