use Rattle.std.proofs.Common.{◌≤◌, arith, length, map}
use Rattle.std.proofs.lemmas.List.{length-map}
use Rattle.lrpar_parse_cpctplus.proofs.AvoidLemmas.{avoided_all, avoided_more, avoided_none}
use Rattle.lrpar_parse_cpctplus.proofs.NumberLemmas.{mapped_at}
use Rattle.lrpar_parse_cpctplus.proofs.cpct_plus.avoided_by.Goals as goal

pub loop-token-init : goal.loop-token-init
loop-token-init g c = avoided_none (map (λ t. g.StorageT.StorageIndex.index t.0) c.args.tokens.now) c.new-avoided.result.items c.new-avoided.ensures.items

pub loop-token-preserved : goal.loop-token-preserved
loop-token-preserved g c =
    let index = g.StorageT.StorageIndex.index in
    let l = c.loop-token in
    let tokens = map (λ t. index t.0) c.args.tokens.now in
    let here = mapped_at (λ t. index t.0) c.args.tokens.now l.token-index c.token-item.result c.loop-token-test.true c.token-item.is in
    avoided_more tokens l.avoided.items c.set.new.list.items l.token-index (index c.token-item.result.0) here.0 here.1 l.invariant
    (rw c.from.ensures at c.in_ok-set.ensures)

pub returns : goal.returns
returns g c =
    let l = c.loop-token in
    let tokens = map (λ t. g.StorageT.StorageIndex.index t.0) c.args.tokens.now in
    let past : length tokens ≤ l.token-index = omega (arith, length-map c.args.tokens.now (λ t. g.StorageT.StorageIndex.index t.0), c.loop-token-test.false) in
    avoided_all tokens l.avoided.items l.token-index past l.invariant
