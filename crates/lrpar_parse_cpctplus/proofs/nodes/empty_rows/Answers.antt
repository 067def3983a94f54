use Rattle.std.proofs.Common.{◌≡◌, [], Vec, arith}
use Rattle.std.specs.declared.alloc.Global.{Global}
use Rattle.std.proofs.lemmas.List.{length_push}
use Rattle.std.proofs.lemmas.List.Elements.{All-push}
use Rattle.lrpar_parse_cpctplus.proofs.NodeLemmas.{rows_empty}
use Rattle.lrpar_parse_cpctplus.proofs.nodes.empty_rows.Goals as goal

pub loop-init : goal.loop-init
loop-init g c = rw c.new-rows.ensures.items (record { len = omega arith; empty = λ k d within. absurd (omega (arith, within)) })

pub loop-preserved : goal.loop-preserved
loop-preserved g c =
    rw c.in_ok-push.ensures.items
    (record {
      len = omega (arith, length_push c.loop.rows.items c.new.result, c.loop.invariant.len);
      empty = All-push (λ (row : Vec g.row.T.Denot Global). row.items ≡ []) c.loop.rows.items c.new.result c.loop.invariant.empty c.new.ensures.items;
    })

pub returns : goal.returns
returns g c =
    let all : c.loop.counter ≡ c.args.end = omega arith in
    rw c.in_ok-push-2.ensures.items
    (rows_empty c.args.end _ (omega (arith, length_push c.loop.rows.items c.new-2.result, c.loop.invariant.len, all))
    (All-push (λ (row : Vec g.row.T.Denot Global). row.items ≡ []) c.loop.rows.items c.new-2.result c.loop.invariant.empty c.new-2.ensures.items))
