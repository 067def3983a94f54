use Rattle.std.proofs.Common.{◌^◌, ◌-◌, ◌∙◌, sym, ap, arith}
use Rattle.lrpar_table_sentences.proofs.AccessLemmas.{accesses_end, accesses_fix, accesses_stay}
use Rattle.lrpar_table_sentences.proofs.minimal_accesses.keep_least.Goals as goal
use Rattle.lrpar_table_sentences.proofs.minimal_accesses.keep_least.Goals.{then-eq, else-eq}

pub loop-edge-preserved : goal.loop-edge-preserved
loop-edge-preserved g c =
    let index = g.StorageT.StorageIndex.index in
    elim c.if-eq.branch [
      | then-eq w ↦
          let bound = c.requires c.loop-edge.edge-index c.edge-item.result c.loop-edge-test.true in
          let same = ap (λ e. index e.next.0) c.edge-item.is in
          let kept = c.loop-edge.auto.accesses in
          accesses_fix index (2 ^ 64 - 1) c.args.len c.args.edges.now c.args.accesses.now c.loop-edge.accesses c.if-eq.accesses c.loop-edge.edge-index c.loop-edge.invariant
          c.edge-item.result c.open_len.result c.loop-edge-test.true c.edge-item.is c.open_len.ensures w.from.result (sym c.eq.ensures ∙ w.if-eq.true) w.from.ensures
          (omega (arith, bound, same, kept, w.from.ensures)) (w.accesses-is ∙ w.keep.ensures)
      | else-eq w ↦
          accesses_stay index (2 ^ 64 - 1) c.args.len c.args.edges.now c.args.accesses.now c.loop-edge.accesses c.if-eq.accesses c.loop-edge.edge-index c.loop-edge.invariant
          c.edge-item.result c.open_len.result c.loop-edge-test.true c.edge-item.is c.open_len.ensures (sym c.eq.ensures ∙ w.if-eq.false) w.accesses-is
    ]

pub keep-requires : goal.keep-requires
keep-requires g c =
    let index = g.StorageT.StorageIndex.index in
    let bound = c.requires c.loop-edge.edge-index c.edge-item.result c.loop-edge-test.true in
    let same = ap (λ e. index e.next.0) c.edge-item.is in
    let kept = c.loop-edge.auto.accesses in
    omega (arith, bound, same, kept, c.from.ensures)

pub returns-clause-right : goal.returns-clause-right
returns-clause-right g c = λ table choices are right below. (c.loop-edge.invariant.0 table choices are right below).0

pub returns-clause-fewer : goal.returns-clause-fewer
returns-clause-fewer g c =
    accesses_end g.StorageT.StorageIndex.index (2 ^ 64 - 1) c.args.len c.args.edges.now c.args.accesses.now c.loop-edge.accesses c.loop-edge.edge-index c.loop-edge-test.false c.loop-edge.invariant
