use Rattle.std.proofs.Common.{◌^◌, ◌-◌, ◌∙◌, sym, arith}
use Rattle.std.proofs.lemmas.List.{length-map}
use Rattle.lrpar_table_sentences.specs.AccessLens.{edge_of, edges_of}
use Rattle.lrpar_table_sentences.specs.AccessStrings.{accesses_of}
use Rattle.lrpar_table_sentences.proofs.FixLemmas.{least_more}
use Rattle.lrpar_table_sentences.proofs.AccessLemmas.{open_at, open_here, steps_least}
use Rattle.lrpar_table_sentences.proofs.minimal_accesses.least_open.Goals as goal

pub loop-edge-preserved : goal.loop-edge-preserved
loop-edge-preserved g c =
    let index = g.StorageT.StorageIndex.index in
    let accesses = accesses_of index c.args.accesses.now in
    least_more (open_at (2 ^ 64 - 1) accesses (edges_of index c.args.edges.now)) c.loop-edge.edge-index c.loop-edge.least c.open_len.result c.lesser-least.result c.loop-edge.invariant
    (open_here index (2 ^ 64 - 1) accesses c.args.edges.now c.loop-edge.edge-index c.edge-item.result c.loop-edge-test.true c.edge-item.is ∙ sym c.open_len.ensures) c.lesser-least.ensures

pub returns : goal.returns
returns g c =
    let index = g.StorageT.StorageIndex.index in
    steps_least (2 ^ 64 - 1) (accesses_of index c.args.accesses.now) (edges_of index c.args.edges.now) c.loop-edge.edge-index c.loop-edge.least
    (let long = length-map c.args.edges.now (edge_of index) in omega (arith, long, c.loop-edge-test.false, c.loop-edge.auto.edge-index-end)) c.loop-edge.invariant
