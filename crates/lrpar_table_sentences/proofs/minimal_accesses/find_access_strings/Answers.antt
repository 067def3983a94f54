use Rattle.std.proofs.Common.{◌^◌, ◌-◌, subst, sym}
use Rattle.lrpar_table_sentences.specs.AccessLens.{AreEdges, AreRightAccesses, NoStepIsOpen, edges_of}
use Rattle.lrpar_table_sentences.specs.AccessStrings.{AreAccessStrings, accesses_of}
use Rattle.lrpar_table_sentences.proofs.ArrivalLemmas.{are_accesses}
use Rattle.lrpar_table_sentences.proofs.FrameLemmas.{ok_both}
use Rattle.lrpar_table_sentences.proofs.minimal_accesses.find_access_strings.Goals as goal

pub returns : goal.returns
returns g c =
    let index = g.StorageT.StorageIndex.index in
    let grm = c.args.grm.now in
    let graph = c.args.sgraph.now in
    let table = c.args.stable.now in
    let choices = c.args.shortest.now in
    let edges = edges_of index c.deref.result.now in
    let are = subst (λ es. AreEdges table choices (edges_of index es)) (sym c.deref.ensures.value) c.in_ok-edges.ensures in
    ok_both c.find_accesses_by_edges.result (λ accesses. AreRightAccesses table (2 ^ 64 - 1) choices (accesses_of index accesses.items))
    (λ accesses. NoStepIsOpen (2 ^ 64 - 1) (accesses_of index accesses.items) edges) (λ accesses. AreAccessStrings grm graph table (2 ^ 64 - 1) (accesses_of index accesses.items))
    (λ accesses right done.
    are_accesses grm graph table c.start_prod-lemma.ensures.well_formed c.requires.built c.states_len-lemma.ensures.closed (2 ^ 64 - 1) choices c.requires.shortest edges are
    (accesses_of index accesses.items) right done)
    c.find_accesses_by_edges.ensures.right c.find_accesses_by_edges.ensures.done
