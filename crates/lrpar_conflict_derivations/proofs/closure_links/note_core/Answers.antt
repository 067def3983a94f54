use Rattle.std.proofs.Common.{◌∙◌, sym}
use Rattle.std.proofs.lemmas.Bool.{false≢true}
use Rattle.lrpar_table_first.specs.FirstRows.{rows_of}
use Rattle.lrpar_conflict_derivations.specs.ClosureLinks.{links_of}
use Rattle.lrpar_conflict_derivations.proofs.LinkLemmas.{core_asked, noted_all, noted_alone, put_both}
use Rattle.lrpar_conflict_derivations.proofs.closure_links.note_core.Goals as goal

pub note-requires-clause-core : goal.note-requires-clause-core
note-requires-clause-core g c =
    let index = g.StorageT.StorageIndex.index in
    core_asked c.args.grm.now (rows_of c.args.firsts.now) c.args.graph.now (index c.args.state.0) (index c.args.token.0) c.requires.asked (index c.args.core.0.0)
    c.args.core.1 c.requires.core.0

pub note-requires-then-has_item-clause-core : goal.note-requires-then-has_item-clause-core
note-requires-then-has_item-clause-core g c =
    let index = g.StorageT.StorageIndex.index in
    core_asked c.args.grm.now (rows_of c.args.firsts.now) c.args.graph.now (index c.args.state.0) (index c.args.token.0) c.requires.asked (index c.args.core.0.0)
    c.args.core.1 c.requires.core.0

pub returns-in_ok-note-2-clause-put : goal.returns-in_ok-note-2-clause-put
returns-in_ok-note-2-clause-put g c =
    let index = g.StorageT.StorageIndex.index in
    put_both c.args.grm.now c.args.graph.now (index c.args.state.0) (index c.args.token.0) (index c.args.core.0.0) c.args.core.1
    (links_of index c.args.found.now.links.items) (links_of index c.note.new.found.links.items) (links_of index c.note-then-has_item.new.found.links.items)
    c.requires.core.0 c.requires.core.1 c.in_ok-note.ensures.put (c.has_item.ensures.found.0 c.if-has_item.true) c.in_ok-note-2.ensures.put

pub returns-in_ok-note-2-clause-noted : goal.returns-in_ok-note-2-clause-noted
returns-in_ok-note-2-clause-noted g c =
    let index = g.StorageT.StorageIndex.index in
    noted_all c.args.grm.now c.args.graph.now (index c.args.state.0) (index c.args.token.0) (index c.args.core.0.0) c.args.core.1
    (links_of index c.args.found.now.links.items) (links_of index c.note.new.found.links.items) (links_of index c.note-then-has_item.new.found.links.items)
    c.requires.core.0 c.requires.core.1 c.in_ok-note.ensures.put c.in_ok-note-2.ensures.put c.in_ok-note.ensures.noted c.in_ok-note-2.ensures.noted

pub returns-else-has_item-clause-noted : goal.returns-else-has_item-clause-noted
returns-else-has_item-clause-noted g c =
    let index = g.StorageT.StorageIndex.index in
    noted_alone c.args.grm.now c.args.graph.now (index c.args.state.0) (index c.args.token.0) (index c.args.core.0.0) c.args.core.1
    (links_of index c.args.found.now.links.items) (links_of index c.note.new.found.links.items) (links_of index c.note.new.found.links.items)
    c.requires.core.0 c.requires.core.1 c.in_ok-note.ensures.put (λ found. false≢true (sym c.if-has_item.false ∙ c.has_item.ensures.found.1 found))
    c.in_ok-note.ensures.noted
