use Rattle.std.proofs.Common.{length, map}
use Rattle.lrpar_grammar.specs.Grammar.{rules_len, tokens_len}
use Rattle.lrpar_grammar.specs.Symbols.{symbol_of}
use Rattle.lrpar_table_first.specs.FirstRows.{rows_of}
use Rattle.lrpar_table_first.proofs.GrowthLemmas.{sets_len}
use Rattle.lrpar_conflict_derivations.specs.ClosureLinks.{links_of}
use Rattle.lrpar_conflict_derivations.proofs.MarkLemmas.{HasLink-kept}
use Rattle.lrpar_conflict_derivations.proofs.NoteLemmas.{below_by, noted_any, noted_asked, noted_both, noted_stopped, put_any, put_both, put_through}
use Rattle.lrpar_conflict_derivations.proofs.closure_links.note.Goals as goal

pub returns-in_ok-add-clause-put : goal.returns-in_ok-add-clause-put
returns-in_ok-add-clause-put g c =
    let index = g.StorageT.StorageIndex.index in
    put_through c.args.grm.now c.requires.well_formed (rows_of c.args.firsts.now) c.requires.firsts (index c.args.token.0) (index c.args.core.0.0) c.args.core.1
    (index c.in-Some.rule.0) (map (symbol_of index) c.in-Some.rest.now) c.in-Some.ensures.rule c.in-Some.ensures.rest c.args.further c.args.above c.if-further.true
    c.tokens_len-dummy.result c.can_begin.result c.tokens_len-dummy.ensures.len c.can_begin.ensures c.if-can_begin.true _ _ c.in_ok-add.ensures.put

pub returns-in_ok-add-clause-noted : goal.returns-in_ok-add-clause-noted
returns-in_ok-add-clause-noted g c =
    let index = g.StorageT.StorageIndex.index in
    noted_asked c.args.grm.now c.requires.well_formed (rows_of c.args.firsts.now) c.requires.firsts (index c.args.token.0) (index c.args.core.0.0) c.args.core.1
    (index c.in-Some.rule.0) (map (symbol_of index) c.in-Some.rest.now) c.in-Some.ensures.rule c.in-Some.ensures.rest _ c.args.further c.if-further.true
    c.in_ok-add.ensures.linked

pub returns-else-can_begin-clause-noted : goal.returns-else-can_begin-clause-noted
returns-else-can_begin-clause-noted g c =
    let index = g.StorageT.StorageIndex.index in
    noted_stopped c.args.grm.now c.requires.well_formed (rows_of c.args.firsts.now) c.requires.firsts (index c.args.token.0) (index c.args.core.0.0) c.args.core.1
    (index c.in-Some.rule.0) (map (symbol_of index) c.in-Some.rest.now) c.in-Some.ensures.rule c.in-Some.ensures.rest
    (links_of index c.args.found.now.links.items) c.tokens_len-dummy.result c.can_begin.result c.args.further c.if-further.true c.tokens_len-dummy.ensures.len
    c.can_begin.ensures c.if-can_begin.false

pub can_begin-requires-2 : goal.can_begin-requires-2
can_begin-requires-2 g c =
    let grm = c.args.grm.now in
    below_by (rules_len grm) (tokens_len grm) (length c.args.firsts.now) c.tokens_len-dummy.result
    (map (symbol_of g.StorageT.StorageIndex.index) c.in-Some.rest.now) (sets_len grm c.args.firsts.now c.requires.firsts.room) c.tokens_len-dummy.ensures.len c.in-Some.ensures.rest

pub returns-in_ok-add-3-clause-put : goal.returns-in_ok-add-3-clause-put
returns-in_ok-add-3-clause-put g c =
    let index = g.StorageT.StorageIndex.index in
    put_both c.args.grm.now c.requires.well_formed (rows_of c.args.firsts.now) c.requires.firsts (index c.args.token.0) (index c.args.core.0.0) c.args.core.1
    (index c.in-Some.rule.0) (map (symbol_of index) c.in-Some.rest.now) c.in-Some.ensures.rule c.in-Some.ensures.rest c.args.further c.args.above c.if-further.false
    c.from.result c.tokens_len-dummy.result c.can_begin-2.result c.from.ensures c.tokens_len-dummy.ensures.len c.can_begin-2.ensures c.if-can_begin-2.true _ _ _
    c.in_ok-add-2.ensures.put c.in_ok-add-3.ensures.put

pub returns-in_ok-add-3-clause-noted : goal.returns-in_ok-add-3-clause-noted
returns-in_ok-add-3-clause-noted g c =
    let index = g.StorageT.StorageIndex.index in
    let any_one = HasLink-kept _ _ _ c.in_ok-add-3.ensures.put c.args.further (index c.in-Some.rule.0) c.in_ok-add-2.ensures.linked in
    noted_both c.args.grm.now c.requires.well_formed (rows_of c.args.firsts.now) c.requires.firsts (index c.args.token.0) (index c.args.core.0.0) c.args.core.1
    (index c.in-Some.rule.0) (map (symbol_of index) c.in-Some.rest.now) c.in-Some.ensures.rule c.in-Some.ensures.rest _ c.args.further c.if-further.false any_one
    c.in_ok-add-3.ensures.linked

pub returns-else-can_begin-2-clause-put : goal.returns-else-can_begin-2-clause-put
returns-else-can_begin-2-clause-put g c =
    let index = g.StorageT.StorageIndex.index in
    put_any c.args.grm.now c.requires.well_formed (rows_of c.args.firsts.now) c.requires.firsts (index c.args.token.0) (index c.args.core.0.0) c.args.core.1
    (index c.in-Some.rule.0) (map (symbol_of index) c.in-Some.rest.now) c.in-Some.ensures.rule c.in-Some.ensures.rest c.args.further c.args.above c.if-further.false
    _ _ c.in_ok-add-2.ensures.put

pub returns-else-can_begin-2-clause-noted : goal.returns-else-can_begin-2-clause-noted
returns-else-can_begin-2-clause-noted g c =
    let index = g.StorageT.StorageIndex.index in
    noted_any c.args.grm.now c.requires.well_formed (rows_of c.args.firsts.now) c.requires.firsts (index c.args.token.0) (index c.args.core.0.0) c.args.core.1
    (index c.in-Some.rule.0) (map (symbol_of index) c.in-Some.rest.now) c.in-Some.ensures.rule c.in-Some.ensures.rest
    (links_of index c.add-2.new.found.links.items) c.from.result c.tokens_len-dummy.result c.can_begin-2.result c.args.further c.if-further.false c.from.ensures
    c.tokens_len-dummy.ensures.len c.can_begin-2.ensures c.if-can_begin-2.false c.in_ok-add-2.ensures.linked
