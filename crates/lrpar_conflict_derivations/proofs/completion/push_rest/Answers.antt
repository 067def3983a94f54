use Rattle.std.proofs.Common.{◌≡◌, ◌+◌, ◌⊎◌, inl, inr, true, false}
use Rattle.std.proofs.lemmas.Result.{on_ok_weaker}
use Rattle.lrpar_grammar.specs.Grammar.{symbols_of}
use Rattle.lrpar_grammar.specs.Symbols.{symbol_of}
use Rattle.lrpar_table_sentences.specs.Moves.{moves_in}
use Rattle.lrpar_conflict_derivations.specs.ClosureLinks.{link_of}
use Rattle.lrpar_conflict_derivations.proofs.RestLemmas.{rest_any, rest_begin, rest_of, some_begin, some_trees}
use Rattle.lrpar_conflict_derivations.proofs.completion.push_rest.Goals.{else-link-via-then-link+else-not-link, else-link-via-else-link}
use Rattle.lrpar_conflict_derivations.proofs.completion.push_rest.Goals as goal

pub push_moves_from-requires-clause-some : goal.push_moves_from-requires-clause-some
push_moves_from-requires-clause-some g c =
    let index = g.StorageT.StorageIndex.index in
    let grm = c.args.grm.now in
    let link = c.args.link in
    let out = moves_in index c.args.out.now.items in
    some_begin grm c.requires.well_formed c.requires.each (index c.args.token.0) c.requires.token (link_of index link) c.requires.step c.requires.reached out out
    c.if-link.true c.if-not-link.true _
    (rest_of (symbol_of index) (link.dot + 1) c.prod.result.now (symbols_of grm (index link.prod.0)) c.prod.ensures)

pub returns-then-not-link : goal.returns-then-not-link
returns-then-not-link g c =
    let index = g.StorageT.StorageIndex.index in
    let grm = c.args.grm.now in
    let link = c.args.link in
    let out = moves_in index c.args.out.now.items in
    let new = moves_in index c.push_moves_from.new.out.items in
    on_ok_weaker c.push_moves_from.result
    (λ pushed.
    rest_begin grm c.requires.well_formed c.requires.each (index c.args.token.0) c.requires.token (link_of index link) c.requires.step c.requires.reached out new
    c.if-link.true _
    (rest_of (symbol_of index) (link.dot + 1) c.prod.result.now (symbols_of grm (index link.prod.0)) c.prod.ensures)
    pushed.0 pushed.1 pushed.2)
    c.push_moves_from.ensures

pub push_all_moves-requires-clause-some : goal.push_all_moves-requires-clause-some
push_all_moves-requires-clause-some g c =
    let index = g.StorageT.StorageIndex.index in
    let grm = c.args.grm.now in
    let link = c.args.link in
    let out = moves_in index c.args.out.now.items in
    some_trees grm c.requires.well_formed c.requires.each (index c.args.token.0) c.requires.token (link_of index link) c.requires.step c.requires.reached out out
    _ (rest_of (symbol_of index) (link.dot + 1) c.prod.result.now (symbols_of grm (index link.prod.0)) c.prod.ensures)

pub returns : goal.returns
returns g c =
    let index = g.StorageT.StorageIndex.index in
    let grm = c.args.grm.now in
    let link = c.args.link in
    let out = moves_in index c.args.out.now.items in
    let new = moves_in index c.push_all_moves.new.out.items in
    let either : (link.asked ≡ false) ⊎ (link.further ≡ true) = elim c.else-link.branch [
      | else-link-via-then-link+else-not-link w ↦ inr w.if-not-link.false
      | else-link-via-else-link w ↦ inl w.if-link.false
    ] in
    on_ok_weaker c.push_all_moves.result
    (λ pushed.
    rest_any grm c.requires.well_formed c.requires.each (index c.args.token.0) c.requires.token (link_of index link) c.requires.step c.requires.reached out new
    either _
    (rest_of (symbol_of index) (link.dot + 1) c.prod.result.now (symbols_of grm (index link.prod.0)) c.prod.ensures)
    pushed.0 pushed.1 pushed.2)
    c.push_all_moves.ensures
