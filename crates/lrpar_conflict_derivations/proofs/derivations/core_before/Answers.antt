use Rattle.std.proofs.Common.{◌≡◌, ◌+◌, ◌∙◌, Some, sym, subst, map, slice_get, take}
use Rattle.std.proofs.lemmas.Bool.{false≢true}
use Rattle.std.proofs.lemmas.List.{take_all}
use Rattle.std.specs.List.{Contains}
use Rattle.lrpar_grammar.specs.Grammar.{Terminal, symbols_of}
use Rattle.lrpar_grammar_places.proofs.ListLemmas.{map-take_more}
use Rattle.lrpar_table_rows.specs.PlainItems.{core_of}
use Rattle.lrpar_conflict_derivations.proofs.LinkLemmas.{core_in, core_known, cores_fail}
use Rattle.lrpar_conflict_derivations.proofs.derivations.core_before.Goals as goal

pub has_after_dot-requires : goal.has_after_dot-requires
has_after_dot-requires g c =
    let index = g.StorageT.StorageIndex.index in
    let core = c.core-item.result in
    let listed = core_in index c.cores-core-items.result.now c.loop-core.core-index core c.loop-core-test.true c.core-item.is in
    (core_known c.args.grm.now c.requires.well_formed c.args.graph.now c.requires.canonical (index c.args.state.0) (index core.0.0) core.1 c.requires.state
    ((c.cores-core-items.ensures.all (index core.0.0) core.1).1 listed)).0

pub returns-then-has_after_dot : goal.returns-then-has_after_dot
returns-then-has_after_dot g c =
    let index = g.StorageT.StorageIndex.index in
    let core = c.core-item.result in
    let listed = core_in index c.cores-core-items.result.now c.loop-core.core-index core c.loop-core-test.true c.core-item.is in
    ((c.cores-core-items.ensures.all (index core.0.0) core.1).1 listed, c.has_after_dot.ensures.0 c.if-has_after_dot.true)

pub loop-core-preserved : goal.loop-core-preserved
loop-core-preserved g c =
    let index = g.StorageT.StorageIndex.index in
    let cores = c.cores-core-items.result.now in
    let i = c.loop-core.core-index in
    let core = c.core-item.result in
    let more = map-take_more (core_of index) cores i core c.loop-core-test.true c.core-item.is in
    cores_fail (λ p k. slice_get (symbols_of c.args.grm.now p) k ≡ Some (Terminal (index c.args.token.0))) (map (core_of index) (take i cores))
    (map (core_of index) (take (i + 1) cores)) (index core.0.0) core.1 more c.loop-core.invariant
    (λ at. false≢true (sym c.if-has_after_dot.false ∙ c.has_after_dot.ensures.1 at))

pub returns : goal.returns
returns g c =
    let index = g.StorageT.StorageIndex.index in
    let cores = c.cores-core-items.result.now in
    let all = take_all c.loop-core.core-index cores c.loop-core-test.false in
    λ before.
    let x = before.0 in
    let listed = (c.cores-core-items.ensures.all x.prod x.dot).0 (x.token, before.1) in
    c.loop-core.invariant x.prod x.dot (subst (λ xs. Contains (map (core_of index) xs) (x.prod, x.dot)) (sym all) listed) before.2
