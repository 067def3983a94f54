use Rattle.std.proofs.Common.{◌+◌, ◌∙◌, ℕ, inl, sym, subst, arith, map, take}
use Rattle.std.proofs.lemmas.Bool.{false≢true}
use Rattle.std.proofs.lemmas.List.{take_all}
use Rattle.std.specs.List.{Contains}
use Rattle.lrpar_grammar.specs.Grammar.{start_prod}
use Rattle.lrpar_grammar_places.proofs.ListLemmas.{map-take_more}
use Rattle.lrpar_table_rows.specs.Graph.{HasItem}
use Rattle.lrpar_table_rows.specs.PlainItems.{core_of}
use Rattle.lrpar_table_items.specs.Canonical.{sets_of}
use Rattle.lrpar_conflict_derivations.specs.ClosureLinks.{IsKernelLink, IsNotedCore, links_of}
use Rattle.lrpar_conflict_derivations.proofs.LinkLemmas.{IsKernelNoted, begun_noted, core_in, cores_more, noted_kept}
use Rattle.lrpar_conflict_derivations.proofs.MarkLemmas.{put_none, put_then}
use Rattle.lrpar_conflict_derivations.proofs.closure_links.note_kernel.Goals.{else-has_core, then-has_core+in_ok-note_core}
use Rattle.lrpar_conflict_derivations.proofs.closure_links.note_kernel.Goals as goal

pub loop-core-init : goal.loop-core-init
loop-core-init g c =
    let index = g.StorageT.StorageIndex.index in
    let grm = c.args.grm.now in
    let set = sets_of c.args.graph.now (index c.args.state.0) in
    let token = index c.args.token.0 in
    let first = links_of index c.args.found.now.links.items in
    let number = c.start_prod-start.ensures.number in
    let noted : IsKernelNoted index grm c.args.graph.now c.args.state c.args.token c.args.found.now c.if-has_core.found =
    elim c.if-has_core.branch [
      | then-has_core+in_ok-note_core w ↦
          subst (λ found. IsKernelNoted index grm c.args.graph.now c.args.state c.args.token c.args.found.now found) (sym w.found-is) (
            w.in_ok-note_core.ensures.marks,
            w.in_ok-note_core.ensures.put,
            subst (λ (p : ℕ). IsNotedCore grm set token (links_of index w.note_core.new.found.links.items) p 0) number w.in_ok-note_core.ensures.noted,
          )
      | else-has_core w ↦
          subst (λ found. IsKernelNoted index grm c.args.graph.now c.args.state c.args.token c.args.found.now found) (sym w.found-is) (
            c.requires.marks,
            put_none (IsKernelLink grm set token) first,
            λ asked item. absurd (false≢true (sym w.if-has_core.false ∙ c.has_core.ensures.found.1
                (item.lookahead, subst (λ (p : ℕ). HasItem c.args.graph.now (index c.args.state.0) p 0 item.lookahead) (sym number) item.item))),
          )
    ] in
    (noted.0, noted.1, noted.2, λ q j has_one. absurd (let low = has_one.1 in omega arith))

pub note_core-requires-in-loop-core-clause-core : goal.note_core-requires-in-loop-core-clause-core
note_core-requires-in-loop-core-clause-core g c =
    let index = g.StorageT.StorageIndex.index in
    let core = c.core-item.result in
    let begun = (c.begun_cores-core-items.ensures.all (index core.0.0) core.1).1
    (core_in index c.begun_cores-core-items.result.now c.loop-core.core-index core c.loop-core-test.true c.core-item.is) in
    (begun.0, inl begun.1)

pub loop-core-preserved : goal.loop-core-preserved
loop-core-preserved g c =
    let index = g.StorageT.StorageIndex.index in
    let grm = c.args.grm.now in
    let set = sets_of c.args.graph.now (index c.args.state.0) in
    let token = index c.args.token.0 in
    let cores = c.begun_cores-core-items.result.now in
    let i = c.loop-core.core-index in
    let core = c.core-item.result in
    let Good = IsKernelLink grm set token in
    let first = links_of index c.args.found.now.links.items in
    let old = links_of index c.loop-core.found.links.items in
    let new = links_of index c.note_core-in-loop-core.new.found.links.items in
    let put = c.in_ok-note_core-2.ensures.put in
    let more = map-take_more (core_of index) cores i core c.loop-core-test.true c.core-item.is in (
      c.in_ok-note_core-2.ensures.marks,
      put_then Good first old new c.loop-core.invariant.1 put,
      noted_kept grm set token Good old new put (start_prod grm) 0 c.loop-core.invariant.2,
      cores_more grm set token Good old new put (map (core_of index) (take i cores)) (map (core_of index) (take (i + 1) cores)) (index core.0.0) core.1 more
          c.loop-core.invariant.3 c.in_ok-note_core-2.ensures.noted,
    )

pub returns-clause-noted : goal.returns-clause-noted
returns-clause-noted g c =
    let index = g.StorageT.StorageIndex.index in
    let grm = c.args.grm.now in
    let s = index c.args.state.0 in
    let token = index c.args.token.0 in
    let cores = c.begun_cores-core-items.result.now in
    let links = links_of index c.loop-core.found.links.items in
    let all = take_all c.loop-core.core-index cores c.loop-core-test.false in
    begun_noted grm c.args.graph.now s token links (map (core_of index) cores) c.begun_cores-core-items.ensures.all c.loop-core.invariant.2
    (λ q j has_one.
    c.loop-core.invariant.3 q j
    (subst (λ xs. Contains (map (core_of index) xs) (q, j)) (sym all) has_one))
