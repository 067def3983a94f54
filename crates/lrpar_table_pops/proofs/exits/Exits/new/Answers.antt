use Rattle.std.proofs.Common.{◌+◌, ◌∙◌, ap, refl, Global, map, Vec, subst, sym}
use Rattle.lrpar_grammar.specs.Grammar.{tokens_len}
use Rattle.lrpar_table_rows.specs.Graph.{Graph}
use Rattle.lrpar_table_rows.specs.PlainItems.{core_of}
use Rattle.lrpar_table_rows.specs.StoredItems.{AreKernelCoresAt}
use Rattle.lrpar_table_pops.specs.Exits.{HasNoExit}
use Rattle.lrpar_table_pops.specs.FoundAll.{AreExitsFor}
use Rattle.lrpar_table_pops.specs.declared.exits.Exit.{Exit}
use Rattle.lrpar_table_pops.proofs.ExitLemmas.{no_exit_more}
use Rattle.lrpar_table_pops.proofs.PlaceLemmas.{all_places, AreExitsSoFar, exits_skip, exits_start, exits_step}
use Rattle.lrpar_table_pops.proofs.GrowthLemmas.{read_at}
use Rattle.lrpar_table_pops.proofs.exits.Exits.new.Goals.{then-dot-gt0+in_ok-tokens+in_ok-push, else-dot-gt0}
use Rattle.lrpar_table_pops.proofs.exits.Exits.new.Goals as goal

pub cores-init : goal.cores-init
cores-init g c =
    subst (AreExitsSoFar (tokens_len c.args.checked.now.grammar) (map (core_of g.StorageT.StorageIndex.index) c.begun_cores-prod-items.result.now) 0) (sym c.new-exits.ensures.items)
    (exits_start (tokens_len c.args.checked.now.grammar) (map (core_of g.StorageT.StorageIndex.index) c.begun_cores-prod-items.result.now))

pub cores-preserved : goal.cores-preserved
cores-preserved g c =
    let index = g.StorageT.StorageIndex.index in
    let n = tokens_len c.args.checked.now.grammar in
    let cores = c.begun_cores-prod-items.result.now in
    let place = c.cores.prod-index in
    let there = read_at cores cores place c.cores-item.result refl c.cores-test.true c.cores-item.is in
    elim c.if-dot-gt0.branch [
      | then-dot-gt0+in_ok-tokens+in_ok-push w ↦
          subst (λ (v : Vec Exit Global). AreExitsSoFar n (map (core_of index) cores) (place + 1) v.items) (sym w.exits-is)
          (subst (AreExitsSoFar n (map (core_of index) cores) (place + 1)) (sym w.in_ok-push.ensures.items)
          (exits_step n c.cores.exits.items _ index cores place c.cores-item.result there w.from-prod.result refl w.from-prod.ensures
          (w.in_ok-tokens.ensures.room ∙ c.tokens_len-len.ensures.len ∙ ap tokens_len c.grm.ensures) w.in_ok-tokens.ensures.none c.cores.invariant))
      | else-dot-gt0 w ↦
          subst (λ (v : Vec Exit Global). AreExitsSoFar n (map (core_of index) cores) (place + 1) v.items) (sym w.exits-is)
          (exits_skip n c.cores.exits.items index cores place c.cores-item.result there w.if-dot-gt0.false c.cores.invariant)
    ]

pub returns-clause-none : goal.returns-clause-none
returns-clause-none g c =
    subst HasNoExit (sym c.in_ok-push-2.ensures.items) (no_exit_more c.cores.exits.items _ c.cores.invariant.none c.in_ok-tokens-2.ensures.none)

pub returns-clause-places : goal.returns-clause-places
returns-clause-places g c =
    let index = g.StorageT.StorageIndex.index in
    let d = c.args.checked.now in
    let cores = c.begun_cores-prod-items.result.now in
    let are = subst (λ (x : Graph). AreKernelCoresAt index x c.args.state cores) c.sgraph.ensures c.begun_cores-prod-items.ensures.all in
    subst (AreExitsFor d.grammar d.graph (index c.args.state.0)) (sym c.in_ok-push-2.ensures.items)
    (all_places c.cores.exits.items _ index d.grammar d.graph c.args.state cores c.cores.prod-index are c.cores-test.false c.cores.invariant.cores c.cores.invariant.room refl
    (c.in_ok-tokens-2.ensures.room ∙ c.tokens_len-len.ensures.len ∙ ap tokens_len c.grm.ensures))
