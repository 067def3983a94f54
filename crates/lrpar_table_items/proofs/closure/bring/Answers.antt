use Rattle.std.proofs.Common.{◌≡◌, ◌+◌, arith, [], ◌↔◌, ℕ, inl, sym, subst, length, map, take}
use Rattle.std.proofs.lemmas.List.{take_all, with_items_is}
use Rattle.lrpar_grammar_places.proofs.ListLemmas.{All-map-at, map-take_more}
use Rattle.lrpar_table_first.specs.FirstRows.{HaveRoom, rows_of}
use Rattle.lrpar_table_items.specs.Brought.{HasIn, IsSpreadOf}
use Rattle.lrpar_table_items.specs.Cores.{AreBringing, IsCoreOf, core_set}
use Rattle.lrpar_table_items.specs.Working.{brought_rows}
use Rattle.lrpar_table_items.proofs.BringLemmas.{brought_by_cores, brought_more, cleared_room, none_brought}
use Rattle.lrpar_table_items.proofs.RestLemmas.{nothing_spread, rest_still}
use Rattle.lrpar_table_items.proofs.closure.bring.Goals as goal

pub loop-core-init : goal.loop-core-init
loop-core-init g c =
    let grm = c.args.grm.now in
    let sets = c.args.sets.now in
    let new = c.clear_all.new.sets in
    let none = c.clear_all.ensures.none in
    let len : length new ≡ sets.brought.len = omega (arith, c.clear_all.auto.sets, c.deref_mut.ensures.len, sets.brought.ok.0) in
    let back = sym (with_items_is sets.brought new len) in
    let lens = subst (λ xs. map (λ row. length row) (rows_of new) ≡ map (λ row. length row) (rows_of xs)) c.deref_mut.ensures.value c.clear_all.ensures.room in
    let room = cleared_room grm (rows_of sets.brought.items) (rows_of new) c.requires.sets.room lens in (
      record {
        firsts = c.requires.sets.firsts;
        room = subst (λ xs. HaveRoom grm (rows_of xs)) back room;
        waits = c.requires.sets.waits;
        front = c.requires.sets.front;
        fresh = c.requires.sets.fresh;
      },
      λ n rests. subst (λ xs. IsSpreadOf grm (rows_of xs) n) back (nothing_spread grm (rows_of new) none n),
      λ r t. subst (λ xs. HasIn (rows_of xs) r t ↔ AreBringing grm [] r t) back (none_brought grm (rows_of new) none r t),
    )

pub bring_one-requires-clause-core : goal.bring_one-requires-clause-core
bring_one-requires-clause-core g c =
    let index = g.StorageT.StorageIndex.index in
    subst (λ core. IsCoreOf c.args.grm.now (core_set index core)) (sym c.core-item.is)
    (All-map-at (IsCoreOf c.args.grm.now) (core_set index) c.args.cores.now c.requires.cores c.loop-core.core-index c.core-item.result c.loop-core-test.true)

pub loop-core-preserved : goal.loop-core-preserved
loop-core-preserved g c =
    let index = g.StorageT.StorageIndex.index in
    let grm = c.args.grm.now in
    let i = c.loop-core.core-index in
    let cores = c.args.cores.now in
    let before = c.loop-core.sets in
    let after = c.bring_one.new.sets in
    let one = c.bring_one.ensures in
    let so_far = c.loop-core.invariant in
    let more = map-take_more (core_set index) cores i c.core-item.result c.loop-core-test.true c.core-item.is in (
      one.sets,
      rest_still grm before after (λ r t h. (one.exact r t).1 (inl h)) one.resting so_far.1,
      brought_more grm (map (core_set index) (take i cores)) (map (core_set index) (take (i + 1) cores)) (core_set index c.core-item.result)
          (brought_rows before) (brought_rows after) more so_far.2 one.exact,
    )

pub returns-clause-exact : goal.returns-clause-exact
returns-clause-exact g c =
    let index = g.StorageT.StorageIndex.index in
    let grm = c.args.grm.now in
    let cores = c.args.cores.now in
    let before = brought_rows c.loop-core.sets in
    let all = take_all c.loop-core.core-index cores c.loop-core-test.false in
    let own : (r t : ℕ) → HasIn before r t ↔ AreBringing grm (map (core_set index) cores) r t =
    subst (λ cs. (r t : ℕ) → HasIn before r t ↔ AreBringing grm (map (core_set index) cs) r t) all c.loop-core.invariant.2 in
    brought_by_cores grm (map (core_set index) cores) before (brought_rows c.spread.new.sets) own c.spread.ensures.exact
