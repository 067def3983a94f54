use Rattle.std.proofs.Common.{ap, List, None, subst, ℕ}
use Rattle.lrpar_table_pops.specs.StoredAll.{StartsFrom, StoresAll}
use Rattle.lrpar_table_pops.specs.declared.exits.Exit.{Exit}
use Rattle.lrpar_table_pops.specs.Sets.{RuleTokens}
use Rattle.lrpar_table_pops.proofs.StepLemmas.{found_at_any, nothing_found, pops_at_any}
use Rattle.lrpar_table_pops.proofs.SaturateLemmas.{add_saturates, cleared_room, right_actions}
use Rattle.lrpar_table_pops.proofs.pops.Pops.add_at_any.Goals as goal

pub returns-clause-pops : goal.returns-clause-pops
returns-clause-pops g c =
    let index = g.StorageT.StorageIndex.index in
    let d = c.args.checked.now in
    let s = index c.args.state.0 in
    let are = c.requires.pops in
    let alone = c.requires.alone in
    let none = nothing_found d.grammar d.table s None c.clear.new.self c.clear.ensures.exits c.clear.ensures.reduced in
    let started = c.start_all.ensures.right are alone none in
    let found = c.follow.ensures.follows None are alone started in
    c.unite_any.ensures.stays d.grammar d.table
    (pops_at_any d.grammar d.table s c.from.result c.exits.result.now c.from.ensures
    (found_at_any d.grammar d.table s c.follow.new.found c.exits.result.now c.exits.ensures found)) are

pub returns-clause-all : goal.returns-clause-all
returns-clause-all g c = λ sound low room places.
    let d = c.args.checked.now in
    let s = g.StorageT.StorageIndex.index c.args.state.0 in
    let old = c.args.self.now in
    let new = c.unite_any.new.self in
    let cleared = c.clear.new.self in
    let started = c.start_all.new.found in
    let found = c.follow.new.found in
    let rights = right_actions d.grammar d.graph d.table sound in
    let empty = cleared_room d.grammar d.graph s c.args.found.now cleared c.clear.ensures.places c.clear.ensures.room.0 c.clear.ensures.room.1 room in
    let stores = subst (λ (n : ℕ). StoresAll n None found.exits old new) c.from.ensures
    (subst (λ (l : List Exit). StoresAll c.from.result None l old new) c.exits.ensures c.unite_any.ensures.all) in
    add_saturates d.grammar d.graph d.table sound s None c.unite_any.result old new (StartsFrom d.grammar d.table old s) cleared started found low places empty
    c.clear.ensures.followed (c.start_all.ensures.all rights) (ap (λ (v : RuleTokens). v.items) c.start_all.ensures.followed)
    (c.follow.ensures.all d.graph rights) c.follow.ensures.done (λ t q one start. (t, start)) stores c.unite_any.ensures.same
