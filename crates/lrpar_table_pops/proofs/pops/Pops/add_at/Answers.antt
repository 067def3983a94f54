use Rattle.std.proofs.Common.{ap, List, Some, refl, subst, ℕ}
use Rattle.lrpar_table_rows.specs.PlainRows.{plain_action}
use Rattle.lrpar_table_rows.specs.Table.{TableAction, action_of}
use Rattle.std.proofs.lemmas.Bool.{OnFalse_at}
use Rattle.lrpar_table_pops.specs.Closed.{StartsIn}
use Rattle.lrpar_table_pops.specs.FollowAll.{IsRightAction}
use Rattle.lrpar_table_pops.specs.StoredAll.{StoresAll}
use Rattle.lrpar_table_pops.specs.declared.exits.Exit.{Exit}
use Rattle.lrpar_table_pops.specs.Sets.{RuleTokens}
use Rattle.lrpar_table_pops.proofs.StepLemmas.{found_at, nothing_found, pops_at}
use Rattle.lrpar_table_pops.proofs.SaturateLemmas.{add_saturates, cleared_room, right_actions, skip_saturates}
use Rattle.lrpar_table_pops.proofs.pops.Pops.add_at.Goals as goal

pub returns-clause-pops : goal.returns-clause-pops
returns-clause-pops g c =
    let index = g.StorageT.StorageIndex.index in
    let d = c.args.checked.now in
    let s = index c.args.state.0 in
    let t = index c.args.token.0 in
    let are = c.requires.pops in
    let alone = c.requires.alone in
    let none = nothing_found d.grammar d.table s (Some t) c.clear.new.self c.clear.ensures.exits c.clear.ensures.reduced in
    let starts = rw c.grm.ensures at c.start.ensures.right in
    let started = starts d.table s (Some t) c.requires.acts refl are alone none in
    let found = c.follow.ensures.follows (Some t) are alone started in
    c.unite_at.ensures.stays d.grammar d.table
    (pops_at d.grammar d.table s t c.from.result c.from-2.result c.exits.result.now c.from.ensures c.from-2.ensures
    (found_at d.grammar d.table s t c.follow.new.found c.exits.result.now c.exits.ensures found)) are

pub returns-then-not-keeps-clause-all : goal.returns-then-not-keeps-clause-all
returns-then-not-keeps-clause-all g c = λ sound low room places.
    let index = g.StorageT.StorageIndex.index in
    let d = c.args.checked.now in
    skip_saturates d.grammar d.graph d.table sound (index c.args.state.0) (Some (index c.args.token.0)) c.args.self.now c.args.found.now low places room
    (OnFalse_at c.if-not-keeps.true c.keeps.ensures)

pub returns-clause-all : goal.returns-clause-all
returns-clause-all g c = λ sound low room places.
    let index = g.StorageT.StorageIndex.index in
    let d = c.args.checked.now in
    let s = index c.args.state.0 in
    let t = index c.args.token.0 in
    let action = plain_action index c.args.action in
    let old = c.args.self.now in
    let new = c.unite_at.new.self in
    let cleared = c.clear.new.self in
    let started = c.start.new.found in
    let found = c.follow.new.found in
    let rights = right_actions d.grammar d.graph d.table sound in
    let empty = cleared_room d.grammar d.graph s c.args.found.now cleared c.clear.ensures.places c.clear.ensures.room.0 c.clear.ensures.room.1 room in
    let starts = rw c.grm.ensures at c.start.ensures.all in
    let finds = starts (subst (IsRightAction d.grammar t) c.requires.acts (rights s t)) in
    let stores = subst (λ (n : ℕ). StoresAll n (Some t) found.exits old new) c.from.ensures
    (subst (λ (u : ℕ). StoresAll c.from.result (Some u) found.exits old new) c.from-2.ensures
    (subst (λ (l : List Exit). StoresAll c.from.result (Some c.from-2.result) l old new) c.exits.ensures c.unite_at.ensures.all)) in
    add_saturates d.grammar d.graph d.table sound s (Some t) c.unite_at.result old new (StartsIn d.grammar old t action) cleared started found low places empty
    c.clear.ensures.followed finds (ap (λ (v : RuleTokens). v.items) c.start.ensures.followed) (c.follow.ensures.all d.graph rights) c.follow.ensures.done
    (λ u q one start.
    subst (λ (a : TableAction). StartsIn d.grammar old t a q) c.requires.acts (subst (λ (v : ℕ). StartsIn d.grammar old v (action_of d.table s v) q) one start))
    stores c.unite_at.ensures.same
