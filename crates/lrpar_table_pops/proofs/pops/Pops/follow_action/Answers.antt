use Rattle.std.proofs.Common.{◌∙◌, ap, subst, sym}
use Rattle.lrpar_table_rows.specs.PlainRows.{plain_action}
use Rattle.lrpar_table_pops.proofs.StepLemmas.{accept_pops}
use Rattle.lrpar_table_rows.specs.Table.{TableAction}
use Rattle.lrpar_table_pops.specs.FollowAll.{FollowsAllBy}
use Rattle.lrpar_table_pops.proofs.FollowAllLemmas.{accept_finds}
use Rattle.lrpar_table_pops.proofs.pops.Pops.follow_action.Goals as goal

pub returns-in-Shift-clause-follows : goal.returns-in-Shift-clause-follows
returns-in-Shift-clause-follows g c = c.follow_kept.ensures.follows c.args.action

pub returns-in-Accept-clause-follows : goal.returns-in-Accept-clause-follows
returns-in-Accept-clause-follows g c = λ table s at action leads are alone found.
    let index = g.StorageT.StorageIndex.index in
    let act = action ∙ ap (plain_action index) c.in-Accept.is in
    c.add_acceptance.ensures.stays c.args.grm.now table s at
    (λ q is. leads q (accept_pops c.args.grm.now table (index c.args.next.0) (index c.args.token.0) alone act q is)) found

pub returns-in-Shift-clause-all : goal.returns-in-Shift-clause-all
returns-in-Shift-clause-all g c =
    let index = g.StorageT.StorageIndex.index in
    subst (λ (a : TableAction). FollowsAllBy index c.args.grm.now c.args.self.now c.args.next c.args.token a c.args.found.now c.follow_kept.new.found)
    (sym (ap (plain_action index) c.in-Shift.is)) (λ right. c.follow_kept.ensures.all)

pub returns-in-Reduce-clause-all : goal.returns-in-Reduce-clause-all
returns-in-Reduce-clause-all g c =
    let index = g.StorageT.StorageIndex.index in
    subst (λ (a : TableAction). FollowsAllBy index c.args.grm.now c.args.self.now c.args.next c.args.token a c.args.found.now c.follow_reduction.new.found)
    (sym (ap (plain_action index) c.in-Reduce.is)) c.follow_reduction.ensures.all

pub returns-in-Accept-clause-all : goal.returns-in-Accept-clause-all
returns-in-Accept-clause-all g c =
    let index = g.StorageT.StorageIndex.index in
    let gr = c.args.grm.now in
    let t = index c.args.token.0 in
    subst (λ (a : TableAction). FollowsAllBy index gr c.args.self.now c.args.next c.args.token a c.args.found.now c.add_acceptance.new.self)
    (sym (ap (plain_action index) c.in-Accept.is))
    (λ right. accept_finds gr c.from.result c.args.found.now c.add_acceptance.new.self (c.from.ensures ∙ right) (c.add_acceptance.ensures.all gr))
