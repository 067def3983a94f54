use Rattle.std.proofs.Common.{◌≡◌, ◌∙◌, List, ap, subst, sym, ℕ}
use Rattle.lrpar_grammar.specs.Grammar.{end_token, prod_len}
use Rattle.lrpar_table_rows.specs.Table.{TableAction}
use Rattle.lrpar_table_pops.specs.Closed.{StartsIn}
use Rattle.lrpar_table_pops.specs.FoundAll.{FindsAll}
use Rattle.lrpar_table_pops.specs.FollowAll.{IsRightAction}
use Rattle.lrpar_table_pops.specs.Pops.{Dropping}
use Rattle.lrpar_table_pops.specs.StoredPops.{any_of}
use Rattle.lrpar_table_pops.proofs.FollowAllLemmas.{accept_finds, same_finds, stored_find}
use Rattle.lrpar_table_rows.specs.PlainRows.{plain_action}
use Rattle.lrpar_table_pops.specs.Exits.{HasExit}
use Rattle.lrpar_table_pops.specs.declared.exits.Exit.{Exit}
use Rattle.lrpar_table_pops.proofs.StepLemmas.{accept_leads, reduce_leads, same_dropping, shift_leads}
use Rattle.lrpar_table_pops.proofs.pops.Pops.start.Goals as goal

pub returns-in-Some-clause-right : goal.returns-in-Some-clause-right
returns-in-Some-clause-right g c = λ table s at action one are alone found.
    let index = g.StorageT.StorageIndex.index in
    let act = action ∙ ap (plain_action index) c.in-Shift.is in
    c.add_all.ensures.stays table s at
    (λ q has.
    shift_leads c.args.grm.now table s at (index c.args.token.0) (index c.in-Shift.next.0) c.args.self.now are one act q
    (subst (λ (l : List Exit). HasExit l q) c.in-Some.ensures.exits has)) found

pub returns-in-Some-symbols_len-clause-right : goal.returns-in-Some-symbols_len-clause-right
returns-in-Some-symbols_len-clause-right g c = λ table s at action one are alone found.
    let index = g.StorageT.StorageIndex.index in
    let p = index c.in-Reduce.prod.0 in
    let t = index c.args.token.0 in
    let act = action ∙ ap (plain_action index) c.in-Reduce.is in
    c.reduce.ensures.stays table s at
    (λ q is.
    reduce_leads c.args.grm.now table s at t p c.in-Some-symbols_len.len one act c.in-Some-symbols_len.ensures.len q
    (is ∙ same_dropping c.from.result p c.in-Some-symbols_len.len c.from-in-Some-symbols_len.result t c.from.ensures c.from-in-Some-symbols_len.ensures)) found

pub returns-in-Accept-clause-right : goal.returns-in-Accept-clause-right
returns-in-Accept-clause-right g c = λ table s at action one are alone found.
    let index = g.StorageT.StorageIndex.index in
    let act = action ∙ ap (plain_action index) c.in-Accept.is in
    c.add_acceptance.ensures.stays c.args.grm.now table s at (λ q is. accept_leads c.args.grm.now table s at (index c.args.token.0) alone one act q is) found

pub returns-in-Some-clause-all : goal.returns-in-Some-clause-all
returns-in-Some-clause-all g c = λ right.
    let index = g.StorageT.StorageIndex.index in
    let gr = c.args.grm.now in
    let found = c.args.found.now in
    let new = c.add_all.new.self in
    subst (λ (a : TableAction). FindsAll gr (StartsIn gr c.args.self.now (index c.args.token.0) a) found new) (sym (ap (plain_action index) c.in-Shift.is))
    (stored_find gr (any_of c.args.self.now (index c.in-Shift.next.0)) c.in-Some.exits.now found new c.in-Some.ensures.exits c.add_all.ensures.all)

pub returns-in-Some-symbols_len-clause-all : goal.returns-in-Some-symbols_len-clause-all
returns-in-Some-symbols_len-clause-all g c = λ right.
    let index = g.StorageT.StorageIndex.index in
    let gr = c.args.grm.now in
    let p = index c.in-Reduce.prod.0 in
    let t = index c.args.token.0 in
    let len = c.in-Some-symbols_len.len in
    let found = c.args.found.now in
    let new = c.reduce.new.self in
    subst (λ (a : TableAction). FindsAll gr (StartsIn gr c.args.self.now t a) found new) (sym (ap (plain_action index) c.in-Reduce.is))
    (same_finds gr (Dropping c.from.result len c.from-in-Some-symbols_len.result) (Dropping p (prod_len gr p) t) found new
    (sym (same_dropping c.from.result p len c.from-in-Some-symbols_len.result t c.from.ensures c.from-in-Some-symbols_len.ensures ∙ ap (λ (n : ℕ). Dropping p n t) c.in-Some-symbols_len.ensures.len))
    c.reduce.ensures.all)

pub returns-in-Accept-clause-all : goal.returns-in-Accept-clause-all
returns-in-Accept-clause-all g c = λ right.
    let index = g.StorageT.StorageIndex.index in
    let gr = c.args.grm.now in
    let t = index c.args.token.0 in
    let found = c.args.found.now in
    let new = c.add_acceptance.new.self in
    let end : t ≡ end_token gr = subst (IsRightAction gr t) (ap (plain_action index) c.in-Accept.is) right in
    subst (λ (a : TableAction). FindsAll gr (StartsIn gr c.args.self.now t a) found new) (sym (ap (plain_action index) c.in-Accept.is))
    (accept_finds gr c.from-in-Accept.result found new (c.from-in-Accept.ensures ∙ end) (c.add_acceptance.ensures.all gr))
