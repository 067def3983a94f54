use Rattle.std.proofs.Common.{◌≡◌, ◌-◌, ◌∙◌, ℕ, List, ap, length, subst, sym}
use Rattle.std.proofs.lemmas.List.{length-map}
use Rattle.std.proofs.lemmas.Bool.{OnTrue_from, OnTrue_at}
use Rattle.lrpar_grammar.specs.Grammar.{Grammar, GrammarSymbol, prod_len}
use Rattle.lrpar_table_rows.specs.PlainRows.{plain_action}
use Rattle.lrpar_table_rows.specs.declared.condition.SafetyCondition.TheVariants.{S7}
use Rattle.lrpar_table_pops.specs.Exits.{HasExit}
use Rattle.lrpar_table_pops.specs.Good.{GoesOn, SomeGoesOn}
use Rattle.lrpar_table_pops.specs.Pops.{Dropping, Done}
use Rattle.lrpar_table_pops.specs.StoredPops.{at_of}
use Rattle.lrpar_table_pops.proofs.GoodLemmas.{accept_reads, pop_reads, reduce_reads}
use Rattle.lrpar_table_rows.specs.Table.{TableAction}
use Rattle.lrpar_table_pops.specs.AllGood.{IsGoodExit}
use Rattle.lrpar_table_pops.specs.Closed.{FollowsIn}
use Rattle.lrpar_table_pops.specs.Growth.{HasLookahead}
use Rattle.lrpar_table_pops.specs.declared.exits.Way.TheVariants.{Acceptance, Reduction}
use Rattle.lrpar_table_pops.proofs.GoodAllLemmas.{done_reads, dropped_reads, kept_reads, kept_reduction}
use Rattle.lrpar_table_pops.proofs.good.reads_on.Goals as goal

pub returns-in-Accept-clause-reads : goal.returns-in-Accept-clause-reads
returns-in-Accept-clause-reads g c =
    let index = g.StorageT.StorageIndex.index in
    let action = sym c.requires.action ∙ ap (plain_action index) c.in-Accept.is in
    let end = (c.stable-lemma.ensures.sound.safe.each S7 (index c.args.next.0) c.requires.next (index c.args.token.0) action).0 in
    OnTrue_from c.is_good_at.result _ (λ is.
    accept_reads c.args.checked.now.grammar c.args.good.now c.args.reduced.now c.args.checked.now.table (index c.args.next.0) (index c.args.token.0) end action
    (subst (λ (x : Grammar). GoesOn x c.args.good.now c.args.reduced.now Done) c.grm-grm.ensures (OnTrue_at is c.is_good_at.ensures.good)))

pub returns-in-Shift-clause-reads : goal.returns-in-Shift-clause-reads
returns-in-Shift-clause-reads g c =
    let index = g.StorageT.StorageIndex.index in
    let next = index c.args.next.0 in
    OnTrue_from c.has_good_pop.result _ (λ is.
    pop_reads c.args.checked.now.grammar c.args.good.now c.args.reduced.now c.args.checked.now.table next (index c.args.token.0)
    (at_of c.args.pops.now next (index c.args.token.0)) (c.requires.pops.by_token next (index c.args.token.0))
    (subst (λ (t : ℕ). SomeGoesOn c.args.checked.now.grammar c.args.good.now c.args.reduced.now (HasExit (at_of c.args.pops.now next t))) c.from-in-Shift.ensures
    (subst (λ (x : Grammar). SomeGoesOn x c.args.good.now c.args.reduced.now (HasExit (at_of c.args.pops.now next c.from-in-Shift.result))) c.grm-grm.ensures
    (OnTrue_at is c.has_good_pop.ensures.good))))

pub returns-then-symbols-eq0-clause-reads : goal.returns-then-symbols-eq0-clause-reads
returns-then-symbols-eq0-clause-reads g c =
    let index = g.StorageT.StorageIndex.index in
    let next = index c.args.next.0 in
    let pop = c.has_good_pop-then-symbols-eq0 in
    let from = c.from-then-symbols-eq0 in
    OnTrue_from pop.result _ (λ is.
    pop_reads c.args.checked.now.grammar c.args.good.now c.args.reduced.now c.args.checked.now.table next (index c.args.token.0)
    (at_of c.args.pops.now next (index c.args.token.0)) (c.requires.pops.by_token next (index c.args.token.0))
    (subst (λ (t : ℕ). SomeGoesOn c.args.checked.now.grammar c.args.good.now c.args.reduced.now (HasExit (at_of c.args.pops.now next t))) from.ensures
    (subst (λ (x : Grammar). SomeGoesOn x c.args.good.now c.args.reduced.now (HasExit (at_of c.args.pops.now next from.result))) c.grm-grm.ensures
    (OnTrue_at is pop.ensures.good))))

pub returns-else-symbols-eq0-clause-reads : goal.returns-else-symbols-eq0-clause-reads
returns-else-symbols-eq0-clause-reads g c =
    let index = g.StorageT.StorageIndex.index in
    let good = c.args.good.now in
    let reduced = c.args.reduced.now in
    let p = index c.in-Reduce.prod.0 in
    let t = index c.args.token.0 in
    let symbols = length c.prod-symbols.result.now in
    let action = sym c.requires.action ∙ ap (plain_action index) c.in-Reduce.is in
    let all : symbols ≡ prod_len c.grm-grm.result.now p =
    sym (length-map c.prod-symbols.result.now _) ∙ ap (λ (l : List GrammarSymbol). length l) c.prod-symbols.ensures in
    let good_at = c.is_good_at-else-symbols-eq0 in
    OnTrue_from good_at.result _ (λ is.
    reduce_reads c.args.checked.now.grammar good reduced c.args.checked.now.table (index c.args.next.0) t p symbols action
    (subst (λ (x : Grammar). symbols ≡ prod_len x p) c.grm-grm.ensures all) c.if-symbols-eq0.false
    (subst (λ (x : Grammar). GoesOn x good reduced (Dropping p (symbols - 1) t)) c.grm-grm.ensures
    (subst (λ (q : ℕ). GoesOn c.grm-grm.result.now good reduced (Dropping q (symbols - 1) t)) c.from-prod.ensures
    (subst (λ (u : ℕ). GoesOn c.grm-grm.result.now good reduced (Dropping c.from-prod.result (symbols - 1) u)) c.from-else-symbols-eq0.ensures
    (OnTrue_at is good_at.ensures.good)))))

pub returns-in-Accept-clause-all : goal.returns-in-Accept-clause-all
returns-in-Accept-clause-all g c = λ q follows taken.
    let index = g.StorageT.StorageIndex.index in
    let gr = c.args.checked.now.grammar in
    let good = c.args.good.now in
    let reduced = c.args.reduced.now in
    let next = index c.args.next.0 in
    let t = index c.args.token.0 in
    let action = sym c.requires.action ∙ ap (plain_action index) c.in-Accept.is in
    let end = (c.stable-lemma.ensures.sound.safe.each S7 next c.requires.next t action).0 in
    let done = subst (λ (a : TableAction). FollowsIn gr c.args.pops.now next t a q) (ap (plain_action index) c.in-Accept.is) follows in
    let here = done_reads gr good reduced t q end done taken in
    c.is_good_at.ensures.all (subst (λ (u : ℕ). IsGoodExit c.grm-grm.result.now good reduced Acceptance u) (sym c.from.ensures)
    (subst (λ (x : Grammar). IsGoodExit x good reduced Acceptance t) (sym c.grm-grm.ensures) here))

pub returns-in-Shift-clause-all : goal.returns-in-Shift-clause-all
returns-in-Shift-clause-all g c = λ q follows taken.
    let index = g.StorageT.StorageIndex.index in
    let gr = c.args.checked.now.grammar in
    let good = c.args.good.now in
    let reduced = c.args.reduced.now in
    let next = index c.args.next.0 in
    let t = index c.args.token.0 in
    let stored = subst (λ (a : TableAction). FollowsIn gr c.args.pops.now next t a q) (ap (plain_action index) c.in-Shift.is) follows in
    kept_reads gr good reduced (at_of c.args.pops.now next t) q c.has_good_pop.result stored taken (λ way u h at.
    c.has_good_pop.ensures.all way u (subst (λ (v : ℕ). HasLookahead (at_of c.args.pops.now next v) way u) (sym c.from-in-Shift.ensures) h)
    (subst (λ (x : Grammar). IsGoodExit x good reduced way u) (sym c.grm-grm.ensures) at))

pub returns-then-symbols-eq0-clause-all : goal.returns-then-symbols-eq0-clause-all
returns-then-symbols-eq0-clause-all g c = λ q follows taken.
    let index = g.StorageT.StorageIndex.index in
    let gr = c.args.checked.now.grammar in
    let good = c.args.good.now in
    let reduced = c.args.reduced.now in
    let next = index c.args.next.0 in
    let t = index c.args.token.0 in
    let p = index c.in-Reduce.prod.0 in
    let pop = c.has_good_pop-then-symbols-eq0 in
    let from = c.from-then-symbols-eq0 in
    let symbols = length c.prod-symbols.result.now in
    let all : symbols ≡ prod_len c.grm-grm.result.now p =
    sym (length-map c.prod-symbols.result.now _) ∙ ap (λ (l : List GrammarSymbol). length l) c.prod-symbols.ensures in
    let len = subst (λ (x : Grammar). symbols ≡ prod_len x p) c.grm-grm.ensures all in
    let reduce = subst (λ (a : TableAction). FollowsIn gr c.args.pops.now next t a q) (ap (plain_action index) c.in-Reduce.is) follows in
    let stored = kept_reduction gr good reduced c.args.pops.now next t p symbols q len c.if-symbols-eq0.true reduce in
    kept_reads gr good reduced (at_of c.args.pops.now next t) q pop.result stored taken (λ way u h at.
    pop.ensures.all way u (subst (λ (v : ℕ). HasLookahead (at_of c.args.pops.now next v) way u) (sym from.ensures) h)
    (subst (λ (x : Grammar). IsGoodExit x good reduced way u) (sym c.grm-grm.ensures) at))

pub returns-else-symbols-eq0-clause-all : goal.returns-else-symbols-eq0-clause-all
returns-else-symbols-eq0-clause-all g c = λ q follows taken.
    let index = g.StorageT.StorageIndex.index in
    let gr = c.args.checked.now.grammar in
    let good = c.args.good.now in
    let reduced = c.args.reduced.now in
    let next = index c.args.next.0 in
    let t = index c.args.token.0 in
    let p = index c.in-Reduce.prod.0 in
    let symbols = length c.prod-symbols.result.now in
    let all : symbols ≡ prod_len c.grm-grm.result.now p =
    sym (length-map c.prod-symbols.result.now _) ∙ ap (λ (l : List GrammarSymbol). length l) c.prod-symbols.ensures in
    let len = subst (λ (x : Grammar). symbols ≡ prod_len x p) c.grm-grm.ensures all in
    let reduce = subst (λ (a : TableAction). FollowsIn gr c.args.pops.now next t a q) (ap (plain_action index) c.in-Reduce.is) follows in
    let here = dropped_reads gr good reduced c.args.pops.now next t p symbols q len c.if-symbols-eq0.false reduce taken in
    c.is_good_at-else-symbols-eq0.ensures.all
    (subst (λ (u : ℕ). IsGoodExit c.grm-grm.result.now good reduced (Reduction c.from-prod.result (symbols - 1)) u) (sym c.from-else-symbols-eq0.ensures)
    (subst (λ (n : ℕ). IsGoodExit c.grm-grm.result.now good reduced (Reduction n (symbols - 1)) t) (sym c.from-prod.ensures)
    (subst (λ (x : Grammar). IsGoodExit x good reduced (Reduction p (symbols - 1)) t) (sym c.grm-grm.ensures) here)))
