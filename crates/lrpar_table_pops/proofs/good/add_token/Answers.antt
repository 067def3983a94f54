use Rattle.std.proofs.Common.{◌≡◌, ◌∙◌, Bool, false, List, refl, subst, sym, true, ℕ}
use Rattle.std.specs.Prelude.{IsTrue}
use Rattle.std.proofs.lemmas.Bool.{OnFalse_at, OnFalse_from, OnTrue_at}
use Rattle.lrpar_grammar.specs.Tokens.{has}
use Rattle.lrpar_table_rows.specs.Table.{TableAction}
use Rattle.lrpar_table_pops.specs.AllGood.{IsGoodControl}
use Rattle.lrpar_table_pops.specs.Closed.{FollowsIn}
use Rattle.lrpar_table_pops.specs.Good.{AddsTokenBy, ReadsOn}
use Rattle.lrpar_table_pops.specs.Sets.{tokens_by}
use Rattle.lrpar_table_pops.proofs.GoodLemmas.{right_added}
use Rattle.lrpar_table_pops.proofs.good.add_token.Goals as goal

pub returns-then-has_token-clause-all : goal.returns-then-has_token-clause-all
returns-then-has_token-clause-all g c = λ q follows taken low.
    let index = g.StorageT.StorageIndex.index in
    let t = index c.args.token.0 in
    subst (λ (l : List (List Bool)). IsTrue (has (tokens_by l c.args.rule) t)) c.deref.ensures.value
    (subst (λ (u : ℕ). IsTrue (has (tokens_by c.deref.result.now c.args.rule) u)) c.from.ensures (sym c.has_token.ensures ∙ c.if-has_token.true))

pub returns-then-not-reads_on-clause-all : goal.returns-then-not-reads_on-clause-all
returns-then-not-reads_on-clause-all g c = λ q follows taken low.
    let index = g.StorageT.StorageIndex.index in
    let gr = c.args.checked.now.grammar in
    let here = subst (λ (a : TableAction). FollowsIn gr c.args.pops.now (index c.args.next.0) (index c.args.token.0) a q) (sym c.requires.action) follows in
    let by = subst (λ (l : List (List Bool)). IsGoodControl gr c.args.good.now l q) (sym c.deref-2.ensures.value) taken in
    let no : true ≡ false = sym (c.reads_on.ensures.all q here by) ∙ c.if-not-reads_on.true in
    absurd (let none : ⊥ = cc in none)

pub returns-clause-keeps : goal.returns-clause-keeps
returns-clause-keeps g c = λ s goto leads.
    let index = g.StorageT.StorageIndex.index in
    let gr = c.args.checked.now.grammar in
    let table = c.args.checked.now.table in
    let good = c.args.good.now in
    let next = index c.args.next.0 in
    let token = index c.args.token.0 in
    let now = c.args.reduced.now.items in
    let new = c.insert_by.new.reduced.items in
    let added = subst (AddsTokenBy now new c.args.rule) c.from-2.ensures c.insert_by.ensures.adds in
    right_added gr table good c.args.rule next token now new added
    (subst (λ (l : List (List Bool)). ReadsOn gr table good l next token) c.deref-2.ensures.value (OnTrue_at c.if-not-reads_on.false c.reads_on.ensures.reads)) s goto leads

pub returns-clause-all : goal.returns-clause-all
returns-clause-all g c =
    let t = g.StorageT.StorageIndex.index c.args.token.0 in
    OnFalse_from c.insert_by.result _ (λ off q follows taken low.
    subst (λ (l : List (List Bool)). IsTrue (has (tokens_by l c.args.rule) t)) (OnFalse_at off c.insert_by.ensures.same)
    (c.insert_by.ensures.all.more c.args.rule t (refl, sym c.from-2.ensures) low))

pub returns-clause-sets : goal.returns-clause-sets
returns-clause-sets g c = record {
  keeps_room = c.insert_by.ensures.all.room;
  same = c.insert_by.ensures.same;
  room = c.insert_by.ensures.room;
  grown = c.insert_by.ensures.grown;
}
