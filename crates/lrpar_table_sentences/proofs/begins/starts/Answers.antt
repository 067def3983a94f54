use Rattle.std.proofs.Common.{◌<◌, ◌^◌, ◌-◌, ◌∙◌, subst, sym, ℕ}
use Rattle.std.proofs.lemmas.Bool.{OnFalse_at}
use Rattle.lrpar_grammar.specs.Grammar.{prods_len}
use Rattle.lrpar_table_sentences.specs.Choices.{choices_of}
use Rattle.lrpar_table_sentences.specs.Starts.{CanStart, start_of, starts_of}
use Rattle.lrpar_table_sentences.proofs.GrowthLemmas.{whole_back}
use Rattle.lrpar_table_sentences.proofs.FixLemmas.{nothing_at, nothing_len}
use Rattle.lrpar_table_sentences.proofs.StartLemmas.{starts_none}
use Rattle.lrpar_table_sentences.proofs.begins.starts.Goals as goal

pub passes-init : goal.passes-init
passes-init g c =
    let index = g.StorageT.StorageIndex.index in
    let items = c.in_ok-starts.starts.items in
    let none = c.in_ok-starts.ensures in
    starts_none c.args.grm.now (choices_of index c.args.choices.now) (index c.args.first.0) (starts_of index items)
    (nothing_len (start_of index) _ items none ∙ c.rules_len.ensures.len) (nothing_at (start_of index) _ items none)

pub returns-clause-closed : goal.returns-clause-closed
returns-clause-closed g c =
    let index = g.StorageT.StorageIndex.index in
    let old = c.passes.starts.items in
    let new = c.grow_all.new.starts in
    let back = whole_back old c.deref_mut.result.now new _ c.passes.starts.ok.0 c.deref_mut.ensures.value c.grow_all.auto.starts in
    subst (λ xs. (p : ℕ) → p < prods_len c.args.grm.now → CanStart c.args.grm.now (2 ^ 64 - 1) (choices_of index c.args.choices.now) (index c.args.first.0) (starts_of index xs) p)
    (sym back) (OnFalse_at c.passes-test.false c.grow_all.ensures.closed)
