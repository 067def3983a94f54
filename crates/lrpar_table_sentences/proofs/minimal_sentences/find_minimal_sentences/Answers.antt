use Rattle.std.proofs.Common.{◌^◌, ◌-◌, ◌∙◌, sym, subst}
use Rattle.lrpar_table_sentences.specs.Choices.{choice_of, choices_of}
use Rattle.lrpar_table_sentences.specs.Lens.{NoneIsBelow, NoneIsLess, NoneIsOpen}
use Rattle.lrpar_table_sentences.proofs.FixLemmas.{all_fixed, none_is_below, nothing_at, nothing_len, right_none}
use Rattle.lrpar_table_sentences.proofs.minimal_sentences.find_minimal_sentences.Goals as goal

pub levels-init : goal.levels-init
levels-init g c =
    let index = g.StorageT.StorageIndex.index in
    let items = c.in_ok-choices.choices.items in
    let none = c.in_ok-choices.ensures in
    right_none c.args.grm.now (2 ^ 64 - 1) (choices_of index items) (nothing_len (choice_of index) _ items none ∙ c.rules_len.ensures.len)
    (nothing_at (choice_of index) _ items none)

pub keep_least-requires-clause-least : goal.keep_least-requires-clause-least
keep_least-requires-clause-least g c =
    let index = g.StorageT.StorageIndex.index in
    let grm = c.args.grm.now in
    let items = c.levels.choices.items in
    let less = subst (λ xs. NoneIsLess grm (2 ^ 64 - 1) (choices_of index xs) c.in-Some.len) c.deref.ensures.value c.in-Some.ensures.1 in
    subst (λ xs. NoneIsBelow grm (choices_of index xs) c.in-Some.len) (sym c.deref_mut.ensures.value)
    (none_is_below grm (2 ^ 64 - 1) (choices_of index items) c.levels.invariant c.in-Some.len less)

pub returns : goal.returns
returns g c =
    let index = g.StorageT.StorageIndex.index in
    let grm = c.args.grm.now in
    let items = c.levels.choices.items in
    let closed = subst (λ xs. NoneIsOpen grm (2 ^ 64 - 1) (choices_of index xs)) c.deref.ensures.value c.in_default.ensures in
    all_fixed grm (2 ^ 64 - 1) (choices_of index items) c.levels.invariant closed
