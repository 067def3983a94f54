use Rattle.std.proofs.Common.{◌<◌, ◌^◌, ◌-◌, ◌∙◌, arith, lit≤, sym, subst, ap}
use Rattle.std.proofs.lemmas.List.{length-map}
use Rattle.std.specs.Option.{option_map}
use Rattle.lrpar_table_sentences.specs.Choices.{choices_of}
use Rattle.lrpar_table_sentences.specs.Starts.{AreStarts, start_at, start_of, starts_of, starts_open}
use Rattle.lrpar_table_sentences.proofs.StartLemmas.{grown_less, grown_starts, is_none_by, starts_already, starts_nowhere}
use Rattle.lrpar_table_sentences.proofs.begins.grow.Goals as goal

pub returns-then-begins_by-clause-closed : goal.returns-then-begins_by-clause-closed
returns-then-begins_by-clause-closed g c =
    let index = g.StorageT.StorageIndex.index in
    starts_already c.args.grm.now (2 ^ 64 - 1) (choices_of index c.args.choices.now) (index c.args.first.0) (starts_of index c.args.starts.now) (index c.args.pidx.0)
    (index c.prod_to_rule-rule.result.0) c.prod_to_rule-rule.ensures.rule (sym c.begins_by.ensures ∙ c.if-begins_by.true)

pub keep-requires : goal.keep-requires
keep-requires g c =
    let index = g.StorageT.StorageIndex.index in
    let long = length-map c.args.starts.now (option_map (start_of index)) in
    let count = c.requires.kept.starts.rules in
    omega (arith, long, count, c.prod_to_rule-rule.ensures.within, c.from.ensures)

pub returns-in-Some-clause-kept : goal.returns-in-Some-clause-kept
returns-in-Some-clause-kept g c =
    let index = g.StorageT.StorageIndex.index in
    let choices = choices_of index c.args.choices.now in
    let low = c.prod_to_rule-rule.ensures.within in
    let none = is_none_by _ (sym c.begins_by.ensures ∙ c.if-begins_by.false) in
    record {
      right = c.requires.kept.right;
      starts = subst (λ xs. AreStarts c.args.grm.now choices (index c.args.first.0) (starts_of index xs)) (sym c.keep.ensures)
          (grown_starts index c.args.grm.now (2 ^ 64 - 1) choices c.requires.kept.right (index c.args.first.0) c.args.starts.now c.requires.kept.starts c.args.pidx c.in-Some.place c.from.result
          c.requires.prod (c.from.ensures ∙ c.prod_to_rule-rule.ensures.rule) (omega (arith, low, c.from.ensures)) (ap (start_at (starts_of index c.args.starts.now)) c.from.ensures ∙ none) (sym c.in-Some.ensures) (lit≤ tt));
    }

pub returns-in-Some-clause-grown : goal.returns-in-Some-clause-grown
returns-in-Some-clause-grown g c =
    let index = g.StorageT.StorageIndex.index in
    let choices = choices_of index c.args.choices.now in
    let low = c.prod_to_rule-rule.ensures.within in
    let none = is_none_by _ (sym c.begins_by.ensures ∙ c.if-begins_by.false) in
    subst (λ xs. starts_open (starts_of index xs) < starts_open (starts_of index c.args.starts.now)) (sym c.keep.ensures)
    (grown_less index c.args.grm.now (2 ^ 64 - 1) choices c.requires.kept.right (index c.args.first.0) c.args.starts.now c.requires.kept.starts c.args.pidx c.in-Some.place c.from.result
    c.requires.prod (c.from.ensures ∙ c.prod_to_rule-rule.ensures.rule) (omega (arith, low, c.from.ensures)) (ap (start_at (starts_of index c.args.starts.now)) c.from.ensures ∙ none) (sym c.in-Some.ensures))

pub returns-in-None-clause-closed : goal.returns-in-None-clause-closed
returns-in-None-clause-closed g c =
    let index = g.StorageT.StorageIndex.index in
    starts_nowhere c.args.grm.now (2 ^ 64 - 1) (choices_of index c.args.choices.now) (index c.args.first.0) (starts_of index c.args.starts.now) (index c.args.pidx.0)
    (sym c.in-None.ensures)
