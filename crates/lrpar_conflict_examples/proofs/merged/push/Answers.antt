use Rattle.std.proofs.Common.{sym, refl, subst}
use Rattle.std.specs.List.{Contains}
use Rattle.std.proofs.lemmas.Result.{on_ok_weaker}
use Rattle.lrpar_table_build.specs.BuilderLaws.{lists_in}
use Rattle.lrpar_conflict_examples.specs.Conflicts.{ConflictExampleOf, unmet_of}
use Rattle.lrpar_conflict_examples.specs.ExamplesFit.{ExampleFits}
use Rattle.lrpar_conflict_examples.specs.Merged.{AddsExample, Apart, IsSetApart, WithExample}
use Rattle.lrpar_conflict_examples.proofs.DealtLemmas.{fit_more}
use Rattle.lrpar_conflict_examples.proofs.ListedLemmas.{like_fits}
use Rattle.lrpar_conflict_examples.proofs.SortedLemmas.{first_like}
use Rattle.lrpar_conflict_examples.proofs.merged.push.Goals as goal

pub example_of-requires-clause-listed : goal.example_of-requires-clause-listed
example_of-requires-clause-listed g c =
    let index = g.StorageT.StorageIndex.index in
    let own = unmet_of index c.in-Some.own in
    let like = first_like index c.args.canonical.now c.args.conflict own (sym c.in-Some.ensures) in
    subst (λ l. Contains l own) c.requires.canonical.listed like.0

pub returns-in_ok-example-in-Some-clause-fit : goal.returns-in_ok-example-in-Some-clause-fit
returns-in_ok-example-in-Some-clause-fit g c =
    let index = g.StorageT.StorageIndex.index in
    let grm = c.args.grm.now in
    let canonical = c.args.canonical.now in
    let own = unmet_of index c.in-Some.own in
    let like = first_like index canonical c.args.conflict own (sym c.in-Some.ensures) in
    let there = subst (λ l. Contains l own) c.requires.canonical.listed like.0 in
    let fits =
    like_fits grm canonical.sgraph c.args.bound (lists_in canonical.stable.conflicts) own (unmet_of index c.args.conflict) c.in_ok-example-in-Some.example
    c.requires.canonical.ready.built.fit there like.1 c.in_ok-example-in-Some.ensures in
    on_ok_weaker c.push_example.result
    (λ (added : AddsExample c.new.result c.args.found.now c.push_example.new.found).
    fit_more grm c.args.found.now.examples.items c.push_example.new.found.examples.items c.new.result c.requires.fit
    (subst (ExampleFits grm) (sym c.new.ensures) fits) added.examples) c.push_example.ensures.examples

pub returns-in_ok-example-in-Some-clause-dealt : goal.returns-in_ok-example-in-Some-clause-dealt
returns-in_ok-example-in-Some-clause-dealt g c =
    let index = g.StorageT.StorageIndex.index in
    let own = unmet_of index c.in-Some.own in
    let conflict = unmet_of index c.args.conflict in
    let made : ConflictExampleOf = record { conflict = conflict; example = c.in_ok-example-in-Some.example } in
    on_ok_weaker c.push_example.result
    (λ (added : AddsExample c.new.result c.args.found.now c.push_example.new.found).
    WithExample own made (sym c.in-Some.ensures) refl c.in_ok-example-in-Some.ensures
    (subst (λ x. AddsExample x c.args.found.now c.push_example.new.found) c.new.ensures added)) c.push_example.ensures.examples

pub returns-in-None-clause-dealt : goal.returns-in-None-clause-dealt
returns-in-None-clause-dealt g c =
    let index = g.StorageT.StorageIndex.index in
    on_ok_weaker c.push_apart.result
    (λ (apart : IsSetApart c.args.canonical.now c.args.conflict (index c.args.conflict.state.0) c.args.found.now c.push_apart.new.found).
    Apart (sym c.in-None.ensures) apart) c.push_apart.ensures.apart
