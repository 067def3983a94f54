use Rattle.std.proofs.Common.{◌∙◌, Bool, List, Option, sym, ap, subst}
use Rattle.lrpar_table_first.specs.FirstRows.{rows_of}
use Rattle.lrpar_table_sentences.specs.Choices.{ChoiceOf}
use Rattle.lrpar_conflict_derivations.specs.Completion.{CanComplete}
use Rattle.lrpar_conflict_derivations.specs.Example.{ExamplesOf}
use Rattle.lrpar_conflict_derivations.specs.Stored.{AreAccessPath}
use Rattle.lrpar_conflict_derivations.proofs.examples.Examples.derivation.Goals as goal

pub derive-requires-clause-parts : goal.derive-requires-clause-parts
derive-requires-clause-parts g c =
    let firsts = ap rows_of c.deref.ensures.value ∙ ap (λ (x : ExamplesOf). x.firsts) c.self.view_is in
    let shortest = ap (λ (x : ExamplesOf). x.shortest) c.self.view_is in
    subst (λ (w : List (Option ChoiceOf)). CanComplete c.args.grm.now c.args.sgraph.now 18446744073709551615 (rows_of c.deref.result.now) w) (sym shortest)
    (subst (λ (rows : List (List Bool)). CanComplete c.args.grm.now c.args.sgraph.now 18446744073709551615 rows c.args.self.now.shortest) (sym firsts) c.requires.parts)

pub derive-requires-clause-access_path : goal.derive-requires-clause-access_path
derive-requires-clause-access_path g c =
    let index = g.StorageT.StorageIndex.index in
    subst (λ xs. AreAccessPath index c.args.grm.now c.args.sgraph.now xs c.args.conflict.now.state) (sym c.deref-2.ensures.value) c.requires.front.front.access_path

pub returns : goal.returns
returns g c = rw c.deref-3.ensures.value at (rw c.deref-2.ensures.value at c.derive.ensures)
