use Rattle.std.proofs.Common.{List, Option, sym, ap, subst}
use Rattle.lrpar_table_sentences.specs.Choices.{AreShortest, ChoiceOf}
use Rattle.lrpar_conflict_derivations.specs.Example.{ExamplesOf}
use Rattle.lrpar_conflict_derivations.proofs.examples.Examples.one_text.Goals as goal

pub find_unifying-requires-clause-shortest : goal.find_unifying-requires-clause-shortest
find_unifying-requires-clause-shortest g c =
    subst (λ (w : List (Option ChoiceOf)). AreShortest c.args.grm.now 18446744073709551615 w)
    (sym (ap (λ (x : ExamplesOf). x.shortest) c.self.view_is)) c.requires.made.shortest
