use Rattle.lrpar_grammar.proofs.RewritingLemmas.{leaves_are_derived, derived_are_leaves}
use Rattle.lrpar_grammar.specs.Sentence.{LexemeFacts}
use Rattle.lrpar_grammar.proofs.laws.trees_are_derivations.Goals as goal

pub returns : goal.returns
returns g c = record {
  derived = leaves_are_derived _;
  has_tree = derived_are_leaves _;
  facts_derived = leaves_are_derived LexemeFacts;
  facts_have_tree = derived_are_leaves LexemeFacts;
}
