use Rattle.std.proofs.Common.{sym, subst}
use Rattle.std.specs.List.{All}
use Rattle.lrpar_grammar_yacc.specs.Erasure.{AreBlanked, IsPartOfText}
use Rattle.lrpar_grammar_yacc.proofs.BlankLemmas.{blanked_from}
use Rattle.lrpar_grammar_yacc.proofs.StepLemmas.{parts_within}
use Rattle.lrpar_grammar_yacc.proofs.faults.YaccText.read.Goals as goal

pub of_parts-requires : goal.of_parts-requires
of_parts-requires c =
    subst (All (IsPartOfText c.args.text.now)) (sym c.deref.ensures.value) (parts_within c.args.text.now c.in_ok-parts.parts.parts.items 0 c.in_ok-parts.ensures.apart)

pub first_fault-requires : goal.first_fault-requires
first_fault-requires c = parts_within c.args.text.now c.in_ok-parts.parts.parts.items 0 c.in_ok-parts.ensures.apart

pub returns-clause-places : goal.returns-clause-places
returns-clause-places c =
    subst (AreBlanked c.args.text.now) (sym c.in_ok-erase.ensures) (blanked_from c.args.text.now c.in_ok-parts.parts.parts.items 0 c.in_ok-parts.ensures.apart)
