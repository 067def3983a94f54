use Rattle.std.proofs.Common.{sym, subst}
use Rattle.lrpar_grammar_reader.specs.SpansFit.{SpansFit}
use Rattle.lrpar_grammar_reader.specs.Spells.{Spells}
use Rattle.lrpar_grammar.proofs.grammar.value.YaccGrammar.new_with_storaget.Goals as goal

pub returns-clause-spelled : goal.returns-clause-spelled
returns-clause-spelled g c = subst (Spells c.args.text.now) (sym c.in_ok-made.ensures.made) c.in_ok-parts.ensures.spelled

pub returns-clause-fits : goal.returns-clause-fits
returns-clause-fits g c =
    let text = c.args.text.now in
    subst (λ grm. SpansFit grm text) (sym c.in_ok-made.ensures.made) c.in_ok-parts.ensures.fits
