use Rattle.std.proofs.Common.{◌∙◌}
use Rattle.lrpar_grammar_yacc.proofs.DeclareLemmas.{declared_more}
use Rattle.lrpar_grammar_yacc.proofs.declarations.Declarations.of_parts.Goals as goal

pub loop-part-preserved : goal.loop-part-preserved
loop-part-preserved c =
    let step = rw c.loop-part.invariant at c.in_ok-add_part.ensures in
    step ∙ declared_more c.args.text.now c.args.parts.now c.loop-part.part-index _ c.loop-part-test.true
