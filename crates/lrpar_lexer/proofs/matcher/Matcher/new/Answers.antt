use Rattle.lrpar_lexer.proofs.AnchoredLemmas.{finds_text}
use Rattle.lrpar_lexer.proofs.matcher.Matcher.new.Goals as goal

pub invariant_of-result : goal.invariant_of-result
invariant_of-result c = record { finds = finds_text c.args.program.now c.in-Some.text.now c.in-Some.ensures.text }
