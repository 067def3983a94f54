use Rattle.lrpar_grammar.specs.Matching.{HaveTexts}
use Rattle.lrpar_grammar.proofs.grammar.matching.Matching.first_without_text.Given as goal

-- the productions so far have places
abbrev pub invariant-loop-prod : goal.invariant-loop-prod
invariant-loop-prod l = HaveTexts l.self.places.items l.prod
