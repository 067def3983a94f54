use Rattle.lrpar_grammar.proofs.SpelledPartsLemmas.{pushed_more}
use Rattle.lrpar_grammar.proofs.grammar.spelled_parts.push_positions.Goals as goal

pub loop-place-preserved : goal.loop-place-preserved
loop-place-preserved c =
    pushed_more (λ place. (c.args.part, place)) c.args.places.now.items c.loop-place.places.items c.push.new.self.items c.loop-place.place
    c.loop-place.invariant c.in_ok-push.ensures.items
