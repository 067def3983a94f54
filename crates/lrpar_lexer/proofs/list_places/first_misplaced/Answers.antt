use Rattle.lrpar_lexer.proofs.ListPlaceLemmas.{fit_all, fit_more}
use Rattle.lrpar_lexer.proofs.list_places.first_misplaced.Goals as goal

pub loop-place-preserved : goal.loop-place-preserved
loop-place-preserved g c =
    fit_more c.args.text.now c.args.answers.now c.loop-place.place c.index-answers-place.result c.loop-place-test.true c.index-answers-place.is
    (c.fits.ensures.0 c.if-not-fits.false) c.loop-place.invariant

pub returns : goal.returns
returns g c = fit_all c.args.text.now c.args.answers.now c.loop-place.place c.loop-place-test.false c.loop-place.invariant
