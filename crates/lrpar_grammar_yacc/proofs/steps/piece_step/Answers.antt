use Rattle.std.proofs.Common.{sym, subst, arith}
use Rattle.lrpar_grammar_yacc.specs.Steps.{IsStepWithin}
use Rattle.lrpar_grammar_yacc.proofs.EndLemmas.{blank_ends}
use Rattle.lrpar_grammar_yacc.proofs.steps.piece_step.Goals as goal

pub returns-in-None-clause-within : goal.returns-in-None-clause-within
returns-in-None-clause-within c =
    let rest = c.args.rest.now in
    let x = c.in_ok-piece.piece in
    let fits = c.in_ok-piece.ensures.within in
    subst (IsStepWithin rest) (sym c.word_step.ensures)
    (record { some = fits.some; body = omega arith; most = fits.most; end = blank_ends rest x (sym c.in_ok-piece.ensures.piece) c.in-None.is })
