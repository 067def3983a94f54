use Rattle.std.proofs.Common.{ℕ, List, sym, subst, ◌∙◌}
use Rattle.std.proofs.lemmas.Bool.{false≢true}
use Rattle.lrpar_parse_errors.specs.LexParseText.{ErrorFits}
use Rattle.lrpar_parse_errors.proofs.errors.LexParseError.message.Goals as goal

pub returns-in-Ok-clause-unfit : goal.returns-in-Ok-clause-unfit
returns-in-Ok-clause-unfit g c =
    let span = λ (x : g.row.LexemeT.Denot). (g.LexemeT.Lexeme.parts x).span in
    let fits = subst (λ (input : List ℕ). ErrorFits g.ErrorT.LexError.place span input c.args.self.now) c.input.ensures.input
    (c.fits.ensures.0 c.if-fits.true) in
    λ unfit. absurd (unfit fits)

pub returns-else-fits-clause-text : goal.returns-else-fits-clause-text
returns-else-fits-clause-text g c =
    let span = λ (x : g.row.LexemeT.Denot). (g.LexemeT.Lexeme.parts x).span in
    λ fits.
    let here = subst (λ (input : List ℕ). ErrorFits g.ErrorT.LexError.place span input c.args.self.now) (sym c.input.ensures.input) fits in
    absurd (false≢true (sym c.if-fits.false ∙ c.fits.ensures.1 here))
