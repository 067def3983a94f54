use Rattle.std.proofs.Common.{refl, subst, sym, ◌∙◌}
use Rattle.std.specs.List.{AllByRecursion}
use Rattle.lrpar_parse_trees.specs.TreeText.{all_met}
use Rattle.lrpar_parse_trees.proofs.TreeTextLemmas.{fit_root, fit_below, fit_whole}
use Rattle.lrpar_parse_trees.proofs.FitsLemmas.{fit, refused}
use Rattle.lrpar_parse_trees.proofs.WalkLemmas.{children_nonterm, children_term}
use Rattle.lrpar_parse_trees.proofs.node.Node.fits.Goals as goal

pub returns-then-not-root_fits : goal.returns-then-not-root_fits
returns-then-not-root_fits g c =
    let P = fit g.StorageT.StorageIndex.index g.LexemeT.Lexeme.parts c.args.grm.now c.args.input.now in
    refused c.root_fits.result c.if-not-root_fits.true (c.root_fits.ensures 0) (fit_root P c.args.self.now 0)

pub returns-in-Term : goal.returns-in-Term
returns-in-Term g c =
    let P = fit g.StorageT.StorageIndex.index g.LexemeT.Lexeme.parts c.args.grm.now c.args.input.now in
    let none = sym (children_term c.args.self.now c.in-Term.lexeme c.in-Term.is) in (
      (λ h. fit_whole P c.args.self.now 0 ((c.root_fits.ensures 0).0 c.if-not-root_fits.false) (subst (λ nodes. AllByRecursion P (all_met 1 nodes)) none tt)),
      (λ all. refl),
    )

pub returns-in-Nonterm : goal.returns-in-Nonterm
returns-in-Nonterm g c =
    let P = fit g.StorageT.StorageIndex.index g.LexemeT.Lexeme.parts c.args.grm.now c.args.input.now in
    let below = children_nonterm c.args.self.now c.in-Nonterm.ridx c.in-Nonterm.nodes c.in-Nonterm.is ∙ sym c.deref.ensures.value in (
      (λ h. fit_whole P c.args.self.now 0 ((c.root_fits.ensures 0).0 c.if-not-root_fits.false)
          (subst (λ nodes. AllByRecursion P (all_met 1 nodes)) (sym below) (c.all_fit.ensures.0 h))),
      (λ all. c.all_fit.ensures.1 (subst (λ nodes. AllByRecursion P (all_met 1 nodes)) below (fit_below P c.args.self.now 0 all))),
    )
